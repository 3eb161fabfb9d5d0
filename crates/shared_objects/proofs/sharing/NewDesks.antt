-- A desk with seats that were just split off.
use Rattle.std.proofs.Common.{◌≡◌, ◌<◌, ◌==◌, cond, ℕ, Bool, true, false, List, [], ◌∷◌, All, length, get_or, Option, Some, None, arith, refl, sym, ap, subst, ◌∙◌}
use Rattle.atomic_table.specs.Seated.{TableId}
use Rattle.tick_clock.specs.Tickets.{PassState, fresh_pass}
use Rattle.seat_lock.specs.Seats.{LockId, SeatState, own}
use Rattle.run_machine.specs.Laws.{Object, OfPool, OfRescuer, OfDisk, OfBook, OfTally, OfNone}
use Rattle.run_machine.specs.Requests.{Request}
use Rattle.task_steps.specs.TaskViews.{TaskOf}
use Rattle.task_core.specs.Plains.{is_bios_number, by_kind}
use Rattle.task_core.specs.Tables.{look_up}
use Rattle.object_things.specs.Histories.{Call}
use Rattle.object_things.specs.Stamps.{Told}
use Rattle.shared_objects.specs.Calls.{calls_at}
use Rattle.shared_objects.specs.Holding.{AreSeatsOf, DeskHolds, IsPassOf, IsSeatOf, LocksHold, SeatsHold, calls_in, calls_of, desk_of, dev_key, set_key, slip_key, writer_key}
use Rattle.shared_objects.specs.Opening.{AreNew, IsNewAt, IsTaskAt, first_pass_of}
use Rattle.shared_objects.specs.Noting.{IsBlank}
use Rattle.shared_objects.specs.Rans.{IsNewDesk, IsOtherPass, IsUnused, RanState, unstepped}
use Rattle.shared_objects.specs.Rows.{Abreast}
use Rattle.shared_objects.specs.declared.locks.Locks.{Locks}
use Rattle.shared_objects.specs.declared.seats.TaskSeats.{TaskSeats}
use Rattle.shared_objects.proofs.leaving.FoundByNumber.{found_has}
use Rattle.shared_objects.proofs.row_lemmas.AbreastRows.{some_of, weaker_two}

module _ {K T : Type 0} (n : ℕ) (locks : List (K × LockId T)) (seats : List (K × SeatState T Request Told)) (are : Abreast (IsNewAt n) locks seats) where
  seats_of : AreSeatsOf n locks seats
  seats_of = weaker_two (IsNewAt n) (λ (lock : K × LockId T) (seat : K × SeatState T Request Told). (seat.0 ≡ lock.0) × IsSeatOf n lock.1 seat.1) (λ lock seat is. (is.0, is.1.0)) locks seats are

  none_in : (key : K → ℕ) (number : ℕ) → calls_in key seats number ≡ []
  none_in key number =
      found_has (λ (calls : List Call). calls ≡ []) (λ (e : K × SeatState T Request Told). key e.0) (λ (e : K × SeatState T Request Told). own e.1.known) (λ m. []) seats number refl
      (λ k d lt. let l = are.lens in let lock = some_of locks k (omega (arith, lt, l)) in (are.each k lock d (omega (arith, lt, l))).1.1)

none_by_pool : (vecs : List Call) (bios records : ℕ → List Call) (number : ℕ) → vecs ≡ [] → bios number ≡ [] → records number ≡ [] → by_kind vecs bios records number ≡ []
none_by_pool vecs bios records number v b r = by_case (number == 64) (is_bios_number number)
  where
    by_case : (x y : Bool) → cond x vecs (cond y (bios number) (records number)) ≡ []
    by_case true y = v
    by_case false true = b
    by_case false false = r

module _ (n : ℕ) (locks : Locks) (seats : TaskSeats) (are : AreNew n locks seats) where
  seats_hold : SeatsHold locks seats
  seats_hold = subst (λ k. SeatsHold locks (record seats { number = k })) (sym are.number) (record {
    bios = seats_of n locks.bios.items seats.bios.items are.bios;
    vecs = are.vecs.0;
    records = seats_of n locks.records.items seats.records.items are.records;
    lists = seats_of n locks.lists.items seats.lists.items are.lists;
    disks = seats_of n locks.disks.items seats.disks.items are.disks;
    books = seats_of n locks.books.items seats.books.items are.books;
    tally = are.tally.0;
  })

  none_at : (name : Object) → calls_at (calls_of seats) name ≡ []
  none_at (OfPool number) =
      none_by_pool (own seats.vecs.known) (calls_in set_key seats.bios.items) (calls_in slip_key seats.records.items) number are.vecs.1
      (none_in n locks.bios.items seats.bios.items are.bios set_key number) (none_in n locks.records.items seats.records.items are.records slip_key number)
  none_at (OfRescuer dev) = none_in n locks.lists.items seats.lists.items are.lists dev_key dev
  none_at (OfDisk dev) = none_in n locks.disks.items seats.disks.items are.disks dev_key dev
  none_at (OfBook writer) = none_in n locks.books.items seats.books.items are.books writer_key writer
  none_at OfTally = are.tally.1
  none_at OfNone = refl

  pub new_desk : IsNewDesk (desk_of seats)
  new_desk = record { calls = none_at; pass = subst IsUnused (sym are.pass) (refl, refl) }

  pub desk_holds : LocksHold locks → DeskHolds locks seats
  desk_holds hold = record { locked = hold; seated = seats_hold; passed = subst (IsPassOf locks.common.value.clock) (sym are.pass) refl }

  pub other_pass : IsOtherPass seats.pass
  other_pass = subst IsOtherPass (sym are.pass) (refl, refl)

  -- a task with these seats is as it was opened
  pub task_is : (task : TaskOf) (ran : RanState) → ran ≡ unstepped task seats task locks ran.noted → IsBlank ran.noted
      → IsTaskAt locks n task (Some ran)
  task_is task ran is blank = subst (λ r. IsTaskAt locks n task (Some r)) (sym is)
      (record { task = refl; desk = new_desk; events = refl; stopped = refl; blank = blank }, ap (λ k. record { first = task; home = locks; number = k }) are.number)
