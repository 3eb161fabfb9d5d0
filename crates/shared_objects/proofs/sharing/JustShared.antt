-- What holds of objects that were just shared.
use Rattle.std.proofs.Common.{◌≡◌, ◌+◌, ◌≤◌, ◌<◌, ◌^◌, ℕ, List, [], All, length, get_or, Option, None, Some, arith, refl, sym, ap, subst, ◌∙◌}
use Rattle.std.proofs.lemmas.List.Sorted.{IsPermutation-refl}
use Rattle.atomic_table.specs.Seated.{TableId}
use Rattle.tick_clock.specs.Tickets.{ShowsTickets}
use Rattle.seat_lock.specs.Seats.{LockId, SeatState}
use Rattle.task_steps.specs.Homes.{IsTaskOf}
use Rattle.task_steps.specs.TaskViews.{TaskOf}
use Rattle.task_core.specs.declared.plain.Plain.{Plain}
use Rattle.task_core.specs.Plains.{stage_of}
use Rattle.task_core.specs.declared.opening.Opened.{Opened}
use Rattle.task_core.specs.opened.OfOne.{IsOpened, scenario_in}
use Rattle.shared_objects.specs.Holding.{IsPassOf}
use Rattle.shared_objects.specs.Opening.{AreFirst, AreTasksAt, IsFirstAt, IsRoomWith, IsTaskAt, IsTaskFor, first_pass_of}
use Rattle.shared_objects.specs.Rans.{RanState}
use Rattle.shared_objects.specs.Rows.{Abreast, IsAt}
use Rattle.shared_objects.specs.Shared.{FirstsHold, HasRoomFor, IsOwnIfHere, IsUntaken, SharedHolds, ran_key_at}
use Rattle.shared_objects.specs.Sharing.{AreOfOpened}
use Rattle.shared_objects.specs.Taking.{AreTaken, HasTakenPasses, TakenHold}
use Rattle.shared_objects.specs.declared.locks.Locks.{Locks}
use Rattle.shared_objects.specs.declared.seats.TaskSeats.{TaskSeats}
use Rattle.shared_objects.specs.declared.shared.Shared.{Shared}
use Rattle.shared_objects.proofs.sharing.FewTasks.{few_tasks}
use Rattle.shared_objects.proofs.sharing.LocksOfOpened.{locks_hold}
use Rattle.shared_objects.proofs.sharing.OpenedRows.{can_share}
use Rattle.shared_objects.proofs.row_lemmas.AbreastRows.{some_of}
use Rattle.shared_objects.proofs.sharing.SplitSeats.{split_of_locks}

module _ {K T A R : Type 0} (n : ℕ) (locks : List (K × LockId T)) (firsts : List (K × SeatState T A R)) (are : Abreast (IsFirstAt n) locks firsts) where
  none_taken : AreTaken n [] firsts
  none_taken = λ place seat lt. let l = are.lens in let lock = some_of locks place (omega (arith, lt, l)) in (are.each place lock seat (omega (arith, lt, l))).1.1

-- the first pass has no tickets, and none were drawn
shows_none : (clock : TableId) (n : ℕ) → ShowsTickets (first_pass_of clock n)
shows_none clock n = record {
  row = [];
  elsewhere = [];
  rising = tt;
  ends = refl;
  fits = search arith;
  parted = IsPermutation-refl [];
  whole = λ e. refl;
}

module _ (n : ℕ) (locks : Locks) (firsts : TaskSeats) (are : AreFirst n locks firsts) where
  firsts_hold : FirstsHold locks firsts
  firsts_hold = record {
    bios = split_of_locks n locks.bios.items firsts.bios.items are.bios;
    vecs = are.vecs.0;
    records = split_of_locks n locks.records.items firsts.records.items are.records;
    lists = split_of_locks n locks.lists.items firsts.lists.items are.lists;
    disks = split_of_locks n locks.disks.items firsts.disks.items are.disks;
    books = split_of_locks n locks.books.items firsts.books.items are.books;
    tally = are.tally.0;
    pass = subst (IsPassOf locks.common.value.clock) (sym are.pass) refl;
  }

  taken_hold : TakenHold n locks [] firsts
  taken_hold = record {
    bios = none_taken n locks.bios.items firsts.bios.items are.bios;
    vecs = are.vecs.1;
    records = none_taken n locks.records.items firsts.records.items are.records;
    lists = none_taken n locks.lists.items firsts.lists.items are.lists;
    disks = none_taken n locks.disks.items firsts.disks.items are.disks;
    books = none_taken n locks.books.items firsts.books.items are.books;
    tally = are.tally.1;
    passes = subst (HasTakenPasses n []) (sym are.pass) (record { rank = refl; joined = refl; drawn = refl; found = λ k d lt. absurd (omega (arith, lt)); shows = shows_none locks.common.value.clock n });
  }

-- tasks that were opened are of the objects behind the locks
pub tasks_for : (o : Opened) → IsOpened o → (locks : Locks) → AreOfOpened o.objects locks → All (IsTaskFor locks) o.tasks.items
tasks_for o opened locks round = λ k task lt.
    let one : TaskOf = get_or o.tasks.items k task in
    subst (λ (p : Plain). (one.routing ≡ (stage_of p).routing) × IsTaskOf (stage_of p) one.state) (sym round.same) (opened.one.routing k task lt, opened.one.home k task lt)

own_of : (locks : Locks) (place : ℕ) (task : TaskOf) (slot : Option RanState) → IsTaskAt locks place task slot → IsOwnIfHere (ran_key_at locks place task) slot
own_of locks place task None at = tt
own_of locks place task (Some ran) at = at.1

untaken_of : (locks : Locks) (place : ℕ) (task : TaskOf) (slot : Option RanState) → IsTaskAt locks place task slot → IsUntaken slot
untaken_of locks place task None at = at
untaken_of locks place task (Some ran) at = at.0

module _ (o : Opened) (opened : IsOpened o) (s : Shared) (told : s.told.value ≡ o) (round : AreOfOpened o.objects s.locks) (firsts : AreFirst (length o.tasks.items) s.locks s.firsts)
    (tasks : AreTasksAt s.locks o.tasks.items s.tasks.items) (next : s.next ≡ 0) (room : IsRoomWith s.locks (length o.tasks.items) o.room s.room) where
  pub shared_holds : SharedHolds s
  shared_holds = let many = tasks.many in let few = few_tasks o opened in record {
    opened = subst IsOpened (sym told) opened;
    locks = locks_hold s.locks o.objects (can_share o opened) round;
    round = subst (λ (p : Opened). AreOfOpened p.objects s.locks) (sym told) round;
    firsts = firsts_hold (length o.tasks.items) s.locks s.firsts firsts;
    taken = subst (λ n. TakenHold n s.locks [] s.firsts) (sym tasks.many) (taken_hold (length o.tasks.items) s.locks s.firsts firsts);
    all = tasks.many ∙ ap (λ (p : Opened). length p.tasks.items) (sym told);
    few = omega (arith, many, few);
    own = λ place first slot lt.
        subst (λ (p : Opened). IsOwnIfHere (ran_key_at s.locks place (get_or p.tasks.items place first)) (get_or s.tasks.items place slot)) (sym told)
        (own_of s.locks place (get_or o.tasks.items place first) (get_or s.tasks.items place slot) (tasks.each place first slot (omega (arith, lt, many))));
    next = omega (arith, next);
    untaken = λ place slot from lt. let first = some_of o.tasks.items place (omega (arith, lt, many)) in
        untaken_of s.locks place (get_or o.tasks.items place first) (get_or s.tasks.items place slot) (tasks.each place first slot (omega (arith, lt, many)));
    room = subst (λ n. HasRoomFor s.locks n (scenario_in s.told.value) s.room) (sym tasks.many)
        (subst (λ (p : Opened). HasRoomFor s.locks (length o.tasks.items) (scenario_in p) s.room) (sym told) (room (scenario_in o) opened.room));
  }
