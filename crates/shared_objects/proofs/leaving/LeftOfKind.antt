-- What is left of the locks of a kind, by the numbers of their objects.
use Rattle.std.proofs.Common.{◌≡◌, ◌<◌, ◌≤◌, ◌+◌, ℕ, List, [], ◌∷◌, All, arith, refl, sym, ◌∙◌, ap, subst, length, get_or}
use Rattle.seat_lock.specs.History.{Leads, calls_by}
use Rattle.seat_lock.specs.Seats.{LockId, SeatState, own}
use Rattle.run_machine.specs.Requests.{Request}
use Rattle.task_core.specs.Tables.{look_up}
use Rattle.object_things.specs.Histories.{Call}
use Rattle.object_things.specs.Stamps.{CommonState, Stamped, ThingState, Told}
use Rattle.shared_objects.specs.Guards.{guarded}
use Rattle.shared_objects.specs.Holding.{calls_in}
use Rattle.shared_objects.specs.Kinds.{unasked}
use Rattle.shared_objects.specs.Rows.{Abreast, AbreastThree}
use Rattle.shared_objects.specs.Taking.{AreTaken}
use Rattle.shared_objects.proofs.leaving.FoundByNumber.{made_of, found_has, leads_by_number, calls_by_number}
use Rattle.shared_objects.proofs.row_lemmas.AbreastRows.{some_of, last_two}
use Rattle.object_things.specs.Stamps.{MarkState}
use Rattle.shared_objects.specs.Shutting.{IsShutOf, thing_of}
use Rattle.shared_objects.proofs.leaving.RowsByNumber.{calls_of_one, all_of_tasks}

-- What is known of the objects of a kind: how numbers are told from keys of locks and seats, from entries as they were opened and from what is left;
-- that the locks are round what was opened; that what is left is what their histories leave; and that all tasks' seats were joined.
pub record IsLeftOfKind {K E Z O : Type 0} (answers : ThingState O → Request → Told → ThingState O → Type 0) (skey : K → ℕ) (ekey : E → ℕ) (zkey : Z → ℕ) (value : E → O)
    (thing : Z → Stamped O) (seen : Z → List Call) (common : CommonState) (es : List E) (locks : List (K × LockId (Stamped O)))
    (firsts : List (K × SeatState (Stamped O) Request Told)) (zs : List Z) (rows : List (List (K × SeatState (Stamped O) Request Told))) : Type 0 where
  pub round : Abreast (λ e lock. (skey lock.0 ≡ ekey e) × (lock.1.key.value ≡ guarded common (value e))) es locks
  pub shut : AbreastThree (λ lock first z. (zkey z ≡ skey lock.0) × (seen z ≡ first.1.known.seen) × (own first.1.known ≡ first.1.known.seen)
      × Leads answers (thing_of lock.1.key.value) first.1.known.seen (thing_of (thing z))) locks firsts zs
  pub taken : AreTaken (length rows) rows firsts

module _ {K E Z O : Type 0} {answers : ThingState O → Request → Told → ThingState O → Type 0} {skey : K → ℕ} {ekey : E → ℕ} {zkey : Z → ℕ} {value : E → O}
    {thing : Z → Stamped O} {seen : Z → List Call} {common : CommonState} {es : List E} {locks : List (K × LockId (Stamped O))}
    {firsts : List (K × SeatState (Stamped O) Request Told)} {zs : List Z} {rows : List (List (K × SeatState (Stamped O) Request Told))}
    (left : IsLeftOfKind answers skey ekey zkey value thing seen common es locks firsts zs rows) where
  pub pairs : Abreast (λ e z. (zkey z ≡ ekey e) × Leads answers (unasked (value e)) (seen z) (thing_of (thing z))) es zs
  pairs = record {
    lens = let l = left.round.lens in let m = left.shut.lens.0 in let n = left.shut.lens.1 in omega (arith, l, m, n);
    each = λ place e z lt.
        let l = left.round.lens in let m = left.shut.lens.0 in
        let lock = some_of locks place (omega (arith, lt, l)) in
        let first = some_of firsts place (omega (arith, lt, l, m)) in
        let r = left.round.each place e lock lt in let s = left.shut.each place lock first z (omega (arith, lt, l)) in (
          s.0 ∙ r.0,
          subst (λ history. Leads answers (unasked (value (get_or es place e))) history (thing_of (thing (get_or zs place z)))) (sym s.1)
              (subst (λ start. Leads answers start (get_or firsts place first).1.known.seen (thing_of (thing (get_or zs place z)))) (ap thing_of r.1) s.3),
        );
  }

  -- the history of each number leads its object on, as it was opened
  pub thing_led : (none : ℕ → O) (n : ℕ) → Leads answers (unasked (look_up ekey value none es n)) (look_up zkey seen (λ m. []) zs n)
      (look_up zkey (λ z. thing_of (thing z)) (λ m. unasked (none m)) zs n)
  thing_led none n =
      subst (λ start. Leads answers start (look_up zkey seen (λ m. []) zs n) (look_up zkey (λ z. thing_of (thing z)) (λ m. unasked (none m)) zs n))
      (sym (made_of unasked ekey value none es n))
      (leads_by_number answers ekey zkey (λ e. unasked (value e)) (λ m. unasked (none m)) seen (λ z. thing_of (thing z)) es zs pairs n)

  closed_seen : Abreast (λ first z. (seen z ≡ first.1.known.seen) × (own first.1.known ≡ first.1.known.seen)) firsts zs
  closed_seen = last_two _ locks firsts zs left.shut _ (λ lock first z is. (is.1, is.2))

  -- each call in it is of a task
  pub numbers_by_number : (n : ℕ) → All (λ (call : Call). (0 < call.by) × (call.by ≤ length rows)) (look_up zkey seen (λ m. []) zs n)
  numbers_by_number n =
      found_has (All (λ (call : Call). (0 < call.by) × (call.by ≤ length rows))) zkey seen (λ m. []) zs n (λ k d lt. absurd (omega (arith, lt)))
      (all_of_tasks answers rows firsts zs seen left.taken closed_seen)

  -- and those of each task are what its seats show
  pub task_calls : (k : ℕ) (row : List (K × SeatState (Stamped O) Request Told)) → k < length rows
      → Abreast (λ (lock : K × LockId (Stamped O)) (seat : K × SeatState (Stamped O) Request Told). skey seat.0 ≡ skey lock.0) locks (get_or rows k row)
      → (n : ℕ) → calls_by ((k + 1) ∷ []) (look_up zkey seen (λ m. []) zs n) ≡ calls_in skey (get_or rows k row) n
  task_calls k row lt keys = calls_by_number skey zkey seen ((k + 1) ∷ []) zs (get_or rows k row) (record {
    lens = let l = keys.lens in let m = left.shut.lens.1 in omega (arith, l, m);
    each = λ place z seat at.
        let m = left.shut.lens.0 in let n = left.shut.lens.1 in let l = keys.lens in
        let lock = some_of locks place (omega (arith, at, n)) in
        let first = some_of firsts place (omega (arith, at, m, n)) in
        let key : skey (get_or (get_or rows k row) place seat).0 ≡ skey (get_or locks place lock).0 = keys.each place lock seat (omega (arith, at, n)) in (
          key ∙ sym (left.shut.each place lock first z (omega (arith, at, n))).0,
          (calls_of_one answers rows firsts zs seen left.taken closed_seen k row lt (omega (arith, l, m))).each place z seat at,
        );
  })

-- what is left of a lock, with its key
pub left_with_key : {K O : Type 0} (key : K → ℕ) (mark : Stamped O → MarkState) (answers : ThingState O → Request → Told → ThingState O → Type 0)
    (lock : K × LockId (Stamped O)) (first : K × SeatState (Stamped O) Request Told) (other : K) (thing : Stamped O) (told : SeatState (Stamped O) Request Told) → other ≡ lock.0
    → IsShutOf mark answers lock.1 first.1 thing told
    → (key other ≡ key lock.0) × (told.known.seen ≡ first.1.known.seen) × (own first.1.known ≡ first.1.known.seen)
    × Leads answers (thing_of lock.1.key.value) first.1.known.seen (thing_of thing)
left_with_key key mark answers lock first other thing told same shut =
    (ap key same, ap (λ (s : SeatState (Stamped _) Request Told). s.known.seen) shut.told_is, shut.all, shut.left.0)
