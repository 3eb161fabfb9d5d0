-- A call of one of the objects of a kind, by the table that says where it stands.
use Rattle.std.proofs.Common.{◌≡◌, ◌==◌, ◌<◌, ◌+◌, ◌++◌, ℕ, zero, suc, Bool, true, false, not, List, [], ◌∷◌, length, get_or, set, refl, sym, ap, subst, ◌∙◌, arith, cond}
use Rattle.std.specs.Prelude.{IsTrue, slice_index_or}
use Rattle.std.specs.List.{position_or_len}
use Rattle.std.proofs.lemmas.List.{length-set, get_or-set_same, get_or-set_other, get_or_default}
use Rattle.std.proofs.lemmas.Bool.{eqb-true, eqb-false}
use Rattle.seat_lock.specs.Seats.{LockId, SeatState, own}
use Rattle.run_machine.specs.Laws.{Object}
use Rattle.run_machine.specs.Maps.{upd}
use Rattle.run_machine.specs.Requests.{Request}
use Rattle.task_core.specs.Tables.{is_entry_of, IsEntryAt}
use Rattle.task_core.proofs.TableLemmas.{key_is, looked, changed}
use Rattle.object_things.specs.Histories.{Call}
use Rattle.object_things.specs.Stamps.{CommonState, MarkState, Told}
use Rattle.shared_objects.specs.Calling.{AreSeatedAt}
use Rattle.shared_objects.specs.Holding.{AreLocked, AreSeatsOf, IsNamed, IsSeatOf, calls_in}

-- where two rows pass tests at the same places, the first such place is the same
pub same_position : {X Y : Type 0} (p : X → Bool) (q : Y → Bool) (xs : List X) (ys : List Y) → length ys ≡ length xs
    → ((k : ℕ) (x : X) (y : Y) → k < length xs → q (get_or ys k y) ≡ p (get_or xs k x)) → position_or_len q ys ≡ position_or_len p xs
same_position p q [] [] long each = refl
same_position p q [] (y ∷ ys) long each = absurd (omega (arith, long))
same_position p q (x ∷ xs) [] long each = absurd (omega (arith, long))
same_position p q (x ∷ xs) (y ∷ ys) long each =
    let tail : position_or_len q ys ≡ position_or_len p xs = same_position p q xs ys (omega (arith, long)) (λ k a b lt. each (suc k) a b (omega (arith, lt))) in
    let head : q y ≡ p x = each 0 x y (omega arith) in
    ap (λ b. cond (not b) (1 + position_or_len q ys) 0) head ∙ ap (λ n. cond (not (p x)) (1 + n) 0) tail

module _ {K T : Type 0} {key : K → ℕ} {mark : T → MarkState} {name : ℕ → Object} {common : CommonState} {used : ℕ → Bool} {table : List ℕ} {task : ℕ}
    {locks : List (K × LockId T)} {seats : List (K × SeatState T Request Told)} (locked : AreLocked key mark name common used table locks)
    (seated : AreSeatsOf task locks seats) (n i : ℕ) (is : IsTrue (used n)) (place : i ≡ slice_index_or table n 0) where
  abbrev lock_key : K × LockId T → ℕ
  lock_key entry = key entry.0

  abbrev seat_key : K × SeatState T Request Told → ℕ
  seat_key entry = key entry.0

  there : i < length locks
  there = subst (λ k. k < length locks) (sym place) (locked.placed n is).there

  seat_there : i < length seats
  seat_there = subst (λ k. i < k) (sym seated.lens) there

  pub seated_at : AreSeatedAt locks seats i
  seated_at = record { locked = there; seated = seat_there; of = λ lock seat. (seated.each i lock seat there).1.of }

  -- the lock is round the object of the number
  pub named_at : (lock : K × LockId T) → lock ≡ get_or locks i lock → IsNamed mark common (name n) lock.1
  named_at lock lock_is =
      subst (λ (e : K × LockId T). IsNamed mark common (name (key e.0)) e.1) (sym lock_is) (locked.named i lock there)
      ∙ ap (λ m. record { common = common; name = name m }) (key_is lock_key table locks n i (locked.placed n is) place lock lock_is)

  seats_placed : IsEntryAt seat_key table seats n
  seats_placed = record {
    there = subst (λ k. slice_index_or table n 0 < k) (sym seated.lens) (locked.placed n is).there;
    first = (locked.placed n is).first
        ∙ sym (same_position (is_entry_of lock_key n) (is_entry_of seat_key n) locks seats seated.lens (λ k lock seat lt. ap (λ x. key x == n) (seated.each k lock seat lt).0));
  }

  module _ (lock : K × LockId T) (lock_is : lock ≡ get_or locks i lock) (seat : K × SeatState T Request Told) (seat_is : seat ≡ get_or seats i seat) where
    pub seat_of : IsSeatOf task lock.1 seat.1
    seat_of =
        subst (λ (s : K × SeatState T Request Told). IsSeatOf task lock.1 s.1) (sym seat_is)
        (subst (λ (e : K × LockId T). IsSeatOf task e.1 (get_or seats i seat).1) (sym lock_is) (seated.each i lock seat there).1)

    keyed : seat.0 ≡ lock.0
    keyed =
        subst (λ (s : K × SeatState T Request Told). s.0 ≡ lock.0) (sym seat_is)
        (subst (λ (e : K × LockId T). (get_or seats i seat).0 ≡ e.0) (sym lock_is) (seated.each i lock seat there).0)

    module _ (now : SeatState T Request Told) (new : List (K × SeatState T Request Told)) (set_is : new ≡ set seats i (seat.0, now)) where
      -- where the seat has made one more call, so has the task at the object of the number
      pub calls_now : (call : Call) → own now.known ≡ own seat.1.known ++ call ∷ [] → calls_in key new ≡ upd (calls_in key seats) n (calls_in key seats n ++ call ∷ [])
      calls_now call more =
          ap (calls_in key) set_is
          ∙ changed seat_key table seats n i seats_placed place seat seat_is (seat.0, now) refl (λ (e : K × SeatState T Request Told). own e.1.known) (λ k. [])
          ∙ ap (upd (calls_in key seats) n)
          (more
          ∙ ap (λ xs. xs ++ call ∷ [])
          (sym (looked seat_key table seats n i seats_placed place seat seat_is (λ (e : K × SeatState T Request Told). own e.1.known) (λ k. []))))

      module _ (of : IsSeatOf task lock.1 now) where
        abbrev Sits : K × LockId T → K × SeatState T Request Told → Type 0
        Sits l s = (s.0 ≡ l.0) × IsSeatOf task l.1 s.1

        each_at : (j : ℕ) (l : K × LockId T) (s : K × SeatState T Request Told) (b : Bool) → (j == i) ≡ b → j < length locks
            → Sits (get_or locks j l) (get_or (set seats i (seat.0, now)) j s)
        each_at j l s true e lt =
            subst (λ k. Sits (get_or locks k l) (get_or (set seats i (seat.0, now)) k s)) (sym (eqb-true j i e))
            (subst (Sits (get_or locks i l)) (sym (get_or-set_same seats i (seat.0, now) s seat_there))
            (subst (λ (x : K × LockId T). Sits x (seat.0, now)) (lock_is ∙ get_or_default locks i lock l there) (keyed, of)))
        each_at j l s false e lt =
            subst (Sits (get_or locks j l)) (sym (get_or-set_other seats i j (seat.0, now) s (eqb-false j i e))) (seated.each j l s lt)

        pub seats_now : AreSeatsOf task locks new
        seats_now = subst (AreSeatsOf task locks) (sym set_is) (record {
          lens = length-set seats i (seat.0, now) ∙ seated.lens;
          each = λ j l s lt. each_at j l s (j == i) refl lt;
        })
