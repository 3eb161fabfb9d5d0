-- What rows have by the numbers of their entries, where the first entry of a number counts.
use Rattle.std.proofs.Common.{◌≡◌, ◌<◌, ◌==◌, ℕ, zero, suc, Bool, true, false, List, [], ◌∷◌, All, arith, refl, sym, ◌∙◌, ap, subst, length, get_or, find, Option, Some, None}
use Rattle.std.specs.Option.{option_map_or}
use Rattle.seat_lock.specs.declared.view.Entry.{Entry}
use Rattle.seat_lock.specs.History.{Leads, calls_by}
use Rattle.seat_lock.specs.Seats.{SeatState, own}
use Rattle.task_core.specs.Tables.{is_entry_of, look_up}
use Rattle.shared_objects.specs.Rows.{Abreast}
use Rattle.shared_objects.proofs.leaving.RowsByNumber.{IsFoundBoth, found_both}

-- what is made of what is found
pub made_of : {E X Y : Type 0} (f : X → Y) (key : E → ℕ) (value : E → X) (none : ℕ → X) (entries : List E) (n : ℕ)
    → f (look_up key value none entries n) ≡ look_up key (λ e. f (value e)) (λ m. f (none m)) entries n
made_of {E = E} f key value none entries n = by_case (find (is_entry_of key n) entries)
  where
    by_case : (o : Option E) → f (option_map_or value o (none n)) ≡ option_map_or (λ e. f (value e)) o (f (none n))
    by_case None = refl
    by_case (Some e) = refl

-- what each entry has, what is found has
pub found_has : {E X : Type 0} (Q : X → Type 0) (key : E → ℕ) (value : E → X) (none : ℕ → X) (entries : List E) (n : ℕ) → Q (none n) → All (λ e. Q (value e)) entries
    → Q (look_up key value none entries n)
found_has Q key value none [] n by_none all = by_none
found_has Q key value none (e ∷ es) n by_none all = by_case (key e == n) refl (all 0 e (omega arith)) (found_has Q key value none es n by_none (λ k d lt. all (suc k) d (omega (arith, lt))))
  where
    by_case : (b : Bool) → (key e == n) ≡ b → Q (value e) → Q (look_up key value none es n) → Q (look_up key value none (e ∷ es) n)
    by_case true q here rest = rw (q) here
    by_case false q here rest = rw (q) rest

module _ {E Z D A R : Type 0} (answers : D → A → R → D → Type 0) (ekey : E → ℕ) (zkey : Z → ℕ) (start : E → D) (none : ℕ → D) (seen : Z → List (Entry A R)) (state : Z → D)
    (es : List E) (zs : List Z) (are : Abreast (λ e z. (zkey z ≡ ekey e) × Leads answers (start e) (seen z) (state z)) es zs) where
  -- the history of each number leads what was opened of it to what is left of it
  pub leads_by_number : (n : ℕ) → Leads answers (look_up ekey start none es n) (look_up zkey seen (λ m. []) zs n) (look_up zkey state none zs n)
  leads_by_number n =
      by_case (find (is_entry_of ekey n) es) (find (is_entry_of zkey n) zs) (found_both ekey zkey (λ e z. Leads answers (start e) (seen z) (state z)) n es zs are)
    where
      by_case : (e : Option E) (z : Option Z) → IsFoundBoth ekey zkey (λ e z. Leads answers (start e) (seen z) (state z)) n e z → Leads answers (option_map_or start e (none n)) (option_map_or seen z []) (option_map_or state z (none n))
      by_case None None both = refl
      by_case (Some e) (Some z) both = both
      by_case None (Some z) both = absurd both
      by_case (Some e) None both = absurd both

module _ {K T A R Z : Type 0} (skey : K → ℕ) (zkey : Z → ℕ) (seen : Z → List (Entry A R)) (numbers : List ℕ) (zs : List Z) (seats : List (K × SeatState T A R))
    (are : Abreast (λ (z : Z) (seat : K × SeatState T A R). (skey seat.0 ≡ zkey z) × (calls_by numbers (seen z) ≡ own seat.1.known)) zs seats) where
  -- the calls of one task in the history of each number are those that its seat shows
  pub calls_by_number : (n : ℕ) → calls_by numbers (look_up zkey seen (λ m. []) zs n) ≡ look_up (λ (seat : K × SeatState T A R). skey seat.0) (λ (seat : K × SeatState T A R). own seat.1.known) (λ m. []) seats n
  calls_by_number n =
      by_case (find (is_entry_of zkey n) zs) (find (is_entry_of (λ (seat : K × SeatState T A R). skey seat.0) n) seats)
      (found_both zkey (λ (seat : K × SeatState T A R). skey seat.0) (λ z seat. calls_by numbers (seen z) ≡ own seat.1.known) n zs seats are)
    where
      by_case : (z : Option Z) (seat : Option (K × SeatState T A R))
          → IsFoundBoth zkey (λ (seat : K × SeatState T A R). skey seat.0) (λ z seat. calls_by numbers (seen z) ≡ own seat.1.known) n z seat
          → calls_by numbers (option_map_or seen z []) ≡ option_map_or (λ (seat : K × SeatState T A R). own seat.1.known) seat []
      by_case None None both = refl
      by_case (Some z) (Some seat) both = both
      by_case None (Some seat) both = absurd both
      by_case (Some z) None both = absurd both
