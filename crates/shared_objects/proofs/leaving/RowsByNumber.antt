-- What is left of rows of locks, by the numbers of their entries.
use Rattle.std.proofs.Common.{◌≡◌, ◌⊎◌, inl, inr, ◌<◌, ◌≤◌, ◌+◌, ◌==◌, ℕ, zero, suc, Bool, true, false, List, [], ◌∷◌, All, arith, refl, sym, ◌∙◌, ap, subst, length, map, get_or, find, cond, Option, Some, None}
use Rattle.std.specs.Prelude.{slice_index_or}
use Rattle.std.proofs.lemmas.List.{length-map}
use Rattle.std.proofs.lemmas.Bool.Decides.{nat_tests}
use Rattle.seat_lock.specs.declared.view.Entry.{Entry}
use Rattle.seat_lock.specs.declared.view.Known.{Known}
use Rattle.seat_lock.specs.History.{calls_by}
use Rattle.seat_lock.specs.Seats.{SeatState, own}
use Rattle.task_core.specs.Tables.{is_entry_of}
use Rattle.shared_objects.specs.Joins.{HasTaken, IsOfThese}
use Rattle.shared_objects.specs.Rows.{Abreast}
use Rattle.shared_objects.specs.Taking.{AreTaken}
use Rattle.shared_objects.proofs.row_lemmas.AbreastRows.{front, none_left, none_right}
use Rattle.shared_objects.proofs.row_lemmas.SplitAndJoined.{stay_apart}

-- what is found in two rows that have the same numbers
module _ {E Z : Type 0} (ekey : E → ℕ) (zkey : Z → ℕ) (P : E → Z → Type 0) (n : ℕ) where
  abbrev pub IsFoundBoth : Option E → Option Z → Type 0
  IsFoundBoth None None = Unit {0}
  IsFoundBoth (Some e) (Some z) = P e z
  IsFoundBoth e z = ⊥

  pub found_both : (es : List E) (zs : List Z) → Abreast (λ e z. (zkey z ≡ ekey e) × P e z) es zs → IsFoundBoth (find (is_entry_of ekey n) es) (find (is_entry_of zkey n) zs)
  found_both [] [] are = tt
  found_both [] (z ∷ zs) are = absurd (none_left (λ e z. (zkey z ≡ ekey e) × P e z) z zs are)
  found_both (e ∷ es) [] are = absurd (none_right (λ e z. (zkey z ≡ ekey e) × P e z) e es are)
  found_both (e ∷ es) (z ∷ zs) are =
      let parts = front (λ e z. (zkey z ≡ ekey e) × P e z) e z es zs are in
      by_case (ekey e == n) refl (ap (λ k. k == n) parts.0.0) parts.0.1 (found_both es zs parts.1)
    where
      by_case : (b : Bool) → (ekey e == n) ≡ b → (zkey z == n) ≡ (ekey e == n) → P e z → IsFoundBoth (find (is_entry_of ekey n) es) (find (is_entry_of zkey n) zs)
          → IsFoundBoth (find (is_entry_of ekey n) (e ∷ es)) (find (is_entry_of zkey n) (z ∷ zs))
      by_case true q same here rest = rw (q, same ∙ q) here
      by_case false q same here rest = rw (q, same ∙ q) rest

-- of a row of first seats, into which those of all tasks were joined, and of what is left of their locks
module _ {K T D A R Z : Type 0} (answers : D → A → R → D → Type 0) (rows : List (List (K × SeatState T A R))) (firsts : List (K × SeatState T A R)) (zs : List Z)
    (seen : Z → List (Entry A R)) (taken : AreTaken (length rows) rows firsts) (shut : Abreast (λ (first : K × SeatState T A R) (z : Z). (seen z ≡ first.1.known.seen) × (own first.1.known ≡ first.1.known.seen)) firsts zs) where
  abbrev column : ℕ → K × SeatState T A R → List (Known T A R)
  column place seat = map (λ (row : List (K × SeatState T A R)). (get_or row place seat).1.known) rows

  pub of_these : (place : ℕ) (seat : K × SeatState T A R) (z : Z) → place < length firsts → IsOfThese (column place seat) (seen (get_or zs place z))
  of_these place seat z lt =
      let both = shut.each place seat z lt in
      let many : length (column place seat) ≡ length rows = length-map rows _ in
      let first = (get_or firsts place seat).1.known in
      subst (IsOfThese (column place seat)) (sym both.0)
      (((stay_apart T answers).ends (column place seat) first (subst (λ n. HasTaken n (column place seat) first) (sym many) (taken place seat lt))).1 both.1)

  -- the calls of one task in the history of each lock are those that its seat shows
  pub calls_of_one : (k : ℕ) (none : List (K × SeatState T A R)) → k < length rows → length (get_or rows k none) ≡ length firsts
      → Abreast (λ (z : Z) (seat : K × SeatState T A R). calls_by ((k + 1) ∷ []) (seen z) ≡ own seat.1.known) zs (get_or rows k none)
  calls_of_one k none lt long = record {
    lens = let l = shut.lens in omega (arith, long, l);
    each = λ place z seat at.
        let l = shut.lens in
        let many : length (column place seat) ≡ length rows = length-map rows _ in
        (of_these place seat z (omega (arith, at, l))).each k (get_or (get_or rows k none) place seat).1.known (omega (arith, lt, many))
        ∙ ap own (mapped place seat rows k lt);
  }
    where
      mapped : (place : ℕ) (seat : K × SeatState T A R) (xs : List (List (K × SeatState T A R))) (j : ℕ) → j < length xs
          → get_or (map (λ (row : List (K × SeatState T A R)). (get_or row place seat).1.known) xs) j (get_or (get_or rows k none) place seat).1.known ≡ (get_or (get_or xs j none) place seat).1.known
      mapped place seat [] j lt = absurd (omega (arith, lt))
      mapped place seat (x ∷ xs) zero lt = refl
      mapped place seat (x ∷ xs) (suc j) lt = mapped place seat xs j (omega (arith, lt))

  -- and every call is of a task
  pub all_of_tasks : All (λ (z : Z). All (λ (call : Entry A R). (0 < call.by) × (call.by ≤ length rows)) (seen z)) zs
  all_of_tasks place z at =
      let l = shut.lens in
      by_first (omega (arith, at, l))
    where
      by_first : place < length firsts → All (λ (call : Entry A R). (0 < call.by) × (call.by ≤ length rows)) (seen (get_or zs place z))
      by_first lt =
          let seat = some_first firsts lt in
          let many : length (column place seat) ≡ length rows = length-map rows _ in
          subst (λ n. All (λ (call : Entry A R). (0 < call.by) × (call.by ≤ n)) (seen (get_or zs place z))) many (of_these place seat z lt).all
        where
          some_first : (xs : List (K × SeatState T A R)) → place < length xs → K × SeatState T A R
          some_first [] lt = absurd (omega (arith, lt))
          some_first (x ∷ xs) lt = x
