-- The numbers from 0 on, and the calls that seats of some numbers made.
use Rattle.std.proofs.Common.{◌≡◌, ℕ, zero, suc, ◌+◌, ◌≤◌, ◌<◌, Bool, true, false, cond, List, [], ◌∷◌, ◌++◌, All, arith, refl, sym, ◌∙◌, ap, subst, length, eqb, ne_eqb, eq-eqb, nat_lt}
use Rattle.std.specs.Prelude.{filter}
use Rattle.std.specs.List.{range_with_len}
use Rattle.std.proofs.lemmas.Bool.{lt-ltb, ltb-true}
use Rattle.std.proofs.lemmas.List.Sums.{sum_by-cons}
use Rattle.std.proofs.Math.Decide.{ℕ_discrete, dec_le}
use Rattle.std.proofs.Math.Logic.{dite}
use Rattle.seat_lock.specs.declared.view.Entry.{Entry}
use Rattle.seat_lock.specs.History.{indicator, count, calls_by, Continues}
use Rattle.seat_lock.proofs.Histories.{count_one}

pub count_cons : (x y : ℕ) (ns : List ℕ) → count x (y ∷ ns) ≡ indicator (eqb y x) + count x ns
count_cons x y ns = sum_by-cons (λ (z : ℕ). indicator (eqb z x)) y ns

-- one number more
pub range_more : (a n m : ℕ) → m ≡ a + n → range_with_len a n ++ m ∷ [] ≡ range_with_len a (suc n)
range_more a zero m e = ap (λ k. k ∷ []) (omega (arith, e))
range_more a (suc n) m e = ap (λ l. a ∷ l) (range_more (a + 1) n m (omega (arith, e)))

pub in_range : (a n x : ℕ) → a ≤ x → x < a + n → 0 < count x (range_with_len a n)
in_range a zero x le lt = absurd (omega (arith, le, lt))
in_range a (suc n) x le lt = dite (ℕ_discrete a x)
    (λ same. let here = ap indicator (eq-eqb a x same) in let c = count_cons x a (range_with_len (a + 1) n) in omega (arith, here, c))
    (λ apart. let rest = in_range (a + 1) n x (omega (arith, le, apart)) (omega (arith, lt)) in let c = count_cons x a (range_with_len (a + 1) n) in omega (arith, rest, c))

pub past_range : (a n x : ℕ) → a + n ≤ x → count x (range_with_len a n) ≡ 0
past_range a zero x le = refl
past_range a (suc n) x le =
    let here = ap indicator (ne_eqb a x (λ same. absurd (omega (arith, same, le)))) in
    let rest = past_range (a + 1) n x (omega (arith, le)) in let c = count_cons x a (range_with_len (a + 1) n) in omega (arith, here, rest, c)

pub below_end : (n x : ℕ) → 0 < count x (range_with_len 0 n) → x < n
below_end n x some = dite (dec_le n x) (λ le. let none = past_range 0 n x (omega (arith, le)) in absurd (omega (arith, none, some))) (λ lt. omega (arith, lt))

module _ {X : Type 0} (p q : X → Bool) (implies : (x : X) → p x ≡ true → q x ≡ true) where
  -- what is picked of a part that has all that is to be picked
  filter_part : (xs : List X) → filter p (filter q xs) ≡ filter p xs
  filter_part [] = refl
  filter_part (x ∷ xs) = by_case (p x) (q x) refl refl (filter_part xs)
    where
      by_case : (bp bq : Bool) → p x ≡ bp → q x ≡ bq → filter p (filter q xs) ≡ filter p xs
          → filter p (cond (q x) (x ∷ filter q xs) (filter q xs)) ≡ cond (p x) (x ∷ filter p xs) (filter p xs)
      by_case bp true hp hq rest = ap (λ b. filter p (cond b (x ∷ filter q xs) (filter q xs))) hq ∙ ap (λ l. cond (p x) (x ∷ l) l) rest
      by_case true false hp hq rest = absurd (cc (implies x hp, hq))
      by_case false false hp hq rest =
          ap (λ b. filter p (cond b (x ∷ filter q xs) (filter q xs))) hq ∙ rest ∙ ap (λ b. cond b (x ∷ filter p xs) (filter p xs)) (sym hp)

module _ {X : Type 0} (p : X → Bool) where
  pub few_of : (xs : List X) → length (filter p xs) ≤ length xs
  few_of [] = omega arith
  few_of (x ∷ xs) = by_case (p x) (few_of xs)
    where
      by_case : (b : Bool) → length (filter p xs) ≤ length xs → length (cond b (x ∷ filter p xs) (filter p xs)) ≤ length (x ∷ xs)
      by_case true h = omega (arith, h)
      by_case false h = omega (arith, h)

  abbrev tail_of : List X → List X
  tail_of [] = []
  tail_of (x ∷ xs) = xs

  -- where all are picked, each is to be picked
  pub all_picked : (xs : List X) → filter p xs ≡ xs → All (λ x. p x ≡ true) xs
  all_picked [] e = λ k d lt. absurd (omega (arith, lt))
  all_picked (x ∷ xs) e = by_case (p x) refl e (few_of xs) (λ h. all_picked xs h)
    where
      by_case : (b : Bool) → p x ≡ b → cond b (x ∷ filter p xs) (filter p xs) ≡ x ∷ xs → length (filter p xs) ≤ length xs → (filter p xs ≡ xs → All (λ y. p y ≡ true) xs)
          → All (λ y. p y ≡ true) (x ∷ xs)
      by_case true is h most rest zero d lt = is
      by_case true is h most rest (suc k) d lt = rest (ap tail_of h) k d (omega (arith, lt))
      by_case false is h most rest k d lt = let long = ap length h in absurd (omega (arith, long, most))

  -- where none are picked, none is to be picked
  pub none_picked : (xs : List X) → filter p xs ≡ [] → All (λ x. p x ≡ false) xs
  none_picked [] e = λ k d lt. absurd (omega (arith, lt))
  none_picked (x ∷ xs) e = by_case (p x) refl e (λ h. none_picked xs h)
    where
      by_case : (b : Bool) → p x ≡ b → cond b (x ∷ filter p xs) (filter p xs) ≡ [] → (filter p xs ≡ [] → All (λ y. p y ≡ false) xs) → All (λ y. p y ≡ false) (x ∷ xs)
      by_case true is h rest k d lt = absurd (cc h)
      by_case false is h rest zero d lt = is
      by_case false is h rest (suc k) d lt = rest h k d (omega (arith, lt))

module _ {A R : Type 0} where
  -- a number that is one of these has no further call either
  pub each_number_stays : (number : ℕ) (numbers : List ℕ) (earlier later : List (Entry A R)) → 0 < count number numbers → Continues numbers earlier later
      → calls_by (number ∷ []) later ≡ calls_by (number ∷ []) earlier
  each_number_stays number numbers earlier later in_it continues =
      let one : Entry A R → Bool = λ call. nat_lt 0 (count call.by (number ∷ [])) in
      let many : Entry A R → Bool = λ call. nat_lt 0 (count call.by numbers) in
      let implies : (e : Entry A R) → one e ≡ true → many e ≡ true = λ e h. is_in e h in
      sym (filter_part one many implies later) ∙ ap (filter one) continues.1 ∙ filter_part one many implies earlier
    where
      by_case : (by : ℕ) (b : Bool) → eqb number by ≡ b → 0 < indicator b → 0 < count by numbers
      by_case by true e h = let same : number ≡ by = search (e, arith) in subst (λ n. 0 < count n numbers) same in_it
      by_case by false e h = absurd (omega arith)

      is_in : (e : Entry A R) → nat_lt 0 (count e.by (number ∷ [])) ≡ true → nat_lt 0 (count e.by numbers) ≡ true
      is_in e h =
          let some = ltb-true 0 (count e.by (number ∷ [])) h in
          lt-ltb 0 (count e.by numbers) (by_case e.by (eqb number e.by) refl (subst (λ n. 0 < n) (count_one e.by number) some))
