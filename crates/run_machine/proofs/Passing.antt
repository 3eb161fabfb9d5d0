-- What passes a test, of a list.
use Rattle.std.proofs.Common.{◌≡◌, ◌<◌, ◌≤◌, ◌||◌, not, if◌then◌else◌, ℕ, Bool, true, false, List, [], ◌∷◌, filter, refl, arith}
use Rattle.std.specs.Prelude.{All, sum_by}
use Rattle.std.specs.List.{list_any, range_with_len}
use Rattle.std.proofs.lemmas.List.Elements.{All-head, All-tail, All-from_get_or}
use Rattle.std.proofs.lemmas.List.Filters.{sum_by-filter_both}
use Rattle.std.proofs.lemmas.List.FromFn.{get_or-range_with_len, length-range_with_len}

-- none passes a test that no element passes
pub none_passes : {X : Type 0} (p : X → Bool) (xs : List X) → list_any p xs ≡ false → filter p xs ≡ []
none_passes p [] none = refl
none_passes p (x ∷ xs) none = by_test (p x) none (none_passes p xs)
  where
    by_test : (v : Bool) → (v || list_any p xs) ≡ false → (list_any p xs ≡ false → filter p xs ≡ []) → (if v then x ∷ filter p xs else filter p xs) ≡ []
    by_test true h rest = absurd cc
    by_test false h rest = rest h

-- nor one that each element fails
pub none_passing : {X : Type 0} (p : X → Bool) (xs : List X) → All (λ x. p x ≡ false) xs → filter p xs ≡ []
none_passing p [] all = refl
none_passing p (x ∷ xs) all = let first = All-head (λ x. p x ≡ false) x xs all in rw (first) (none_passing p xs (All-tail (λ x. p x ≡ false) x xs all))

-- what passes has no greater sum
pub filter_sum : {X : Type 0} (g : X → ℕ) (p : X → Bool) (xs : List X) → sum_by g (filter p xs) ≤ sum_by g xs
filter_sum g p xs = omega (arith, sum_by-filter_both p (λ x. not (p x)) (λ x. refl) g xs)

-- the first numbers are below their count
pub below_all : (n : ℕ) → All (λ k. k < n) (range_with_len 0 n)
below_all n = All-from_get_or (λ k. k < n) (range_with_len 0 n) 0 (λ i lt. let le : i < n = omega (arith, lt, length-range_with_len 0 n) in omega (arith, le, get_or-range_with_len 0 n i 0 le))
