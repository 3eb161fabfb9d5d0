-- Tickets in a row: none is greater than their number.
use Rattle.std.proofs.Common.{◌≡◌, ◌+◌, ◌-◌, ◌≤◌, ◌⊎◌, ℕ, zero, suc, List, [], ◌∷◌, length, inl, inr, sym, subst, arith}
use Rattle.std.specs.Prelude.{Contains}
use Rattle.std.specs.List.{remove}
use Rattle.std.proofs.lemmas.List.Edits.{length-remove}
use Rattle.std.proofs.lemmas.List.Elements.{Contains-append_cases}
use Rattle.std.proofs.lemmas.List.Sorted.{IsPermutation-remove, Contains-permutation}
use Rattle.shared_objects.specs.Passes.{AreInRow}

-- a row goes down to 1
down : (drawn : List ℕ) → AreInRow drawn → (k n : ℕ) → 1 ≤ n → Contains drawn (n + k) → Contains drawn n
down drawn row zero n some there = let e : n + 0 ≡ n = omega arith in subst (Contains drawn) e there
down drawn row (suc k) n some there = by_two (row (n + suc k) there) (down drawn row k n some)
  where
    by_two : (n + suc k ≡ 1) ⊎ ((other : ℕ) × Contains drawn other × (n + suc k ≡ other + 1)) → (Contains drawn (n + k) → Contains drawn n) → Contains drawn n
    by_two (inl e) rest = absurd (omega (arith, e, some))
    by_two (inr (other, there, e)) rest = let same : other ≡ n + k = omega (arith, e) in rest (subst (Contains drawn) same there)

-- a list that has 1, 2 and so on up to n is as long
long : (n : ℕ) (xs : List ℕ) → ((m : ℕ) → 1 ≤ m → m ≤ n → Contains xs m) → n ≤ length xs
long zero xs all = omega arith
long (suc n) xs all = by_last (all (suc n) (omega arith) (omega arith)) (λ k. long n (remove xs k))
  where
    by_last : Contains xs (suc n) → ((k : ℕ) → ((m : ℕ) → 1 ≤ m → m ≤ n → Contains (remove xs k) m) → n ≤ length (remove xs k)) → suc n ≤ length xs
    by_last (k, lt, at) rest = omega (arith, rest k others, length-remove xs k lt)
      where
        others : (m : ℕ) → 1 ≤ m → m ≤ n → Contains (remove xs k) m
        others m some le =
            by_two (Contains-append_cases (suc n ∷ []) (remove xs k) m
            (Contains-permutation xs (suc n ∷ remove xs k) m (IsPermutation-remove xs k (suc n) lt (sym at)) (all m some (omega (arith, le)))))
          where
            by_two : Contains (suc n ∷ []) m ⊎ Contains (remove xs k) m → Contains (remove xs k) m
            by_two (inl (zero, one, same)) = absurd (omega (arith, le, same))
            by_two (inl (suc i, one, same)) = absurd (omega (arith, one))
            by_two (inr there) = there

pub row_long : (drawn : List ℕ) → AreInRow drawn → (n : ℕ) → Contains drawn n → n ≤ length drawn
row_long drawn row n there =
    long n drawn (λ m some le. let e : n ≡ m + (n - m) = omega (arith, le) in down drawn row (n - m) m some (subst (Contains drawn) e there))
