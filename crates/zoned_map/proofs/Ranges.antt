-- The numbers of a range that pass a test, and sums over a range, one number further.
use Rattle.std.proofs.Common.{◌≡◌, ℕ, zero, suc, ◌+◌, ◌≤◌, Bool, true, false, [], ◌∷◌, ◌++◌, length, refl, ap, ◌∙◌, inl, inr, arith}
use Rattle.std.specs.List.{filter, range_with_len, sum_by}
use Rattle.std.proofs.lemmas.Bool.{cases_Bool, cond-true, cond-false}
use Rattle.std.proofs.lemmas.List.{append-nil}
use Rattle.std.proofs.lemmas.List.Elements.{filter-append}
use Rattle.std.proofs.lemmas.List.Sums.{sum_by-cons}
use Rattle.stack_base.proofs.Passing.{passing, passing-yes, passing-no}
use Rattle.stack_base.proofs.Zones.{sum_from}
use Rattle.stack_base.proofs.ListLemmas.{range_more}

-- where that number passes, it is one more
pub passing_push : (test : ℕ → Bool) (n : ℕ) → test n ≡ true → passing test 0 (n + 1) ≡ passing test 0 n ++ n ∷ []
passing_push test n passes =
    ap (filter test) (range_more n) ∙ filter-append test (range_with_len 0 n) (n ∷ [])
    ∙ ap (λ xs. passing test 0 n ++ xs) (cond-true (test n) (n ∷ []) [] passes)

-- and where it does not, it is left out
pub passing_skip : (test : ℕ → Bool) (n : ℕ) → test n ≡ false → passing test 0 (n + 1) ≡ passing test 0 n
passing_skip test n fails =
    ap (filter test) (range_more n) ∙ filter-append test (range_with_len 0 n) (n ∷ [])
    ∙ ap (λ xs. passing test 0 n ++ xs) (cond-false (test n) (n ∷ []) [] fails) ∙ append-nil (passing test 0 n)

-- no more pass than there are
pub passing_few : (test : ℕ → Bool) (a n : ℕ) → length (passing test a n) ≤ n
passing_few test a zero = omega arith
passing_few test a (suc n) = elim (cases_Bool (test a)) [
  | inl passes ↦ omega (arith, ap length (passing-yes test a n passes), passing_few test (a + 1) n)
  | inr fails ↦ omega (arith, ap length (passing-no test a n fails), passing_few test (a + 1) n)
]

-- one more value
pub total_more : (f : ℕ → ℕ) (a n : ℕ) → sum_from f a (n + 1) ≡ sum_from f a n + f (a + n)
total_more f a zero =
    let here : a ≡ a + 0 = omega arith in
    omega (arith, ap f here)
total_more f a (suc n) =
    let further : a + 1 + n ≡ a + suc n = omega arith in
    let longer : suc n + 1 ≡ suc (n + 1) = omega arith in
    omega (arith, total_more f (a + 1) n, ap f further, ap (sum_from f a) longer)

pub total_next : (f : ℕ → ℕ) (n : ℕ) → sum_from f 0 (n + 1) ≡ sum_from f 0 n + f n
total_next f n =
    let here : 0 + n ≡ n = omega arith in
    omega (arith, total_more f 0 n, ap f here)

-- the sum over a range
pub total_range : (f : ℕ → ℕ) (a n : ℕ) → sum_from f a n ≡ sum_by f (range_with_len a n)
total_range f a zero = refl
total_range f a (suc n) = omega (arith, total_range f (a + 1) n, sum_by-cons f a (range_with_len (a + 1) n))
