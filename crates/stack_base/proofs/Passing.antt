-- The numbers of a range that pass a test, in their order.
use Rattle.std.proofs.Common.{◌≡◌, ℕ, zero, suc, ◌+◌, ◌-◌, ◌<◌, ◌≤◌, Bool, true, false, List, ◌∷◌, length, get_or, inl, inr, refl, ap, ◌∙◌, sym, arith}
use Rattle.std.specs.List.{filter, range_with_len}
use Rattle.std.proofs.lemmas.Bool.{cases_Bool, cases_lt, cond-true, cond-false}

module _ (test : ℕ → Bool) where
  -- those of n numbers from a on
  abbrev pub passing : ℕ → ℕ → List ℕ
  passing a n = filter test (range_with_len a n)

  -- the first number passes, or it does not
  pub passing-yes : (a n : ℕ) → test a ≡ true → passing a (suc n) ≡ a ∷ passing (a + 1) n
  passing-yes a n passes = cond-true (test a) (a ∷ passing (a + 1) n) (passing (a + 1) n) passes

  pub passing-no : (a n : ℕ) → test a ≡ false → passing a (suc n) ≡ passing (a + 1) n
  passing-no a n fails = cond-false (test a) (a ∷ passing (a + 1) n) (passing (a + 1) n) fails

  -- the numbers before k in a range that begins with a
  counts_to : (a k : ℕ) → a < k → k - a ≡ suc (k - (a + 1))
  counts_to a k lt = omega arith

  -- a number that passes is in the list, behind as many as pass before it
  pub passing_there :
      (a n k : ℕ) → a ≤ k → k < a + n → test k ≡ true
      → (length (passing a (k - a)) < length (passing a n)) × (get_or (passing a n) (length (passing a (k - a))) 0 ≡ k)
  passing_there a zero k le lt passes = absurd (omega arith)
  passing_there a (suc n) k le lt passes = elim (cases_lt a k) [
    | inl before ↦
        let rest = passing_there (a + 1) n k (omega arith) (omega arith) passes in
        elim (cases_Bool (test a)) [
          | inl first ↦ rw (counts_to a k before, passing-yes a (k - (a + 1)) first, passing-yes a n first) (omega (arith, rest.0), rest.1)
          | inr none ↦ rw (counts_to a k before, passing-no a (k - (a + 1)) none, passing-no a n none) rest
        ]
    | inr here ↦
        let same : k ≡ a = omega arith in
        let none : k - a ≡ 0 = omega arith in
        let first : test a ≡ true = ap test (sym same) ∙ passes in
        rw (none, passing-yes a n first) (omega arith, sym same)
  ]

  -- a number that passes, in the list behind as many as pass before it
  Stands : ℕ → ℕ → ℕ → Type 0
  Stands a n i =
      (k : ℕ) × (get_or (passing a n) i 0 ≡ k) × (a ≤ k) × (k < a + n) × (test k ≡ true) × (length (passing a (k - a)) ≡ i)

  stands_first : (a n : ℕ) → test a ≡ true → Stands a (suc n) 0
  unfolding Stands
  stands_first a n first =
      let none : a - a ≡ 0 = omega arith in
      (a, rw (passing-yes a n first) refl, omega arith, omega arith, first, rw none refl)

  stands_more : (a n i : ℕ) → test a ≡ true → Stands (a + 1) n i → Stands a (suc n) (suc i)
  unfolding Stands
  stands_more a n i first rest =
      let before : a < rest.0 = omega (arith, rest.2) in (
        rest.0,
        rw (passing-yes a n first) rest.1,
        omega (arith, rest.2),
        omega (arith, rest.3),
        rest.4,
        rw (counts_to a rest.0 before, passing-yes a (rest.0 - (a + 1)) first) (ap suc rest.5),
      )

  stands_on : (a n i : ℕ) → test a ≡ false → Stands (a + 1) n i → Stands a (suc n) i
  unfolding Stands
  stands_on a n i none rest =
      let before : a < rest.0 = omega (arith, rest.2) in (
        rest.0,
        rw (passing-no a n none) rest.1,
        omega (arith, rest.2),
        omega (arith, rest.3),
        rest.4,
        rw (counts_to a rest.0 before, passing-no a (rest.0 - (a + 1)) none) rest.5,
      )

  -- so each number in the list stands there
  stands : (a n i : ℕ) → i < length (passing a n) → Stands a n i
  stands a zero i lt = absurd (omega arith)
  stands a (suc n) zero lt = elim (cases_Bool (test a)) [
    | inl first ↦ stands_first a n first
    | inr none ↦ stands_on a n 0 none (stands (a + 1) n 0 (rw (passing-no a n none) at lt))
  ]
  stands a (suc n) (suc i) lt = elim (cases_Bool (test a)) [
    | inl first ↦
        let more : suc i < suc (length (passing (a + 1) n)) = rw (passing-yes a n first) at lt in
        stands_more a n i first (stands (a + 1) n i (omega arith))
    | inr none ↦ stands_on a n (suc i) none (stands (a + 1) n (suc i) (rw (passing-no a n none) at lt))
  ]

  pub passing_from :
      (a n i : ℕ) → i < length (passing a n)
      → (k : ℕ) × (get_or (passing a n) i 0 ≡ k) × (a ≤ k) × (k < a + n) × (test k ≡ true) × (length (passing a (k - a)) ≡ i)
  unfolding Stands
  passing_from a n i lt = stands a n i lt

  -- where none passes before t and t does, t is the first
  pub passing_next :
      (a n t : ℕ) → a ≤ t → t < a + n → ((k : ℕ) → a ≤ k → k < t → test k ≡ false) → test t ≡ true
      → passing a n ≡ t ∷ passing (t + 1) (a + n - (t + 1))
  passing_next a zero t le lt none passes = absurd (omega arith)
  passing_next a (suc n) t le lt none passes = elim (cases_lt a t) [
    | inl before ↦
        let left : a + 1 + n - (t + 1) ≡ a + suc n - (t + 1) = omega arith in
        passing-no a n (none a (omega arith) before)
        ∙ passing_next (a + 1) n t (omega arith) (omega arith) (λ k le2 lt2. none k (omega arith) lt2) passes
        ∙ ap (λ m. t ∷ passing (t + 1) m) left
    | inr here ↦
        let same : a ≡ t = omega arith in
        let left : n ≡ a + suc n - (t + 1) = omega arith in
        passing-yes a n (ap test same ∙ passes) ∙ ap (λ x. x ∷ passing (x + 1) n) same ∙ ap (λ m. t ∷ passing (t + 1) m) left
  ]

-- tests that agree at the numbers of a range pass the same
pub passing_same :
    (p q : ℕ → Bool) (a n : ℕ) → ((k : ℕ) → a ≤ k → k < a + n → p k ≡ q k) → passing p a n ≡ passing q a n
passing_same p q a zero same = refl
passing_same p q a (suc n) same =
    let here : p a ≡ q a = same a (omega arith) (omega arith) in
    let rest : passing p (a + 1) n ≡ passing q (a + 1) n = passing_same p q (a + 1) n (λ k le lt. same k (omega arith) (omega arith)) in
    elim (cases_Bool (q a)) [
      | inl passes ↦ passing-yes p a n (here ∙ passes) ∙ ap (λ ks. a ∷ ks) rest ∙ sym (passing-yes q a n passes)
      | inr fails ↦ passing-no p a n (here ∙ fails) ∙ rest ∙ sym (passing-no q a n fails)
    ]
