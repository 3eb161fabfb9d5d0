-- Numbers: what tests tell of them, and where one stands below a bound.
use Rattle.std.proofs.Common.{◌≡◌, ◌⊎◌, ◌+◌, ℕ, ◌<◌, ◌≤◌, ◌==◌, Bool, true, false, cond, zero, suc, eqb, refl, sym, ◌∙◌, inl, inr, arith}
use Rattle.std.proofs.lemmas.Bool.{cases_eq, eq-eqb, ne_eqb}

-- two numbers are equal from either side
pub eqb_flips : (x y : ℕ) → eqb x y ≡ eqb y x
eqb_flips x y = elim (cases_eq x y) [
  | inl same ↦ eq-eqb x y same ∙ sym (eq-eqb y x (sym same))
  | inr other ↦ ne_eqb x y other ∙ sym (ne_eqb y x (λ same. other (sym same)))
]

-- what is not 0 is told apart from it
pub not_zero : (out : ℕ) → 0 < out → (out == 0) ≡ false
not_zero out some = ne_eqb out 0 (λ none. omega (arith, some, none))

pub nonzero : (n : ℕ) → (n ≡ 0 → ⊥) → 1 ≤ n
nonzero zero some = absurd (some refl)
nonzero (suc n) some = omega arith

pub zero_or : (n : ℕ) → (n ≡ 0) ⊎ (1 ≤ n)
zero_or n = grind arith

-- of two numbers one is less, or they are the same
pub in_order : (a b : ℕ) → (a < b) ⊎ (a ≡ b) ⊎ (b < a)
in_order a b = grind arith

-- a number below one more is below, or is the last
pub below_or_last : (i n : ℕ) → i < n + 1 → (i < n) ⊎ (i ≡ n)
below_or_last i n lt = search (lt, arith)

-- a choice between one and nothing
pub one_or_none : (b : Bool) → cond b 1 0 ≤ 1
one_or_none true = omega arith
one_or_none false = omega arith
