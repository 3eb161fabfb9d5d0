-- Induction over a run, piece by piece.
use Rattle.std.proofs.Common.{◌≡◌, ◌+◌, ◌-◌, ◌<◌, ◌≤◌, min, ℕ, zero, suc, refl, inl, inr, arith}
use Rattle.std.proofs.lemmas.Bool.{cases_lt}

-- a run of at most so many sectors
within : (next : ℕ → ℕ) (P : ℕ → ℕ → Type 0) → ((r : ℕ) → r < next r)
    → ((r len n : ℕ) → n ≡ min (next r - r) len → 0 < n → n ≡ len → P r len)
    → ((r len n : ℕ) → n ≡ min (next r - r) len → 0 < n → n < len → P (r + n) (len - n) → P r len)
    → (bound r len : ℕ) → len ≤ bound → 0 < len → P r len
within next P ahead one more zero r len short some = absurd (omega arith)
within next P ahead one more (suc bound) r len short some =
    let n : ℕ = min (next r - r) len in
    let begins : 0 < min (next r - r) len = omega (arith, ahead r) in
    elim (cases_lt (min (next r - r) len) len) [
      | inl lt ↦ more r len (min (next r - r) len) refl begins lt
          (within next P ahead one more bound (r + min (next r - r) len) (len - min (next r - r) len) (omega arith) (omega arith))
      | inr ge ↦ one r len (min (next r - r) len) refl begins (omega arith)
    ]

-- what holds of a run that is one piece, and of one with more pieces where it holds of the rest, holds of each run
pub by_pieces : (next : ℕ → ℕ) (P : ℕ → ℕ → Type 0) → ((r : ℕ) → r < next r)
    → ((r len n : ℕ) → n ≡ min (next r - r) len → 0 < n → n ≡ len → P r len)
    → ((r len n : ℕ) → n ≡ min (next r - r) len → 0 < n → n < len → P (r + n) (len - n) → P r len)
    → (r len : ℕ) → 0 < len → P r len
by_pieces next P ahead one more r len some = within next P ahead one more len r len (omega arith) some
