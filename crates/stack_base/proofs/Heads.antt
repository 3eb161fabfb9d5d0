-- What the laws of cutting say of the heads of a run.
use Rattle.std.proofs.Common.{◌≡◌, ◌↔◌, ℕ, zero, suc, ◌+◌, ◌-◌, ◌<◌, ◌≤◌, inl, inr, refl, sym, ap, ◌∙◌, arith}
use Rattle.std.specs.Prelude.{min}
use Rattle.std.proofs.lemmas.Bool.{cases_lt}
use Rattle.stack_base.specs.Mapping.{Slot}
use Rattle.stack_base.specs.Cutting.{IsCut}

module _ (head : ℕ → ℕ → ℕ) (next : ℕ → ℕ) (slot : ℕ → Slot) (cut : IsCut head next slot) where
  -- the first sector of a run is a head
  pub head_first : (r : ℕ) → head r r ≡ r
  head_first r = cut.here r r (omega arith) (cut.ahead r)

  -- bounds of a head, with so many sectors to go at the most
  bounds_within : (steps r s : ℕ) → s ≤ r + steps → r ≤ s → (r ≤ head r s) × (head r s ≤ s)
  bounds_within zero r s near le =
      let same : head r s ≡ r = cut.here r s le (omega (arith, cut.ahead r)) in
      (omega arith, omega arith)
  bounds_within (suc steps) r s near le =
      elim (cases_lt s (next r)) [
        | inl lt ↦ let same : head r s ≡ r = cut.here r s le lt in (omega arith, omega arith)
        | inr ge ↦
            let same : head r s ≡ head (next r) s = cut.later r s ge in
            let rest = bounds_within steps (next r) s (omega (arith, cut.ahead r)) ge in
            (omega (arith, cut.ahead r, rest.0), omega (arith, rest.1))
      ]

  -- the head of a sector's piece is in the run, and not behind the sector
  pub head_bounds : (r s : ℕ) → r ≤ s → (r ≤ head r s) × (head r s ≤ s)
  head_bounds r s le = bounds_within s r s (omega arith) le

  -- the law of heads, where the rest begins so many sectors behind the start at the most
  again_within : (steps r r2 s : ℕ) → r2 ≤ r + steps → r ≤ r2 → head r r2 ≡ r2 → r2 ≤ s → head r2 s ≡ head r s
  again_within zero r r2 s near le is le2 =
      let same : r2 ≡ r = omega arith in
      ap (λ x. head x s) same
  again_within (suc steps) r r2 s near le is le2 =
      elim (cases_lt r2 (next r)) [
        | inl lt ↦ let same : r2 ≡ r = sym is ∙ cut.here r r2 le lt in ap (λ x. head x s) same
        | inr ge ↦
            again_within steps (next r) r2 s (omega (arith, cut.ahead r)) ge (sym (cut.later r r2 ge) ∙ is) le2
            ∙ sym (cut.later r s (omega arith))
      ]

  -- a rest that begins at a head is cut where the whole run is
  pub head_again : (r r2 s : ℕ) → r ≤ r2 → head r r2 ≡ r2 → r2 ≤ s → head r2 s ≡ head r s
  head_again r r2 s le is le2 = again_within r2 r r2 s (omega arith) le is le2

  -- the head of a head is the head itself, with so many sectors to go at the most
  twice_within : (steps r s : ℕ) → s ≤ r + steps → r ≤ s → head r (head r s) ≡ head r s
  twice_within zero r s near le =
      let same : head r s ≡ r = cut.here r s le (omega (arith, cut.ahead r)) in
      ap (head r) same ∙ head_first r ∙ sym same
  twice_within (suc steps) r s near le =
      elim (cases_lt s (next r)) [
        | inl lt ↦ let same : head r s ≡ r = cut.here r s le lt in ap (head r) same ∙ head_first r ∙ sym same
        | inr ge ↦
            let same : head r s ≡ head (next r) s = cut.later r s ge in
            let behind = head_bounds (next r) s ge in
            ap (head r) same ∙ cut.later r (head (next r) s) behind.0
            ∙ twice_within steps (next r) s (omega (arith, cut.ahead r)) ge ∙ sym same
      ]

  -- a head is its own head
  pub head_twice : (r s : ℕ) → r ≤ s → head r (head r s) ≡ head r s
  head_twice r s le = twice_within s r s (omega arith) le

  -- a sector at or behind the first piece's end has another head
  pub head_behind : (r s : ℕ) → next r ≤ s → r < head r s
  head_behind r s ge =
      let same : head r s ≡ head (next r) s = cut.later r s ge in
      let rest = head_bounds (next r) s ge in
      omega (arith, cut.ahead r, rest.0)

  -- the sectors before the next head are those before the piece's end
  pub piece_exact :
      (r len n : ℕ) → n ≡ min (next r - r) len → 1 ≤ len
      → (1 ≤ n) × (n ≤ len) × ((s : ℕ) → r ≤ s → s < r + len → (head r s ≡ r) ↔ (s < r + n))
  piece_exact r len n is some = (
    omega (arith, cut.ahead r),
    omega arith,
    λ s le lt. (
      λ first. elim (cases_lt s (r + n)) [
        | inl before ↦ before
        | inr behind ↦ absurd (omega (arith, head_behind r s (omega arith)))
      ],
      λ before. cut.here r s le (omega arith),
    ),
  )

  -- and so long is a piece of exactly the sectors before the next head
  pub piece_only :
      (r len n : ℕ) → 1 ≤ n → n ≤ len → ((s : ℕ) → r ≤ s → s < r + len → (head r s ≡ r) ↔ (s < r + n))
      → n ≡ min (next r - r) len
  piece_only r len n some within exact =
      let own = piece_exact r len (min (next r - r) len) refl (omega arith) in
      let last : n - 1 < n = omega arith in
      let own_last : 1 ≤ min (next r - r) len = omega (arith, cut.ahead r) in
      let first : r + (n - 1) < r + min (next r - r) len =
      (own.2 (r + (n - 1)) (omega arith) (omega arith)).0 ((exact (r + (n - 1)) (omega arith) (omega arith)).1 (omega arith)) in
      let second : r + (min (next r - r) len - 1) < r + n =
      (exact (r + (min (next r - r) len - 1)) (omega arith) (omega arith)).0
      ((own.2 (r + (min (next r - r) len - 1)) (omega arith) (omega arith)).1 (omega arith)) in
      omega arith
