-- Sums over the sectors of a run that is cut: what counts where a piece begins that is not the run's first, and what counts in the members.
use Rattle.std.proofs.Common.{◌≡◌, ◌+◌, ◌-◌, ◌<◌, ◌≤◌, ◌==◌, ◌&&◌, not, min, ℕ, Bool, true, false, cond, sum_by, zero-add, add-zero, add_assoc, refl, sym, ap, ◌∙◌, inl, inr, arith}
use Rattle.std.specs.List.{range_with_len}
use Rattle.std.proofs.lemmas.Bool.{cases_eq, eq-eqb, ne_eqb}
use Rattle.stack_base.specs.Mapping.{Slot}
use Rattle.stack_base.specs.Cutting.{IsCut}
use Rattle.layout_model.proofs.RangeSums.{sum_moved, sum_joined, sum_of_two, sum_of_first, sum_swapped}

-- the number, where a piece begins at s that is not the first of its run
abbrev pub cut_at : ℕ → ℕ → ℕ → ℕ → ℕ
cut_at each first r s = cond ((first == s) && not (r == s)) each 0

-- in the first piece no piece begins but the run's first
not_cut : (each r s : ℕ) → cut_at each r r s ≡ 0
not_cut each r s = elim (r == s) as (λ b. cond (b && not b) each 0 ≡ 0) [ true ↦ refl | false ↦ refl ]

-- behind the first piece there is one more cut than in the rest, at its first sector
later_cut : (each r q s first : ℕ) → r < q → q ≤ s → (q ≡ s → first ≡ q) → cut_at each first r s ≡ cond (q == s) each 0 + cut_at each first q s
later_cut each r q s first behind from here =
    let apart : (r == s) ≡ false = ne_eqb r s (λ same. omega arith) in
    elim (cases_eq q s) [
      | inl same ↦
          let at_q : (q == s) ≡ true = eq-eqb q s same in
          let at_first : (first == s) ≡ true = eq-eqb first s (here same ∙ same) in
          rw (apart, at_q, at_first) (sym (add-zero each))
      | inr other ↦ rw (apart, ne_eqb q s other) (sym (zero-add _))
    ]

-- what counts at sector s of a run that starts at r
abbrev pub counted : (ℕ → ℕ → ℕ) → (ℕ → Slot) → ℕ → (ℕ → ℕ → ℕ → ℕ) → ℕ → ℕ → ℕ
counted head slot each inner r s = cut_at each (head r s) r s + inner (slot s).member (slot (head r s)).at (slot s).at

-- and at all sectors of the run
abbrev pub run_total : (ℕ → ℕ → ℕ) → ℕ → ℕ → ℕ
run_total f r len = sum_by (λ s. f r s) (range_with_len r len)

module _ (head : ℕ → ℕ → ℕ) (next : ℕ → ℕ) (slot : ℕ → Slot) (cut : IsCut head next slot) (each : ℕ) (inner : ℕ → ℕ → ℕ → ℕ) where
  -- at a sector of the first piece that is what counts in the member
  counted_here : (r s : ℕ) → r ≤ s → s < next r → counted head slot each inner r s ≡ inner (slot r).member (slot r).at ((slot r).at + (s - r))
  counted_here r s from before =
      ap (λ first. cut_at each first r s + inner (slot s).member (slot first).at (slot s).at) (cut.here r s from before)
      ∙ ap (λ place. cut_at each r r s + inner place.member (slot r).at place.at) (cut.along r s from before)
      ∙ ap (λ one. one + inner (slot r).member (slot r).at ((slot r).at + (s - r))) (not_cut each r s)
      ∙ zero-add _

  -- behind it that is what counts in the rest, and once more at its first sector
  counted_later : (r q s : ℕ) → q ≡ next r → q ≤ s → counted head slot each inner r s ≡ cond (q == s) each 0 + counted head slot each inner q s
  counted_later r q s is from =
      let ahead : r < next r = cut.ahead r in
      let same : head r s ≡ head q s = cut.later r s (omega arith) ∙ ap (λ p. head p s) (sym is) in
      ap (λ first. cut_at each first r s + inner (slot s).member (slot first).at (slot s).at) same
      ∙ ap (λ one. one + inner (slot s).member (slot (head q s)).at (slot s).at)
      (later_cut each r q s (head q s) (omega arith) from (λ at_q. cut.here q s from (omega (arith, cut.ahead q))))
      ∙ add_assoc (cond (q == s) each 0) _ _

  -- the sum over a first piece, or a part of it
  total_here : (r n : ℕ) → r + n ≤ next r → run_total (counted head slot each inner) r n ≡ run_total (inner (slot r).member) (slot r).at n
  total_here r n within =
      sum_moved (counted head slot each inner r) (inner (slot r).member (slot r).at) r (slot r).at n (λ i lt.
      let on : r + i - r ≡ i = omega arith in
      counted_here r (r + i) (omega arith) (omega arith) ∙ ap (λ j. inner (slot r).member (slot r).at ((slot r).at + j)) on)

  -- the sum over what is behind the first piece
  total_later : (r q len : ℕ) → q ≡ next r → 0 < len → sum_by (λ s. counted head slot each inner r s) (range_with_len q len) ≡ each + run_total (counted head slot each inner) q len
  total_later r q len is some =
      sum_moved (counted head slot each inner r) (λ s. cond (q == s) each 0 + counted head slot each inner q s) q q len
      (λ i lt. counted_later r q (q + i) is (omega arith))
      ∙ sum_of_two (λ s. cond (q == s) each 0) (counted head slot each inner q) (range_with_len q len)
      ∙ ap (λ one. one + run_total (counted head slot each inner) q len) (sum_of_first q len each some)

  -- the sum over a run that is one piece
  pub total_piece : (r len n : ℕ) → n ≡ min (next r - r) len → n ≡ len
      → run_total (counted head slot each inner) r len ≡ run_total (inner (slot r).member) (slot r).at len
  total_piece r len n is whole = total_here r len (omega (arith, cut.ahead r))

  -- the sum over a run with more pieces
  pub total_more : (r len n : ℕ) → n ≡ min (next r - r) len → n < len
      → run_total (counted head slot each inner) r len ≡ run_total (inner (slot r).member) (slot r).at n + (each + run_total (counted head slot each inner) (r + n) (len - n))
  total_more r len n is more =
      let ends : r + n ≡ next r = omega (arith, cut.ahead r) in
      let both : len ≡ n + (len - n) = omega arith in
      ap (run_total (counted head slot each inner) r) both
      ∙ sum_joined (counted head slot each inner r) r n (len - n)
      ∙ ap (λ front. front + sum_by (counted head slot each inner r) (range_with_len (r + n) (len - n))) (total_here r n (omega arith))
      ∙ ap (λ rest. run_total (inner (slot r).member) (slot r).at n + rest) (total_later r (r + n) (len - n) ends (omega arith))

-- the sum over a run that a mirror copies: once where it begins, and in each member
pub total_legs : (each : ℕ) (inner : ℕ → ℕ → ℕ → ℕ) (count r len : ℕ) → 0 < len
    → sum_by (λ s. cond (r == s) each 0 + sum_by (λ k. inner k r s) (range_with_len 0 count)) (range_with_len r len)
    ≡ each + sum_by (λ k. run_total (inner k) r len) (range_with_len 0 count)
total_legs each inner count r len some =
    sum_of_two (λ s. cond (r == s) each 0) (λ s. sum_by (λ k. inner k r s) (range_with_len 0 count)) (range_with_len r len)
    ∙ ap (λ one. one + sum_by (λ s. sum_by (λ k. inner k r s) (range_with_len 0 count)) (range_with_len r len)) (sum_of_first r len each some)
    ∙ ap (λ rest. each + rest) (sum_swapped (λ s k. inner k r s) (range_with_len r len) (range_with_len 0 count))

-- a choice between the same number twice
choice_of_same : (b : Bool) (n : ℕ) → cond b n n ≡ n
choice_of_same true n = refl
choice_of_same false n = refl

-- where nothing counts at a cut, only what is in the members counts
pub counted_none : (head : ℕ → ℕ → ℕ) (slot : ℕ → Slot) (inner : ℕ → ℕ → ℕ → ℕ) (r s : ℕ)
    → counted head slot 0 inner r s ≡ inner (slot s).member (slot (head r s)).at (slot s).at
counted_none head slot inner r s =
    ap (λ one. one + inner (slot s).member (slot (head r s)).at (slot s).at) (choice_of_same ((head r s == s) && not (r == s)) 0) ∙ zero-add _
