-- How much a run can need, and how many fragments it can have.
use Rattle.std.proofs.Common.{◌≡◌, ◌+◌, ◌*◌, ◌<◌, ◌≤◌, ◌==◌, ◌&&◌, not, ℕ, Bool, true, false, cond, List, length, sum, map, inl, inr, arith}
use Rattle.std.specs.List.{range_with_len}
use Rattle.std.proofs.lemmas.Bool.{cases_lt}
use Rattle.std.proofs.lemmas.List.Sums.{sum-map, sum_by-le-sum_by}
use Rattle.std.proofs.lemmas.List.FromFn.{length-range_with_len}
use Rattle.stack_base.specs.Mapping.{slot, head}
use Rattle.stack_base.specs.Cutting.{piece_end}
use Rattle.stack_base.specs.Tree.{Tree, Leaf, Split, Mirrored, most_begun}
use Rattle.layout_model.specs.Need.{elements_begun, needed, fragments_in_run}
use Rattle.layout_model.specs.Sound.{Sound, NothingBehindMembers}
use Rattle.layout_model.proofs.RangeSums.{sum_le, term_le_sum, sum_of_one, sum_of_two}
use Rattle.layout_model.proofs.NeedsByPieces.{needed_piece, needed_more, needed_legs, fragments_of_disk, fragments_of_piece, fragments_of_more, fragments_of_legs}
use Rattle.layout_model.proofs.PieceInduction.{by_pieces}

-- a member weighs no more than all of them
member_le : (number : ℕ) (sizes : List ℕ) (members : ℕ → Tree) → ((k : ℕ) → length sizes ≤ k → members k ≡ Leaf number 0) → (k : ℕ)
    → most_begun (members k) ≤ sum (map (λ k. most_begun (members k)) (range_with_len 0 (length sizes)))
unfolding most_begun
member_le number sizes members closed k = elim (cases_lt k (length sizes)) [
  | inl lt ↦ rw sum-map (term_le_sum (λ k. most_begun (members k)) (length sizes) k lt)
  | inr ge ↦ rw (closed k ge) (omega arith)
]

-- a choice between a number and nothing
choice_le : (b : Bool) (n : ℕ) → cond b n 0 ≤ n
choice_le true n = omega arith
choice_le false n = omega arith

-- at one sector no more begins than the device weighs
pub begun_le_most : (t : Tree) (r s : ℕ) → NothingBehindMembers t → elements_begun t r s ≤ most_begun t
unfolding NothingBehindMembers elements_begun most_begun
begun_le_most (Leaf number sectors) r s closed = omega arith
begun_le_most (Split number kind sizes members) r s closed =
    let below = begun_le_most (members (slot kind sizes s).member) (slot kind sizes (head kind sizes r s)).at (slot kind sizes s).at (closed.1 (slot kind sizes s).member) in
    omega (arith, choice_le ((head kind sizes r s == s) && not (r == s)) 1, below, member_le number sizes members closed.0 (slot kind sizes s).member)
begun_le_most (Mirrored number sizes members) r s closed =
    omega (
      arith,
      choice_le (r == s) (1 + length sizes),
      sum-map (λ k. most_begun (members k)) (range_with_len 0 (length sizes)),
      sum_by-le-sum_by (λ k. elements_begun (members k) r s) (λ k. most_begun (members k)) (range_with_len 0 (length sizes))
          (λ k. begun_le_most (members k) r s (closed.1 k)),
    )

-- a run needs no more than what its device weighs at each of its sectors
pub needed_le_most : (t : Tree) (r len : ℕ) → NothingBehindMembers t → needed t r len ≤ most_begun t * len
unfolding needed
needed_le_most t r len closed = sum_le (elements_begun t r) r len (most_begun t) (λ s. begun_le_most t r s closed)

-- each fragment but the first has come of a piece or a copy more
pub fragments_le_needed : (t : Tree) (r len : ℕ) → Sound t → 0 < len → fragments_in_run t r len ≤ 1 + needed t r len
unfolding Sound
fragments_le_needed (Leaf number sectors) r len sound some = omega (arith, fragments_of_disk number sectors r len some)
fragments_le_needed (Split number kind sizes members) r len sound some =
    by_pieces (piece_end kind sizes) (λ r len. fragments_in_run (Split number kind sizes members) r len ≤ 1 + needed (Split number kind sizes members) r len)
    sound.0.ahead
    (λ r len n is begins whole. omega (
      arith,
      needed_piece number kind sizes members r len n sound.0 is whole,
      fragments_of_piece number kind sizes members r len n sound.0 is whole,
      fragments_le_needed (members (slot kind sizes r).member) (slot kind sizes r).at len (sound.1 (slot kind sizes r).member) (omega arith),
    ))
    (λ r len n is begins more rest. omega (
      arith,
      needed_more number kind sizes members r len n sound.0 is more,
      fragments_of_more number kind sizes members r len n sound.0 is more,
      fragments_le_needed (members (slot kind sizes r).member) (slot kind sizes r).at n (sound.1 (slot kind sizes r).member) begins,
      rest,
    ))
    r len some
fragments_le_needed (Mirrored number sizes members) r len sound some =
    omega (
      arith,
      needed_legs number sizes members r len some,
      fragments_of_legs number sizes members r len,
      sum_by-le-sum_by (λ k. fragments_in_run (members k) r len) (λ k. 1 + needed (members k) r len) (range_with_len 0 (length sizes))
          (λ k. fragments_le_needed (members k) r len (sound.1 k) some),
      sum_of_two (λ k. 1) (λ k. needed (members k) r len) (range_with_len 0 (length sizes)),
      sum_of_one (range_with_len 0 (length sizes)),
      length-range_with_len 0 (length sizes),
    )
