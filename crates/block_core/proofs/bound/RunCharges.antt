-- What a run is charged, by its first piece and the rest, or by its legs.
use Rattle.std.proofs.Common.{◌≡◌, ◌+◌, ◌-◌, ◌<◌, min, ℕ, List, length}
use Rattle.std.specs.Prelude.{sum_by}
use Rattle.std.specs.List.{range_with_len}
use Rattle.stack_base.specs.declared.stack.Kind.{Kind}
use Rattle.stack_base.specs.Mapping.{slot, head}
use Rattle.stack_base.specs.Cutting.{piece_end, IsCut}
use Rattle.stack_base.specs.Tree.{Tree, Leaf, Split, Mirrored}
use Rattle.layout_model.proofs.RangeSums.{sum_of_first}
use Rattle.layout_model.proofs.Counted.{total_piece, total_more, total_legs}
use Rattle.block_core.specs.Charges.{begun_charge, run_charge}
use Rattle.block_core.specs.Payers.{Record, PieceBio, Fragment, Paid, cost}

module _ (price : Paid → ℕ) where
  -- a run at a disk is a fragment
  pub charge_disk : (number sectors r len : ℕ) → 0 < len → run_charge price (Leaf number sectors) r len ≡ cost price Fragment
  unfolding begun_charge run_charge
  charge_disk number sectors r len some = sum_of_first r len (cost price Fragment) some

  -- a run that is one piece is charged what the piece is in its member
  pub charge_piece : (number : ℕ) (kind : Kind) (sizes : List ℕ) (members : ℕ → Tree) (r len n : ℕ)
      → IsCut (head kind sizes) (piece_end kind sizes) (slot kind sizes) → n ≡ min (piece_end kind sizes r - r) len → n ≡ len
      → run_charge price (Split number kind sizes members) r len ≡ run_charge price (members (slot kind sizes r).member) (slot kind sizes r).at len
  unfolding begun_charge run_charge
  charge_piece number kind sizes members r len n cut is whole =
      total_piece (head kind sizes) (piece_end kind sizes) (slot kind sizes) cut (cost price PieceBio) (λ m. begun_charge price (members m)) r len n is whole

  -- a run with more pieces is charged what its first is in its member, a bio for the first, and what the rest is
  pub charge_more : (number : ℕ) (kind : Kind) (sizes : List ℕ) (members : ℕ → Tree) (r len n : ℕ)
      → IsCut (head kind sizes) (piece_end kind sizes) (slot kind sizes) → n ≡ min (piece_end kind sizes r - r) len → n < len
      → run_charge price (Split number kind sizes members) r len
      ≡ run_charge price (members (slot kind sizes r).member) (slot kind sizes r).at n
      + (cost price PieceBio + run_charge price (Split number kind sizes members) (r + n) (len - n))
  unfolding begun_charge run_charge
  charge_more number kind sizes members r len n cut is more =
      total_more (head kind sizes) (piece_end kind sizes) (slot kind sizes) cut (cost price PieceBio) (λ m. begun_charge price (members m)) r len n is more

  -- a run at a mirror is charged a record, a bio for each member, and what it is in each member
  pub charge_legs : (number : ℕ) (sizes : List ℕ) (members : ℕ → Tree) (r len : ℕ) → 0 < len
      → run_charge price (Mirrored number sizes members) r len
      ≡ cost price Record + sum_by (λ leg. cost price PieceBio) (range_with_len 0 (length sizes))
      + sum_by (λ k. run_charge price (members k) r len) (range_with_len 0 (length sizes))
  unfolding begun_charge run_charge
  charge_legs number sizes members r len some =
      total_legs (cost price Record + sum_by (λ leg. cost price PieceBio) (range_with_len 0 (length sizes))) (λ k. begun_charge price (members k)) (length sizes) r len some
