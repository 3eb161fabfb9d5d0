-- What a run needs and how many fragments it has, by its first piece and the rest, or by its legs.
use Rattle.std.proofs.Common.{◌≡◌, ◌+◌, ◌-◌, ◌<◌, min, ℕ, List, length, sum_by, zero-add, sym, ap, ◌∙◌}
use Rattle.std.specs.List.{range_with_len}
use Rattle.stack_base.specs.declared.stack.Kind.{Kind}
use Rattle.stack_base.specs.Mapping.{slot, head}
use Rattle.stack_base.specs.Cutting.{piece_end, IsCut}
use Rattle.stack_base.specs.Tree.{Tree, Leaf, Split, Mirrored}
use Rattle.layout_model.specs.Need.{elements_begun, needed, fragments_begun, fragments_in_run}
use Rattle.layout_model.proofs.RangeSums.{sum_same, sum_of_zero, sum_of_first, sum_swapped}
use Rattle.layout_model.proofs.Counted.{counted, run_total, total_piece, total_more, total_legs, counted_none}

-- a run at a disk needs nothing besides its own bio
pub needed_disk : (number sectors r len : ℕ) → needed (Leaf number sectors) r len ≡ 0
unfolding elements_begun needed
needed_disk number sectors r len = sum_of_zero (range_with_len r len)

-- a run that is one piece needs what the piece needs in its member
pub needed_piece : (number : ℕ) (kind : Kind) (sizes : List ℕ) (members : ℕ → Tree) (r len n : ℕ)
    → IsCut (head kind sizes) (piece_end kind sizes) (slot kind sizes) → n ≡ min (piece_end kind sizes r - r) len → n ≡ len
    → needed (Split number kind sizes members) r len ≡ needed (members (slot kind sizes r).member) (slot kind sizes r).at len
unfolding elements_begun needed
needed_piece number kind sizes members r len n cut is whole =
    total_piece (head kind sizes) (piece_end kind sizes) (slot kind sizes) cut 1 (λ m. elements_begun (members m)) r len n is whole

-- a run with more pieces needs what its first needs in its member, a bio for the first, and what the rest needs
pub needed_more : (number : ℕ) (kind : Kind) (sizes : List ℕ) (members : ℕ → Tree) (r len n : ℕ)
    → IsCut (head kind sizes) (piece_end kind sizes) (slot kind sizes) → n ≡ min (piece_end kind sizes r - r) len → n < len
    → needed (Split number kind sizes members) r len
    ≡ needed (members (slot kind sizes r).member) (slot kind sizes r).at n + (1 + needed (Split number kind sizes members) (r + n) (len - n))
unfolding elements_begun needed
needed_more number kind sizes members r len n cut is more =
    total_more (head kind sizes) (piece_end kind sizes) (slot kind sizes) cut 1 (λ m. elements_begun (members m)) r len n is more

-- a run at a mirror needs a record, a bio for each member, and what each member needs
pub needed_legs : (number : ℕ) (sizes : List ℕ) (members : ℕ → Tree) (r len : ℕ) → 0 < len
    → needed (Mirrored number sizes members) r len
    ≡ 1 + length sizes + sum_by (λ k. needed (members k) r len) (range_with_len 0 (length sizes))
unfolding elements_begun needed
needed_legs number sizes members r len some = total_legs (1 + length sizes) (λ k. elements_begun (members k)) (length sizes) r len some

-- a run at a disk is one fragment
pub fragments_of_disk : (number sectors r len : ℕ) → 0 < len → fragments_in_run (Leaf number sectors) r len ≡ 1
unfolding fragments_begun fragments_in_run
fragments_of_disk number sectors r len some = sum_of_first r len 1 some

-- where a device cuts, no fragment begins but in a member
fragments_of_split : (number : ℕ) (kind : Kind) (sizes : List ℕ) (members : ℕ → Tree) (r len : ℕ)
    → fragments_in_run (Split number kind sizes members) r len ≡ run_total (counted (head kind sizes) (slot kind sizes) 0 (λ m. fragments_begun (members m))) r len
unfolding fragments_begun fragments_in_run
fragments_of_split number kind sizes members r len =
    sum_same (λ s. fragments_begun (members (slot kind sizes s).member) (slot kind sizes (head kind sizes r s)).at (slot kind sizes s).at)
    (counted (head kind sizes) (slot kind sizes) 0 (λ m. fragments_begun (members m)) r) (range_with_len r len)
    (λ s. sym (counted_none (head kind sizes) (slot kind sizes) (λ m. fragments_begun (members m)) r s))

-- a run that is one piece has the fragments of the piece in its member
pub fragments_of_piece : (number : ℕ) (kind : Kind) (sizes : List ℕ) (members : ℕ → Tree) (r len n : ℕ)
    → IsCut (head kind sizes) (piece_end kind sizes) (slot kind sizes) → n ≡ min (piece_end kind sizes r - r) len → n ≡ len
    → fragments_in_run (Split number kind sizes members) r len ≡ fragments_in_run (members (slot kind sizes r).member) (slot kind sizes r).at len
unfolding fragments_in_run
fragments_of_piece number kind sizes members r len n cut is whole =
    fragments_of_split number kind sizes members r len
    ∙ total_piece (head kind sizes) (piece_end kind sizes) (slot kind sizes) cut 0 (λ m. fragments_begun (members m)) r len n is whole

-- a run with more pieces has the fragments of its first in its member, and those of the rest
pub fragments_of_more : (number : ℕ) (kind : Kind) (sizes : List ℕ) (members : ℕ → Tree) (r len n : ℕ)
    → IsCut (head kind sizes) (piece_end kind sizes) (slot kind sizes) → n ≡ min (piece_end kind sizes r - r) len → n < len
    → fragments_in_run (Split number kind sizes members) r len
    ≡ fragments_in_run (members (slot kind sizes r).member) (slot kind sizes r).at n + fragments_in_run (Split number kind sizes members) (r + n) (len - n)
unfolding fragments_in_run
fragments_of_more number kind sizes members r len n cut is more =
    fragments_of_split number kind sizes members r len
    ∙ total_more (head kind sizes) (piece_end kind sizes) (slot kind sizes) cut 0 (λ m. fragments_begun (members m)) r len n is more
    ∙ ap (λ rest. run_total (fragments_begun (members (slot kind sizes r).member)) (slot kind sizes r).at n + rest)
    (zero-add _ ∙ sym (fragments_of_split number kind sizes members (r + n) (len - n)))

-- a run at a mirror has the fragments of each member
pub fragments_of_legs : (number : ℕ) (sizes : List ℕ) (members : ℕ → Tree) (r len : ℕ)
    → fragments_in_run (Mirrored number sizes members) r len ≡ sum_by (λ k. fragments_in_run (members k) r len) (range_with_len 0 (length sizes))
unfolding fragments_begun fragments_in_run
fragments_of_legs number sizes members r len = sum_swapped (λ s k. fragments_begun (members k) r s) (range_with_len r len) (range_with_len 0 (length sizes))
