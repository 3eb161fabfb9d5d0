-- What a write needs: the elements that it takes and the nodes that it opens.
use Rattle.std.specs.Prelude.{◌+◌, ◌==◌, ◌&&◌, not, if◌then◌else◌, nat_lt, ℕ, length, sum_by}
use Rattle.std.specs.List.{range_with_len}
use Rattle.stack_base.specs.Mapping.{slot, head}
use Rattle.stack_base.specs.Segments.{segment_count}
use Rattle.stack_base.specs.Tree.{Tree, Leaf, Split, Mirrored}

-- what begins at sector s of a run that starts at r, here and below: where a device cuts, a bio for each head but the run's first; where
-- one copies, a record and a bio for each member where the run begins
unfoldable pub elements_begun : Tree → ℕ → ℕ → ℕ
elements_begun (Leaf number sectors) r s = 0
elements_begun (Split number kind sizes members) r s =
    (if (head kind sizes r s == s) && not (r == s) then 1 else 0)
    + elements_begun (members (slot kind sizes s).member) (slot kind sizes (head kind sizes r s)).at (slot kind sizes s).at
elements_begun (Mirrored number sizes members) r s =
    (if r == s then 1 + length sizes else 0) + sum_by (λ k. elements_begun (members k) r s) (range_with_len 0 (length sizes))

-- the elements that the run of len sectors from r on needs besides its own bio
unfoldable pub needed : Tree → ℕ → ℕ → ℕ
needed t r len = sum_by (λ s. elements_begun t r s) (range_with_len r len)

-- the fragments that begin at a sector of a run
unfoldable pub fragments_begun : Tree → ℕ → ℕ → ℕ
fragments_begun (Leaf number sectors) r s = if r == s then 1 else 0
fragments_begun (Split number kind sizes members) r s =
    fragments_begun (members (slot kind sizes s).member) (slot kind sizes (head kind sizes r s)).at (slot kind sizes s).at
fragments_begun (Mirrored number sizes members) r s = sum_by (λ k. fragments_begun (members k) r s) (range_with_len 0 (length sizes))

-- how many fragments the run has
unfoldable pub fragments_in_run : Tree → ℕ → ℕ → ℕ
fragments_in_run t r len = sum_by (λ s. fragments_begun t r s) (range_with_len r len)

-- a vector for segments of which a bio keeps four itself
abbrev pub vectors : ℕ → ℕ
vectors count = if nat_lt 4 (segment_count count) then 1 else 0
