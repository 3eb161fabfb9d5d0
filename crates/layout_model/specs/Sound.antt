-- Trees whose devices cut as their kinds say.
use Rattle.std.specs.Prelude.{◌≡◌, ℕ, ◌≤◌, length}
use Rattle.stack_base.specs.Mapping.{slot, head}
use Rattle.stack_base.specs.Cutting.{piece_end, IsCut}
use Rattle.stack_base.specs.Tree.{Tree, Leaf, Split, Mirrored}

-- each device that cuts has pieces as its kind says, and each mirror has a member
unfoldable pub Sound : Tree → Type 0
Sound (Leaf number sectors) = Unit {0}
Sound (Split number kind sizes members) = IsCut (head kind sizes) (piece_end kind sizes) (slot kind sizes) × ((k : ℕ) → Sound (members k))
Sound (Mirrored number sizes members) = (1 ≤ length sizes) × ((k : ℕ) → Sound (members k))

-- behind the members there is nothing
unfoldable pub NothingBehindMembers : Tree → Type 0
NothingBehindMembers (Leaf number sectors) = Unit {0}
NothingBehindMembers (Split number kind sizes members) = ((k : ℕ) → length sizes ≤ k → members k ≡ Leaf number 0) × ((k : ℕ) → NothingBehindMembers (members k))
NothingBehindMembers (Mirrored number sizes members) = ((k : ℕ) → length sizes ≤ k → members k ≡ Leaf number 0) × ((k : ℕ) → NothingBehindMembers (members k))
