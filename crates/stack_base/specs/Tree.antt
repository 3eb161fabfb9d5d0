-- A device with all that is below it, as a tree.
use Rattle.std.specs.Prelude.{◌+◌, ℕ, zero, suc, List, map, length, sum, slice_get, slice_index_or, Option, None, Some}
use Rattle.std.specs.List.{range_with_len}
use Rattle.stack_base.specs.declared.stack.Kind.{Kind}
use Rattle.stack_base.specs.declared.stack.Kind.TheVariants.{Disk, Linear, Stripe, Zoned, Limit, Mirror}
use Rattle.stack_base.specs.declared.stack.Device.{Device}
use Rattle.stack_base.specs.declared.stack.Stack.{Stack}
use Rattle.stack_base.specs.Mapping.{size_of, smallest}
use Rattle.stack_base.specs.declared.ids.DevId.{DevId}

-- a disk; a device that cuts a run into pieces, each for one member; and a device that gives a run to every member.
-- A device has its number, the sizes of its members and the members by their places.
pub data Tree : Type 0 where
  Leaf : (number sectors : ℕ) → Tree
  Split : (number : ℕ) (kind : Kind) (sizes : List ℕ) → (ℕ → Tree) → Tree
  Mirrored : (number : ℕ) (sizes : List ℕ) → (ℕ → Tree) → Tree

-- how many sectors it has, by its kind and the sizes of its members
abbrev pub size : Tree → ℕ
size (Leaf number sectors) = sectors
size (Split number kind sizes members) = size_of kind sizes
size (Mirrored number sizes members) = smallest sizes

-- how a device treats a run: it keeps it, cuts it, or copies it
pub data Shape : Type 0 where
  Keeps : (sectors : ℕ) → Shape
  Cuts : Shape
  Copies : Shape

abbrev pub shape_of : Kind → Shape
shape_of (Disk sectors bad) = Keeps sectors
shape_of Linear = Cuts
shape_of (Stripe chunk) = Cuts
shape_of (Zoned chunk) = Cuts
shape_of (Limit longest chunk) = Cuts
shape_of (Mirror records) = Copies

-- the member at a place; behind the last there is an empty disk of the device's own number
abbrev pub member_at : ℕ → List Tree → ℕ → Tree
member_at number members place = slice_index_or members place (Leaf number 0)

-- a device over its members
unfoldable pub over_shape : Shape → ℕ → Kind → List Tree → Tree
over_shape (Keeps sectors) number kind members = Leaf number sectors
over_shape Cuts number kind members = Split number kind (map size members) (member_at number members)
over_shape Copies number kind members = Mirrored number (map size members) (member_at number members)

abbrev pub over : ℕ → Kind → List Tree → Tree
over number kind members = over_shape (shape_of kind) number kind members

abbrev pub built : ℕ → Option Device → (ℕ → Tree) → Tree
built number None below = Leaf number 0
built number (Some device) below = over number device.kind (map (λ member. below member.0) device.members.items)

-- a device, with devices of numbers below the bound under it
unfoldable pub tree_below : ℕ → Stack → ℕ → Tree
tree_below zero stack number = Leaf number 0
tree_below (suc bound) stack number = built number (slice_get stack.devices.items number) (tree_below bound stack)

-- the tree of a device: its members have smaller numbers
abbrev pub tree : Stack → ℕ → Tree
tree stack number = tree_below (number + 1) stack number

-- the trees of the members of a device, in their order
abbrev pub member_trees : Stack → Device → List Tree
member_trees stack device = map (λ (m : DevId). tree stack m.0) device.members.items

-- how many legs a bio of a device has: one for each member of a mirror, and none at any other device
abbrev pub legs_of : Tree → ℕ
legs_of (Leaf number sectors) = 0
legs_of (Split number kind sizes members) = 0
legs_of (Mirrored number sizes members) = length sizes

-- the sizes of the members of a device
abbrev pub sizes_at : Stack → Device → List ℕ
sizes_at stack device = map (λ (m : DevId). size (tree stack m.0)) device.members.items

-- how many elements can begin at one sector of a run, at the most: one bio where a device cuts, a record and a clone a member where it copies
unfoldable pub most_begun : Tree → ℕ
most_begun (Leaf number sectors) = 0
most_begun (Split number kind sizes members) = 1 + sum (map (λ k. most_begun (members k)) (range_with_len 0 (length sizes)))
most_begun (Mirrored number sizes members) = 1 + length sizes + sum (map (λ k. most_begun (members k)) (range_with_len 0 (length sizes)))
