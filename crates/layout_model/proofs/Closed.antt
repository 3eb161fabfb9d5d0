-- The tree of a device of a stack has nothing behind its members.
use Rattle.std.proofs.Common.{◌+◌, ℕ, zero, suc, List, [], ◌∷◌, map, slice_get, Option, Some, None, arith}
use Rattle.std.proofs.lemmas.List.{length-map, get_or_past}
use Rattle.stack_base.specs.declared.ids.DevId.{DevId}
use Rattle.stack_base.specs.declared.stack.Kind.{Kind}
use Rattle.stack_base.specs.declared.stack.Device.{Device}
use Rattle.stack_base.specs.declared.stack.Stack.{Stack}
use Rattle.stack_base.specs.Tree.{Tree, Leaf, Shape, Keeps, Cuts, Copies, shape_of, size, member_at, over_shape, built, tree_below, tree}
use Rattle.layout_model.specs.Sound.{NothingBehindMembers}

-- the members of a device, and what stands behind them
closed_member : (number : ℕ) (below : ℕ → Tree) (members : List DevId) → ((m : ℕ) → NothingBehindMembers (below m)) → (k : ℕ)
    → NothingBehindMembers (member_at number (map (λ member. below member.0) members) k)
closed_member number below [] closed k = unfold NothingBehindMembers in tt
closed_member number below (m ∷ members) closed zero = closed m.0
closed_member number below (m ∷ members) closed (suc k) = closed_member number below members closed k

-- a device over such members
closed_over : (shape : Shape) (number : ℕ) (kind : Kind) (members : List Tree) → ((k : ℕ) → NothingBehindMembers (member_at number members k))
    → NothingBehindMembers (over_shape shape number kind members)
unfolding NothingBehindMembers over_shape
closed_over (Keeps sectors) number kind members closed = tt
closed_over Cuts number kind members closed = ((λ k past. get_or_past members k (Leaf number 0) (omega (arith, length-map members size))), closed)
closed_over Copies number kind members closed = ((λ k past. get_or_past members k (Leaf number 0) (omega (arith, length-map members size))), closed)

-- a device over devices
closed_built : (number : ℕ) (device : Option Device) (below : ℕ → Tree) → ((m : ℕ) → NothingBehindMembers (below m)) → NothingBehindMembers (built number device below)
closed_built number None below closed = unfold NothingBehindMembers in tt
closed_built number (Some device) below closed =
    closed_over (shape_of device.kind) number device.kind (map (λ member. below member.0) device.members.items)
    (closed_member number below device.members.items closed)

-- a device with devices of numbers below the bound under it
closed_below : (bound : ℕ) (stack : Stack) (number : ℕ) → NothingBehindMembers (tree_below bound stack number)
unfolding tree_below
closed_below zero stack number = unfold NothingBehindMembers in tt
closed_below (suc bound) stack number = closed_built number (slice_get stack.devices.items number) (tree_below bound stack) (closed_below bound stack)

-- the tree of each device of a stack is closed
pub closed_tree : (stack : Stack) (number : ℕ) → NothingBehindMembers (tree stack number)
closed_tree stack number = closed_below (number + 1) stack number
