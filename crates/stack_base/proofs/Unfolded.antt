-- The tree of a device is the device over the trees of its members.
use Rattle.std.proofs.Common.{◌≡◌, ℕ, zero, suc, ◌+◌, ◌<◌, List, map, Option, None, Some, refl, ap, ◌∙◌, add-one, arith}
use Rattle.std.specs.Prelude.{slice_get}
use Rattle.std.proofs.lemmas.Simd.{map-map}
use Rattle.stack_base.specs.declared.ids.DevId.{DevId}
use Rattle.stack_base.specs.declared.stack.Kind.{Kind}
use Rattle.stack_base.specs.declared.stack.Kind.TheVariants.{Disk, Linear, Stripe, Zoned, Limit, Mirror}
use Rattle.stack_base.specs.declared.stack.Device.{Device}
use Rattle.stack_base.specs.declared.stack.Stack.{Stack}
use Rattle.stack_base.specs.Mapping.{size_of}
use Rattle.stack_base.specs.Tree.{Tree, size, over_shape, over, built, tree_below, tree}
use Rattle.stack_base.specs.Stack.{IsStack}
use Rattle.stack_base.proofs.ListLemmas.{map_same}

-- a device is the same over functions that agree at its members
built_same :
    (number : ℕ) (found : Option Device) (f g : ℕ → Tree)
    → ((device : Device) (i : ℕ) (m : DevId) → found ≡ Some device → slice_get device.members.items i ≡ Some m → f m.0 ≡ g m.0)
    → built number found f ≡ built number found g
built_same number None f g same = refl
built_same number (Some device) f g same =
    ap (over number device.kind) (map_same (λ (m : DevId). f m.0) (λ (m : DevId). g m.0) device.members.items (λ i m is. same device i m refl is))

-- each member of a device was declared before it: all that the equations of trees want of a stack
pub record GoesDown (stack : Stack) : Type 0 where
  pub below : (number : ℕ) (device : Device) (i : ℕ) (m : DevId) → slice_get stack.devices.items number ≡ Some device → slice_get device.members.items i ≡ Some m → m.0 < number

-- so it is in a stack that a declaration may have
pub goes_down : (stack : Stack) → IsStack stack → GoesDown stack
goes_down stack good = record { below = λ number device i m found is. (good.each number device found).below i m is }

-- each bound above a device's number gives the same tree
pub tree_below_same : (stack : Stack) → GoesDown stack → (b c number : ℕ) → number < b → number < c → tree_below b stack number ≡ tree_below c stack number
unfolding tree_below
tree_below_same stack down zero c number lt lt2 = absurd (omega arith)
tree_below_same stack down (suc b) zero number lt lt2 = absurd (omega arith)
tree_below_same stack down (suc b) (suc c) number lt lt2 =
    built_same number (slice_get stack.devices.items number) (tree_below b stack) (tree_below c stack) (λ device i m found is.
    let below : m.0 < number = down.below number device i m found is in
    tree_below_same stack down b c m.0 (omega arith) (omega arith))

-- the tree of a device is the device over the trees of its members, where members go down
pub tree_going_down :
    (stack : Stack) → GoesDown stack → (number : ℕ) (device : Device) → slice_get stack.devices.items number ≡ Some device
    → tree stack number ≡ over number device.kind (map (λ (m : DevId). tree stack m.0) device.members.items)
unfolding tree_below
tree_going_down stack down number device found =
    let next : tree stack number ≡ built number (slice_get stack.devices.items number) (tree_below number stack) = ap (λ bound. tree_below bound stack number) (add-one number) in
    let members : map (λ (m : DevId). tree_below number stack m.0) device.members.items ≡ map (λ (m : DevId). tree stack m.0) device.members.items =
    map_same (λ (m : DevId). tree_below number stack m.0) (λ (m : DevId). tree stack m.0) device.members.items (λ i m is.
    tree_below_same stack down number (m.0 + 1) m.0 (down.below number device i m found is) (omega arith)) in
    next ∙ ap (λ (o : Option Device). built number o (tree_below number stack)) found ∙ ap (over number device.kind) members

-- how large a device over its members is
pub size-over : (number : ℕ) (kind : Kind) (members : List Tree) → size (over number kind members) ≡ size_of kind (map size members)
unfolding over_shape size_of
size-over number (Disk sectors bad) members = refl
size-over number Linear members = refl
size-over number (Stripe chunk) members = refl
size-over number (Zoned chunk) members = refl
size-over number (Limit longest chunk) members = refl
size-over number (Mirror records) members = refl

-- so its size goes by those of its members
pub size_going_down :
    (stack : Stack) → GoesDown stack → (number : ℕ) (device : Device) → slice_get stack.devices.items number ≡ Some device
    → size (tree stack number) ≡ size_of device.kind (map (λ (m : DevId). size (tree stack m.0)) device.members.items)
size_going_down stack down number device found =
    ap size (tree_going_down stack down number device found) ∙ size-over number device.kind (map (λ (m : DevId). tree stack m.0) device.members.items)
    ∙ ap (size_of device.kind) (map-map size (λ (m : DevId). tree stack m.0) device.members.items)

-- the tree of a device of a stack is the device over the trees of its members
pub tree_is :
    (stack : Stack) → IsStack stack → (number : ℕ) (device : Device) → slice_get stack.devices.items number ≡ Some device
    → tree stack number ≡ over number device.kind (map (λ (m : DevId). tree stack m.0) device.members.items)
tree_is stack good = tree_going_down stack (goes_down stack good)

-- and its size goes by those of its members; a disk's is its own
pub size-tree :
    (stack : Stack) → IsStack stack → (number : ℕ) (device : Device) → slice_get stack.devices.items number ≡ Some device
    → size (tree stack number) ≡ size_of device.kind (map (λ (m : DevId). size (tree stack m.0)) device.members.items)
size-tree stack good = size_going_down stack (goes_down stack good)
