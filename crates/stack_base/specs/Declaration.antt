-- What the checks of a declaration say of a stack directly, device by device, besides that each device has a sector.
use Rattle.std.specs.Prelude.{◌≡◌, ◌<◌, ◌≤◌, ℕ, length, map, sum, slice_get, Some}
use Rattle.stack_base.specs.declared.ids.DevId.{DevId}
use Rattle.stack_base.specs.declared.stack.Kind.{Kind}
use Rattle.stack_base.specs.declared.stack.Kind.TheVariants.{Disk, Linear, Stripe, Zoned, Limit, Mirror}
use Rattle.stack_base.specs.declared.stack.Device.{Device}
use Rattle.stack_base.specs.declared.stack.Stack.{Stack}
use Rattle.stack_base.specs.Stack.{HasShape, IsMember, IsStack, KeepsSizes}
use Rattle.stack_base.specs.Tree.{tree, size}

-- the sectors that a device brings itself: a disk its own, and any other device none
abbrev pub own_sectors : Kind → ℕ
own_sectors (Disk sectors bad) = sectors
own_sectors Linear = 0
own_sectors (Stripe chunk) = 0
own_sectors (Zoned chunk) = 0
own_sectors (Limit longest chunk) = 0
own_sectors (Mirror records) = 0

pub record IsDeclared (stack : Stack) : Type 0 where
  pub few : length stack.devices.items ≤ 32
  -- the members of a device were declared before it
  pub below : (number : ℕ) (device : Device) (i : ℕ) (m : DevId) → slice_get stack.devices.items number ≡ Some device → slice_get device.members.items i ≡ Some m → m.0 < number
  -- a device has the numbers and as many members as its kind wants
  pub shape : (number : ℕ) (device : Device) → slice_get stack.devices.items number ≡ Some device → HasShape device.kind (length device.members.items)
  -- a device is a member at most once
  pub once : (p q i j m : ℕ) → IsMember stack p i m → IsMember stack q j m → (p ≡ q) × (i ≡ j)
  -- all disks together have no more than so many sectors
  pub disks : sum (map (λ (device : Device). own_sectors device.kind) stack.devices.items) ≤ 262144

-- so it is a stack, if each device has a sector and the sizes that are kept are theirs
abbrev pub DeclaredIsStack : Type 0
DeclaredIsStack =
    (stack : Stack) → IsDeclared stack → ((number : ℕ) → number < length stack.devices.items → 1 ≤ size (tree stack number)) → KeepsSizes stack
    → IsStack stack
