-- A stack that a declaration may have: what holds of it besides that a mirror of two members has a rescuer.
use Rattle.std.specs.Prelude.{◌≡◌, ◌<◌, ◌≤◌, ℕ, true, List, length, map, slice_get, Some}
use Rattle.stack_base.specs.declared.ids.DevId.{DevId}
use Rattle.stack_base.specs.declared.stack.Kind.{Kind}
use Rattle.stack_base.specs.declared.stack.Kind.TheVariants.{Disk, Linear, Stripe, Zoned, Limit, Mirror}
use Rattle.stack_base.specs.declared.stack.Device.{Device}
use Rattle.stack_base.specs.declared.stack.Stack.{Stack}
use Rattle.stack_base.specs.Tree.{tree, size, most_begun}

-- the numbers of a kind, and how many members it has
abbrev pub HasShape : Kind → ℕ → Type 0
HasShape (Disk sectors bad) members = members ≡ 0
HasShape Linear members = (1 ≤ members) × (members ≤ 8)
HasShape (Stripe chunk) members = (1 ≤ chunk) × (1 ≤ members) × (members ≤ 8)
HasShape (Zoned chunk) members = (1 ≤ chunk) × (1 ≤ members) × (members ≤ 8)
HasShape (Limit longest chunk) members = (1 ≤ longest) × (members ≡ 1)
HasShape (Mirror records) members = (1 ≤ members) × (members ≤ 8)

-- device m is the member at place i of device d
abbrev pub IsMember : Stack → ℕ → ℕ → ℕ → Type 0
IsMember stack d i m = (device : Device) × (slice_get stack.devices.items d ≡ Some device) × (slice_get device.members.items i ≡ Some (record { 0 = m }))

pub record IsDevice (stack : Stack) (number : ℕ) (device : Device) : Type 0 where
  -- its members were declared before it
  pub below : (i : ℕ) (m : DevId) → slice_get device.members.items i ≡ Some m → m.0 < number
  pub shape : HasShape device.kind (length device.members.items)
  -- it has a sector, and no more than all disks together may have
  pub some : 1 ≤ size (tree stack number)
  pub small : size (tree stack number) ≤ 262144
  -- what begins at one sector is no more than a record and eight clones for each device
  pub narrow : most_begun (tree stack number) ≤ 288

-- the sizes of the members of a device, in their order
abbrev pub AreMemberSizes : Stack → ℕ → List ℕ → Type 0
AreMemberSizes stack d sizes = (device : Device) → slice_get stack.devices.items d ≡ Some device → sizes ≡ map (λ m. size (tree stack m.0)) device.members.items

-- it keeps the size of each device
abbrev pub KeepsSizes : Stack → Type 0
KeepsSizes stack = (number : ℕ) → number < length stack.devices.items → slice_get stack.sizes.items number ≡ Some (size (tree stack number))

-- at most 32 devices, each over earlier ones; none is a member twice, and the size of each is kept
pub record IsStack (stack : Stack) : Type 0 where
  pub few : length stack.devices.items ≤ 32
  pub each : (number : ℕ) (device : Device) → slice_get stack.devices.items number ≡ Some device → IsDevice stack number device
  -- a device is a member at most once
  pub once : (p q i j m : ℕ) → IsMember stack p i m → IsMember stack q j m → (p ≡ q) × (i ≡ j)
  pub sizes : KeepsSizes stack

-- The set of each mirror of two members or more has a rescuer. Without one a write may wait for a bio that none but itself gives back.
abbrev pub HasRescuers : Stack → Type 0
HasRescuers stack =
    (number records : ℕ) (device : Device) → slice_get stack.devices.items number ≡ Some device → device.kind ≡ Mirror records
    → 2 ≤ length device.members.items → device.rescuer ≡ true
