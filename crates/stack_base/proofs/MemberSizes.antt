-- The sizes of the members of a device are small numbers.
use Rattle.std.proofs.Common.{◌≡◌, ℕ, ◌^◌, ◌*◌, ◌<◌, ◌≤◌, length, get_or, map, sum, Some, inl, inr, arith}
use Rattle.std.specs.Prelude.{All, slice_get}
use Rattle.std.proofs.lemmas.Option.{slice_get-get_or, slice_get_cases, slice_get_within}
use Rattle.std.proofs.lemmas.List.Sums.{sum_by-le, sum-map}
use Rattle.stack_base.specs.declared.ids.DevId.{DevId}
use Rattle.stack_base.specs.declared.stack.Kind.{Kind}
use Rattle.stack_base.specs.declared.stack.Kind.TheVariants.{Disk, Linear, Stripe, Zoned, Limit, Mirror}
use Rattle.stack_base.specs.declared.stack.Device.{Device}
use Rattle.stack_base.specs.declared.stack.Stack.{Stack}
use Rattle.stack_base.specs.Tree.{tree, size}
use Rattle.stack_base.specs.Stack.{HasShape, IsStack}

-- no device has more than eight members
pub shape_few : (kind : Kind) (members : ℕ) → HasShape kind members → members ≤ 8
shape_few (Disk sectors bad) members shape = omega arith
shape_few Linear members shape = shape.1
shape_few (Stripe chunk) members shape = shape.2
shape_few (Zoned chunk) members shape = shape.2
shape_few (Limit longest chunk) members shape = omega (arith, shape.1)
shape_few (Mirror records) members shape = shape.1

-- each device of a stack is small
pub device_small : (stack : Stack) → IsStack stack → (number : ℕ) → number < length stack.devices.items → size (tree stack number) ≤ 262144
device_small stack good number lt =
    elim (slice_get_cases stack.devices.items number).1 [
      | inl found ↦ (good.each number found.0 found.2).small
      | inr past ↦ absurd (omega (arith, past.0))
    ]

-- the members of a device are devices before it
pub member_below : (stack : Stack) → IsStack stack → (number : ℕ) (device : Device) → slice_get stack.devices.items number ≡ Some device → All (λ (m : DevId). m.0 < number) device.members.items
member_below stack good number device found i d lt =
    (good.each number device found).below i (get_or device.members.items i d) (slice_get-get_or device.members.items i d lt)

-- the sizes of its members together are a small number
pub members_small :
    (stack : Stack) → IsStack stack → (number : ℕ) (device : Device) → slice_get stack.devices.items number ≡ Some device
    → sum (map (λ (m : DevId). size (tree stack m.0)) device.members.items) ≤ 8 * 262144
members_small stack good number device found =
    let sizes = λ (m : DevId). size (tree stack m.0) in
    let within : number < length stack.devices.items = slice_get_within stack.devices.items number device found in
    let each : All (λ (m : DevId). size (tree stack m.0) ≤ 262144) device.members.items =
    λ i d lt. device_small stack good (get_or device.members.items i d).0 (omega (arith, member_below stack good number device found i d lt)) in
    omega (arith, sum-map sizes device.members.items, sum_by-le sizes 262144 device.members.items each, shape_few device.kind (length device.members.items) (good.each number device found).shape)

-- so they fit a word
pub members_fit :
    (stack : Stack) → IsStack stack → (number : ℕ) (device : Device) → slice_get stack.devices.items number ≡ Some device
    → sum (map (λ (m : DevId). size (tree stack m.0)) device.members.items) < 2 ^ 64
members_fit stack good number device found = omega (arith, members_small stack good number device found)
