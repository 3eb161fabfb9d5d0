-- How much a run leaves.
use Rattle.std.proofs.Common.{◌+◌, ◌*◌, ◌≤◌, ℕ, List, [], ◌∷◌, length, arith, length-append}
use Rattle.stack_base.specs.declared.stack.Device.{Device}
use Rattle.stack_base.specs.declared.stack.Kind.{Kind}
use Rattle.stack_base.specs.declared.stack.Kind.TheVariants.{Disk, Linear, Stripe, Zoned, Limit, Mirror}
use Rattle.stack_base.specs.declared.stack.Stack.{Stack}
use Rattle.task_core.specs.Leaving.{disk_at, pools_at, disks_from, falling_from, disks_of, falling_pools}

one_disk : (number : ℕ) (kind : Kind) → length (disk_at number kind) ≤ 1
one_disk number (Disk sectors bad) = omega arith
one_disk number Linear = omega arith
one_disk number (Stripe chunk) = omega arith
one_disk number (Zoned chunk) = omega arith
one_disk number (Limit longest chunk) = omega arith
one_disk number (Mirror records) = omega arith

two_pools : (number : ℕ) (kind : Kind) → length (pools_at number kind) ≤ 2
two_pools number (Disk sectors bad) = omega arith
two_pools number Linear = omega arith
two_pools number (Stripe chunk) = omega arith
two_pools number (Zoned chunk) = omega arith
two_pools number (Limit longest chunk) = omega arith
two_pools number (Mirror records) = omega arith

disks_few : (number : ℕ) (devices : List Device) → length (disks_from number devices) ≤ length devices
unfolding disks_from
disks_few number [] = omega arith
disks_few number (device ∷ devices) =
    let rest = disks_few (number + 1) devices in
    let one = one_disk number device.kind in omega (arith, rest, one, length-append (disk_at number device.kind) (disks_from (number + 1) devices))

falling_few : (number : ℕ) (devices : List Device) → length (falling_from number devices) ≤ 2 * length devices
unfolding falling_from
falling_few number [] = omega arith
falling_few number (device ∷ devices) =
    let rest = falling_few (number + 1) devices in
    let two = two_pools number device.kind in omega (arith, rest, two, length-append (falling_from (number + 1) devices) (pools_at number device.kind))

-- no more disks than devices
pub disks_fit : (stack : Stack) → length (disks_of stack) ≤ length stack.devices.items
disks_fit stack = disks_few 0 stack.devices.items

-- and two pools of each, and of the writers
pub pools_fit : (stack : Stack) → length (falling_pools stack) ≤ 2 * length stack.devices.items + 2
pools_fit stack = let few = falling_few 0 stack.devices.items in omega (arith, few)
