-- The disks and the pools of a stack.
use Rattle.std.specs.Prelude.{◌+◌, ◌<◌, ◌==◌, ◌++◌, Bool, true, false, List, [], ◌∷◌, ℕ, length}
use Rattle.stack_base.specs.declared.ids.PoolId.{PoolId}
use Rattle.stack_base.specs.declared.ids.PoolId.TheVariants.{FsBios, FsVecs, Bios, Records}
use Rattle.stack_base.specs.declared.stack.Device.{Device}
use Rattle.stack_base.specs.declared.stack.Stack.{Stack}
pub use Rattle.run_machine.specs.Opened.{device_at}
pub use Rattle.task_core.specs.Leaving.{disk_at, pools_at, disks_of, falling_pools}
unfoldable pub use Rattle.task_core.specs.Leaving.{disks_from, falling_from}

-- the pools of these devices, from the first device to the last
unfoldable pub rising_from : ℕ → List Device → List PoolId
rising_from number [] = []
rising_from number (device ∷ more) = pools_at number device.kind ++ rising_from (number + 1) more

-- the pools of a stack as a report has them: the writers' first, and then those of each device in their order
abbrev pub told_pools : Stack → List PoolId
told_pools stack = FsBios ∷ FsVecs ∷ rising_from 0 stack.devices.items

abbrev pub same_pool : PoolId → PoolId → Bool
same_pool FsBios FsBios = true
same_pool FsVecs FsVecs = true
same_pool (Bios one) (Bios other) = one.0 == other.0
same_pool (Records one) (Records other) = one.0 == other.0
same_pool one other = false

-- a pool of the writers, or of a device of the stack
abbrev pub HasDeviceOfPool : Stack → PoolId → Type 0
HasDeviceOfPool stack FsBios = Unit {0}
HasDeviceOfPool stack FsVecs = Unit {0}
HasDeviceOfPool stack (Bios dev) = dev.0 < length stack.devices.items
HasDeviceOfPool stack (Records dev) = dev.0 < length stack.devices.items
