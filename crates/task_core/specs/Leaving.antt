-- What a run leaves: how each write ended, the disks in the order of the stack's devices, the facts of its pools by falling number, and how many
-- events there were.
use Rattle.std.specs.Prelude.{◌≡◌, ◌+◌, ◌≤◌, ◌++◌, List, [], ◌∷◌, ℕ, length, map, vec_capacity}
use Rattle.stack_base.specs.declared.ids.DevId.{DevId}
use Rattle.stack_base.specs.declared.ids.PoolId.{PoolId}
use Rattle.stack_base.specs.declared.ids.PoolId.TheVariants.{FsBios, FsVecs, Bios, Records}
use Rattle.stack_base.specs.declared.stack.Kind.{Kind}
use Rattle.stack_base.specs.declared.stack.Kind.TheVariants.{Disk, Linear, Stripe, Zoned, Limit, Mirror}
use Rattle.stack_base.specs.declared.stack.Device.{Device}
use Rattle.stack_base.specs.declared.stack.Stack.{Stack}
use Rattle.stack_base.specs.PoolId.{pool_number}
use Rattle.task_core.specs.declared.ended.Ended.{Ended}
use Rattle.run_machine.specs.Objects.{Objects}
use Rattle.run_machine.specs.Opened.{device_at}

-- the disk that a device is, if it is one
abbrev pub disk_at : ℕ → Kind → List DevId
disk_at number (Disk sectors bad) = device_at number ∷ []
disk_at number Linear = []
disk_at number (Stripe chunk) = []
disk_at number (Zoned chunk) = []
disk_at number (Limit longest chunk) = []
disk_at number (Mirror records) = []

-- the pools of a device, records before bios
abbrev pub pools_at : ℕ → Kind → List PoolId
pools_at number (Disk sectors bad) = []
pools_at number Linear = Bios (device_at number) ∷ []
pools_at number (Stripe chunk) = Bios (device_at number) ∷ []
pools_at number (Zoned chunk) = Bios (device_at number) ∷ []
pools_at number (Limit longest chunk) = Bios (device_at number) ∷ []
pools_at number (Mirror records) = Records (device_at number) ∷ Bios (device_at number) ∷ []

-- the disks among these devices, the first of which has this number
unfoldable pub disks_from : ℕ → List Device → List DevId
disks_from number [] = []
disks_from number (device ∷ more) = disk_at number device.kind ++ disks_from (number + 1) more

-- the pools of these devices by falling number, from the last device to the first
unfoldable pub falling_from : ℕ → List Device → List PoolId
falling_from number [] = []
falling_from number (device ∷ more) = falling_from (number + 1) more ++ pools_at number device.kind

-- the disks of a stack in the order of its devices
abbrev pub disks_of : Stack → List DevId
disks_of stack = disks_from 0 stack.devices.items

-- all pools of a stack by falling number
abbrev pub falling_pools : Stack → List PoolId
falling_pools stack = FsBios ∷ FsVecs ∷ falling_from 0 stack.devices.items

-- objects with which a run ended, after so many events, leave this
pub record IsLeft (stack : Stack) (objects : Objects) (count : ℕ) (ended : Ended) : Type 0 where
  pub statuses : ended.statuses.items ≡ objects.tally.statuses
  pub disks : ended.disks.items ≡ map (λ (dev : DevId). objects.disk dev.0) (disks_of stack)
  pub pools : ended.pools.items ≡ map (λ (pool : PoolId). (pool, (objects.pool (pool_number pool)).facts)) (falling_pools stack)
  pub steps : ended.steps ≡ count

-- nothing is left yet, and there is room for what a run of so many writes leaves
pub record IsReservedForRun (stack : Stack) (writes : ℕ) (room : Ended) : Type 0 where
  pub statuses : (room.statuses.items ≡ []) × (writes ≤ vec_capacity room.statuses)
  pub disks : (room.disks.items ≡ []) × (length (disks_of stack) ≤ vec_capacity room.disks)
  pub pools : (room.pools.items ≡ []) × (length (falling_pools stack) ≤ vec_capacity room.pools)
  pub steps : room.steps ≡ 0
