-- The pools of devices, with their facts.
use Rattle.std.specs.Prelude.{◌≡◌, ◌+◌, ◌≤◌, ℕ, List, [], ◌∷◌, ◌++◌, length, map, drop, vec_capacity}
use Rattle.std.specs.Global.{Vec}
use Rattle.stack_base.specs.declared.ids.DevId.{DevId}
use Rattle.stack_base.specs.declared.ids.PoolId.{PoolId}
use Rattle.stack_base.specs.declared.ids.PoolId.TheVariants.{Bios, Records}
use Rattle.stack_base.specs.declared.stack.Stack.{Stack}
use Rattle.stack_base.specs.PoolId.{pool_number}
use Rattle.stack_base.specs.Tree.{Tree, Leaf, Split, Mirrored}
use Rattle.mempool_core.specs.declared.Facts.{Facts}
use Rattle.task_core.specs.Leaving.{falling_from}
use Rattle.run_machine.specs.Objects.{Objects}

-- pools with their facts
abbrev pub facts_in : Objects → List PoolId → List (PoolId × Facts)
facts_in objects pools = map (λ (pool : PoolId). (pool, (objects.pool (pool_number pool)).facts)) pools

-- the pools of a device, records before bios: a disk has none
abbrev pub pools_by : DevId → Tree → List PoolId
pools_by dev (Leaf number sectors) = []
pools_by dev (Split number kind sizes members) = Bios dev ∷ []
pools_by dev (Mirrored number sizes members) = Records dev ∷ Bios dev ∷ []

-- the pools of the devices from this one on, by falling number
abbrev pub falling_pools_from : ℕ → Stack → List PoolId
falling_pools_from number stack = falling_from number (drop number stack.devices.items)

-- of all devices
abbrev pub stack_pools : Stack → List PoolId
stack_pools stack = falling_pools_from 0 stack

-- these pools, with their facts, were added to others
abbrev pub AddsFacts : Objects → List PoolId → Vec (PoolId × Facts) → Vec (PoolId × Facts) → Type 0
AddsFacts objects pools old new = new.items ≡ old.items ++ facts_in objects pools

-- there is room for them
abbrev pub HasRoomForFacts : List PoolId → Vec (PoolId × Facts) → Type 0
HasRoomForFacts pools kept = length kept.items + length pools ≤ vec_capacity kept
