-- The names of the devices of a stack, and of its pools.
use Rattle.std.specs.Prelude.{◌++◌, List, [], ℕ, codes, slice_get}
use Rattle.std.specs.Option.{option_map_or}
use Rattle.stack_base.specs.declared.ids.PoolId.{PoolId}
use Rattle.stack_base.specs.declared.ids.PoolId.TheVariants.{FsBios, FsVecs, Bios, Records}
use Rattle.stack_base.specs.declared.stack.Device.{Device}
use Rattle.stack_base.specs.declared.stack.Stack.{Stack}

-- the name of the device with a number, and nothing where there is none
abbrev pub name_of_device : Stack → ℕ → List ℕ
name_of_device stack number = option_map_or (λ (device : Device). device.name.bytes) (slice_get stack.devices.items number) []

-- `fs.bios`, `fs.vecs`, `NAME.bios`, `NAME.records`
abbrev pub pool_name : Stack → PoolId → List ℕ
pool_name stack FsBios = codes "fs.bios"
pool_name stack FsVecs = codes "fs.vecs"
pool_name stack (Bios dev) = name_of_device stack dev.0 ++ codes ".bios"
pool_name stack (Records dev) = name_of_device stack dev.0 ++ codes ".records"
