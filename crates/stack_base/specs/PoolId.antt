-- The numbers of the pools of a stack.
use Rattle.std.specs.Prelude.{◌≡◌, ◌<◌, ◌≤◌, ℕ, ◌+◌, ◌*◌}
use Rattle.stack_base.specs.declared.ids.PoolId.{PoolId}
use Rattle.stack_base.specs.declared.ids.PoolId.TheVariants.{FsBios, FsVecs, Bios, Records}

-- a device has two numbers, of its bios and its records, and the file system has the two behind those of 32 devices
abbrev pub pool_number : PoolId → ℕ
pool_number FsBios = 65
pool_number FsVecs = 64
pool_number (Bios device) = 2 * device.0
pool_number (Records device) = 2 * device.0 + 1

-- a pool of the writers, or of one of 32 devices
abbrev pub IsOfStack : PoolId → Type 0
IsOfStack FsBios = Unit {0}
IsOfStack FsVecs = Unit {0}
IsOfStack (Bios device) = device.0 < 32
IsOfStack (Records device) = device.0 < 32

-- no two pools of a stack have the same number, and none has one above 65
pub record NumbersAreApart : Type 0 where
  pub apart : (a b : PoolId) → IsOfStack a → IsOfStack b → pool_number a ≡ pool_number b → a ≡ b
  pub small : (a : PoolId) → IsOfStack a → pool_number a ≤ 65
