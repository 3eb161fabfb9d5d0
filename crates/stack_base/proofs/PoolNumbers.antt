-- Pools of a stack have different numbers.
use Rattle.std.proofs.Common.{◌≡◌, ◌≤◌, arith}
use Rattle.stack_base.specs.declared.ids.PoolId.{PoolId}
use Rattle.stack_base.specs.PoolId.{pool_number, IsOfStack, NumbersAreApart}

-- no other pool of a stack has the same number
pub same_pool : (a b : PoolId) → IsOfStack a → IsOfStack b → pool_number a ≡ pool_number b → a ≡ b
same_pool a b of_a of_b same = grind arith

-- the number of a pool of a stack is at most 65
pub pool_number_le : (a : PoolId) → IsOfStack a → pool_number a ≤ 65
pool_number_le a of_a = grind arith

pub numbers_are_apart : NumbersAreApart
numbers_are_apart = record { apart = same_pool; small = pool_number_le }
