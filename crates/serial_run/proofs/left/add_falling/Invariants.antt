use Rattle.std.proofs.Common.{◌≡◌, ◌≤◌, ◌++◌, length, vec_capacity}
use Rattle.task_core.specs.Plains.{objects_of}
use Rattle.serial_run.specs.Pools.{facts_in, falling_pools_from}
use Rattle.serial_run.proofs.left.add_falling.Given as goal

abbrev pub invariant-adding : goal.invariant-adding
invariant-adding l =
    (l.pools.items ≡ l.fn.pools.items ++ facts_in (objects_of l.fn.objects) (falling_pools_from l.number l.fn.routes.stack))
    × (vec_capacity l.fn.pools ≤ vec_capacity l.pools) × (l.number ≤ length l.fn.routes.stack.devices.items)
