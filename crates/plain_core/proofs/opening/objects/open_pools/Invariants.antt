use Rattle.std.proofs.Common.{◌≡◌}
use Rattle.plain_core.specs.opening.Opening.{new_pools}
use Rattle.plain_core.proofs.opening.objects.open_pools.Given as goal

abbrev pub invariant-opening : goal.invariant-opening
invariant-opening l = l.pools.items ≡ new_pools l.stack l.scripts l.number
