use Rattle.std.proofs.Common.{◌≡◌}
use Rattle.task_core.specs.opened.OfOne.{scenario_in}
use Rattle.plain_core.specs.opening.Opening.{new_pools}
use Rattle.plain_core.proofs.opening.seen_objects.pools_seen.Given as goal

abbrev pub invariant-seeing : goal.invariant-seeing
invariant-seeing l = l.pools.items ≡ new_pools (scenario_in l.opened).stack (scenario_in l.opened).scripts l.number
