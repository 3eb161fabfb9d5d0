use Rattle.std.proofs.Common.{◌≡◌}
use Rattle.task_core.specs.opened.OfOne.{scenario_in}
use Rattle.plain_core.specs.opening.Opening.{new_disks}
use Rattle.plain_core.proofs.opening.seen_objects.disks_seen.Given as goal

abbrev pub invariant-seeing : goal.invariant-seeing
invariant-seeing l = l.disks.items ≡ new_disks (scenario_in l.opened).stack l.number
