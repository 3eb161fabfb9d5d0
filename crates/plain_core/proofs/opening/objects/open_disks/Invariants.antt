use Rattle.std.proofs.Common.{◌≡◌}
use Rattle.plain_core.specs.opening.Opening.{new_disks}
use Rattle.plain_core.proofs.opening.objects.open_disks.Given as goal

abbrev pub invariant-opening : goal.invariant-opening
invariant-opening l = l.disks.items ≡ new_disks l.stack l.number
