use Rattle.std.proofs.Common.{◌≡◌, [], replicate}
use Rattle.plain_core.proofs.opening.objects.open_rescues.Given as goal

abbrev pub invariant-opening : goal.invariant-opening
invariant-opening l = l.rescues.items ≡ replicate l.counter []
