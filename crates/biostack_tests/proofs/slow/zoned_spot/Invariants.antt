use Rattle.std.proofs.Common.{◌≡◌, take}
use Rattle.biostack_tests.proofs.slow.zoned_spot.Given as goal

abbrev pub invariant-loop-size : goal.invariant-loop-size
invariant-loop-size l = l.all.items ≡ take l.size-index l.sizes
