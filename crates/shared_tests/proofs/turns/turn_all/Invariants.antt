use Rattle.shared_tests.specs.StillOut.{AreStillOut}
use Rattle.shared_tests.proofs.turns.turn_all.Given as goal

abbrev pub invariant-loop : goal.invariant-loop
invariant-loop g l = AreStillOut l.fn.shared.told.value l.shared l.out.items
