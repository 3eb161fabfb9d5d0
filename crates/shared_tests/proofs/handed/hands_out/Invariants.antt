use Rattle.shared_objects.specs.Shared.{SharedHolds}
use Rattle.shared_tests.proofs.handed.hands_out.Given as goal

abbrev pub invariant-naming : goal.invariant-naming
invariant-naming l = SharedHolds l.shared
