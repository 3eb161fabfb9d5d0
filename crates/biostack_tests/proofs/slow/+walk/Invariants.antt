use Rattle.biostack_tests.proofs.slow.+walk.Given as goal

abbrev pub decreases-walk : goal.decreases-walk
decreases-walk l = l.dev.0
