use Rattle.biostack_tests.proofs.slow.+fits.Given as goal

abbrev pub decreases-fits : goal.decreases-fits
decreases-fits l = l.dev.0
