use Rattle.layout_model.proofs.way.+place.Given as goal

abbrev pub decreases-place : goal.decreases-place
decreases-place l = l.dev.0
