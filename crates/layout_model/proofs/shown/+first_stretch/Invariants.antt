use Rattle.layout_model.proofs.shown.+first_stretch.Given as goal

abbrev pub decreases-first_stretch : goal.decreases-first_stretch
decreases-first_stretch l = l.dev.0
