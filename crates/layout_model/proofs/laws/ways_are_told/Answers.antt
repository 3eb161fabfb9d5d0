use Rattle.layout_model.proofs.Ways
use Rattle.layout_model.proofs.laws.ways_are_told.Goals as goal

pub returns : goal.returns
returns c = Ways.ways_are_told
