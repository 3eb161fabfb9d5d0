use Rattle.layout_model.proofs.Covered as laws
use Rattle.layout_model.proofs.laws.fragments_cover.Goals as goal

pub returns : goal.returns
returns c = laws.fragments_cover
