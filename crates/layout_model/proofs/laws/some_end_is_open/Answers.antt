use Rattle.layout_model.proofs.MayLemmas as laws
use Rattle.layout_model.proofs.laws.some_end_is_open.Goals as goal

pub returns : goal.returns
returns c = laws.some_end_is_open
