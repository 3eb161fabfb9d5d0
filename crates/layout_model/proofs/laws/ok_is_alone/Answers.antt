use Rattle.layout_model.proofs.MayLemmas as laws
use Rattle.layout_model.proofs.laws.ok_is_alone.Goals as goal

pub returns : goal.returns
returns c = laws.ok_is_alone
