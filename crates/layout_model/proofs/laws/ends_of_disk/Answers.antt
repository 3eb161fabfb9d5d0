use Rattle.layout_model.proofs.MayLemmas as laws
use Rattle.layout_model.proofs.laws.ends_of_disk.Goals as goal

pub returns : goal.returns
returns c = laws.ends_of_disk
