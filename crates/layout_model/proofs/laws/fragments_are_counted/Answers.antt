use Rattle.layout_model.proofs.PlanLaws as laws
use Rattle.layout_model.proofs.laws.fragments_are_counted.Goals as goal

pub returns : goal.returns
returns c = laws.fragments_are_counted
