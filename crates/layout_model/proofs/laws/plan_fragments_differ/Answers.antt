use Rattle.layout_model.proofs.PlanLaws as laws
use Rattle.layout_model.proofs.laws.plan_fragments_differ.Goals as goal

pub returns : goal.returns
returns c = laws.plan_fragments_differ
