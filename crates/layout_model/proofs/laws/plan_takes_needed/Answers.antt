use Rattle.layout_model.proofs.PlanLaws as laws
use Rattle.layout_model.proofs.laws.plan_takes_needed.Goals as goal

pub returns : goal.returns
returns c = laws.plan_takes_needed
