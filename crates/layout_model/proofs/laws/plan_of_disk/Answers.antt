use Rattle.layout_model.proofs.PlanLaws as laws
use Rattle.layout_model.proofs.laws.plan_of_disk.Goals as goal

pub returns : goal.returns
returns c = laws.plan_of_disk
