use Rattle.layout_model.proofs.PlanLaws as laws
use Rattle.layout_model.proofs.laws.trees_are_sound.Goals as goal

pub returns : goal.returns
returns c = laws.trees_are_sound
