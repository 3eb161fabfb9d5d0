use Rattle.shared_objects.proofs.logs.StepKeeps.{steps_keep_ran}
use Rattle.shared_objects.proofs.laws.steps_keep_ran.Goals as goal

-- src/laws.rt
pub returns : goal.returns
returns c = steps_keep_ran
