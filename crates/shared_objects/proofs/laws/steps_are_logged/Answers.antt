use Rattle.shared_objects.proofs.logs.StepCalls.{steps_are_logged}
use Rattle.shared_objects.proofs.laws.steps_are_logged.Goals as goal

-- src/laws.rt
pub returns : goal.returns
returns c = steps_are_logged
