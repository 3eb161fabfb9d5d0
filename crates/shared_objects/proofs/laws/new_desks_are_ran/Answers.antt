use Rattle.shared_objects.proofs.logs.StepKeeps.{new_desks_are_ran}
use Rattle.shared_objects.proofs.laws.new_desks_are_ran.Goals as goal

-- src/laws.rt
pub returns : goal.returns
returns c = new_desks_are_ran
