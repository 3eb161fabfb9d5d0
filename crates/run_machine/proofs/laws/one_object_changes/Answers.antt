use Rattle.run_machine.proofs.Frames.{one_object_changes}
use Rattle.run_machine.proofs.laws.one_object_changes.Goals as goal

-- src/laws.rt
pub returns : goal.returns
returns c = one_object_changes
