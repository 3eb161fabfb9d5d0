use Rattle.run_machine.proofs.OneObject.{one_object_decides}
use Rattle.run_machine.proofs.laws.one_object_decides.Goals as goal

-- src/laws.rt
pub returns : goal.returns
returns c = one_object_decides
