use Rattle.shared_objects.proofs.logs.OneMoreCall.{one_call}
use Rattle.shared_objects.proofs.laws.calls_are_logged.Goals as goal

-- src/laws.rt
pub returns : goal.returns
returns c = one_call
