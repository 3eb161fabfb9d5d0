use Rattle.shared_objects.proofs.logs.CallsLead.{logs_lead}
use Rattle.shared_objects.proofs.laws.logs_lead.Goals as goal

-- src/laws.rt
pub returns : goal.returns
returns c = logs_lead
