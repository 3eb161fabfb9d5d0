use Rattle.run_machine.proofs.OneState.{events_lead_to_one_state}
use Rattle.run_machine.proofs.laws.events_lead_to_one_state.Goals as goal

-- src/laws.rt
pub returns : goal.returns
returns c = events_lead_to_one_state
