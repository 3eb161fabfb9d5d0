use Rattle.run_machine.proofs.Apart.{runs_lead_to_one_state}
use Rattle.run_machine.proofs.laws.runs_lead_to_one_state.Goals as goal

-- src/laws.rt
pub returns : goal.returns
returns c = runs_lead_to_one_state
