use Rattle.block_core.proofs.stuck.NeverStuck.{no_state_is_stuck, no_allowed_state_is_stuck}
use Rattle.block_core.proofs.laws.no_state_is_stuck.Goals as goal

-- src/laws.rt
pub returns-clause-few : goal.returns-clause-few
returns-clause-few c = no_state_is_stuck

pub returns-clause-allowed : goal.returns-clause-allowed
returns-clause-allowed c = no_allowed_state_is_stuck
