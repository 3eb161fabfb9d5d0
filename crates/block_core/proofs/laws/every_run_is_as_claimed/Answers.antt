use Rattle.block_core.proofs.claim.Claim.{accepted_texts_run_as_claimed, every_run_is_as_claimed}
use Rattle.block_core.proofs.laws.every_run_is_as_claimed.Goals as goal

-- src/laws.rt
pub returns-clause-all : goal.returns-clause-all
returns-clause-all c = every_run_is_as_claimed

pub returns-clause-accepted : goal.returns-clause-accepted
returns-clause-accepted c = accepted_texts_run_as_claimed
