use Rattle.block_core.proofs.claim.Runnable.{accepted_texts_are_runnable, steps_fit_in_24_bits}
use Rattle.block_core.proofs.laws.accepted_texts_are_runnable.Goals as goal

-- src/laws.rt
pub returns-clause-runnable : goal.returns-clause-runnable
returns-clause-runnable c = accepted_texts_are_runnable

pub returns-clause-few : goal.returns-clause-few
returns-clause-few c = steps_fit_in_24_bits
