use Rattle.block_core.proofs.bound.ExactSteps.{steps_without_misses}
use Rattle.block_core.proofs.laws.steps_without_misses.Goals as goal

-- src/laws.rt
pub returns : goal.returns
returns c = steps_without_misses
