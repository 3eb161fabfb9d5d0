use Rattle.block_core.proofs.images.Present.{work_is_present}
use Rattle.block_core.proofs.laws.work_is_of_the_present_round.Goals as goal

-- src/laws.rt
pub returns : goal.returns
returns c = work_is_present
