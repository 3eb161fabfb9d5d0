use Rattle.block_core.proofs.images.DoneWrites.{done_is_completed}
use Rattle.block_core.proofs.laws.writes_are_completed_before_they_are_done.Goals as goal

-- src/laws.rt
pub returns : goal.returns
returns c = done_is_completed
