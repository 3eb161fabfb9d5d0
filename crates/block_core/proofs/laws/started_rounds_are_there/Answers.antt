use Rattle.block_core.proofs.stuck.RunsEnd.{started_rounds_are_there}
use Rattle.block_core.proofs.laws.started_rounds_are_there.Goals as goal

-- src/laws.rt
pub returns : goal.returns
returns c = started_rounds_are_there
