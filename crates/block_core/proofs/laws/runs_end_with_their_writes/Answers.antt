use Rattle.block_core.proofs.stuck.RunsEnd.{runs_end_with_their_writes}
use Rattle.block_core.proofs.laws.runs_end_with_their_writes.Goals as goal

-- src/laws.rt
pub returns : goal.returns
returns c = runs_end_with_their_writes
