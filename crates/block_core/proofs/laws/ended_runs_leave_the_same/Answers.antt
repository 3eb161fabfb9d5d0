use Rattle.block_core.proofs.images.LaidOnce.{ended_runs_leave_the_same, laid_is_one}
use Rattle.block_core.proofs.laws.ended_runs_leave_the_same.Goals as goal

-- src/laws.rt
pub returns-clause-laid : goal.returns-clause-laid
returns-clause-laid c = laid_is_one

pub returns-clause-same : goal.returns-clause-same
returns-clause-same c = ended_runs_leave_the_same
