use Rattle.run_merge.proofs.closing.ClosedRunsEnd.{closed_runs_end}
use Rattle.run_merge.proofs.laws.closed_runs_end.Goals as goal

-- src/laws.rt
pub returns : goal.returns
returns c = closed_runs_end
