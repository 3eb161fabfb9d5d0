use Rattle.run_merge.proofs.merging.MergeIsRun.{merges_are_runs}
use Rattle.run_merge.proofs.laws.merges_are_runs.Goals as goal

-- src/laws.rt
pub returns : goal.returns
returns c = merges_are_runs
