use Rattle.run_merge.proofs.enough_shown.ClosesAreRuns.{closes_are_runs}
use Rattle.run_merge.proofs.laws.closes_are_runs.Goals as goal

-- src/laws.rt
pub returns : goal.returns
returns c = closes_are_runs
