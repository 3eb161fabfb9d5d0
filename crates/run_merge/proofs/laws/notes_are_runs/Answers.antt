use Rattle.run_merge.proofs.tracing.NotesOfRun.{notes_are_runs}
use Rattle.run_merge.proofs.laws.notes_are_runs.Goals as goal

-- src/laws.rt
pub returns : goal.returns
returns c = notes_are_runs
