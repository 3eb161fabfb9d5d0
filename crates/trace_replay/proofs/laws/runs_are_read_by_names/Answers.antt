use Rattle.trace_replay.proofs.renaming.Runs as runs
use Rattle.trace_replay.proofs.laws.runs_are_read_by_names.Goals as goal

pub returns : goal.returns
returns c = runs.runs_are_read_by_names
