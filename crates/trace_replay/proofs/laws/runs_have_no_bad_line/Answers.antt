use Rattle.trace_replay.proofs.Exact.{no_bad_line}
use Rattle.trace_replay.proofs.laws.runs_have_no_bad_line.Goals as goal

pub returns : goal.returns
returns c = no_bad_line c.events_are_apart.ensures
