use Rattle.trace_replay.proofs.ReplayedToEnd as to_end
use Rattle.trace_replay.proofs.laws.reported_runs_replay.Goals as goal

pub returns : goal.returns
returns c = to_end.reported_runs_replay c.traces_replay.ensures c.reports_tell_no_event.ensures
