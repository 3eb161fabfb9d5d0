use Rattle.biostack_top.proofs.TracedRuns.{traced_runs_replay}
use Rattle.biostack_top.proofs.laws.traced_runs_replay.Goals as goal

pub returns : goal.returns
returns c = traced_runs_replay c.accepted_stacks_are_named.ensures c.traces_replay.ensures c.reports_tell_no_event.ensures
