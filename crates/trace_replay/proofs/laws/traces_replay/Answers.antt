use Rattle.trace_replay.proofs.ReplayedToEnd as to_end
use Rattle.trace_replay.proofs.laws.traces_replay.Goals as goal

pub returns : goal.returns
returns c = to_end.traces_replay c.accepted_texts_tell_no_event.ensures c.events_are_apart.ensures c.lines_are_text.ensures
