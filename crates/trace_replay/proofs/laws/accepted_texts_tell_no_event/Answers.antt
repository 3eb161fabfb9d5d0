use Rattle.trace_replay.proofs.ScenarioLines.{none_told_of}
use Rattle.trace_replay.proofs.laws.accepted_texts_tell_no_event.Goals as goal

pub returns : goal.returns
returns c = none_told_of
