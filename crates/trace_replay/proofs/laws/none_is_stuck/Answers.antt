use Rattle.trace_replay.proofs.NoneStuck.{none_is_stuck}
use Rattle.trace_replay.proofs.laws.none_is_stuck.Goals as goal

pub returns : goal.returns
returns c = none_is_stuck
