-- What was followed is a replay.
use Rattle.trace_replay.specs.Lines.{told_in}
use Rattle.trace_replay.proofs.WalkLemmas.{pools_are, replays}
use Rattle.trace_replay.proofs.walk.replay.Goals as goal

pub returns-clause-replay : goal.returns-clause-replay
returns-clause-replay c =
    replays c.args.stack.now (told_in c.args.first c.args.lines.now) c.args.core c.follow.new.core c.in_ok-events.events c.in_ok-events.bad c.finish_of.result c.follow.new.extents
    c.in_ok-events.ensures c.finish_of.ensures

pub returns-clause-pools : goal.returns-clause-pools
returns-clause-pools c =
    pools_are c.args.stack.now (told_in c.args.first c.args.lines.now) c.args.core c.follow.new.core c.follow.new.extents.items c.in_ok-events.events c.in_ok-events.bad c.in_ok-events.ensures
