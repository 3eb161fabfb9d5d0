use Rattle.std.proofs.Common.{take}
use Rattle.std.specs.List.{flat_map}
use Rattle.outside_io.specs.Saying.{Says}
use Rattle.trace_replay.specs.Answer.{extent_line}
use Rattle.trace_replay.proofs.answer.put_extents.Given as goal

abbrev pub invariant-pools : goal.invariant-pools
invariant-pools g l =
    Says g.K.Sink l.fn.out l.fn.pen l.out l.pen
    (flat_map (extent_line l.stack) (take l.extent-index l.extents))
