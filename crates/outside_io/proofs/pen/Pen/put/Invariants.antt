use Rattle.std.proofs.Common.{take}
use Rattle.std.specs.List.{flat_map}
use Rattle.outside_io.specs.Saying.{Says}
use Rattle.outside_io.proofs.pen.Pen.put.Given as goal

abbrev pub invariant-parts : goal.invariant-parts
invariant-parts g l =
    Says g.K.Sink l.fn.sink l.fn.self l.sink l.self
    (flat_map (λ part. part.now) (take l.part-index l.parts))
