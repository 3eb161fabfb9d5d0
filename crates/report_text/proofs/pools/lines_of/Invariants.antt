use Rattle.std.proofs.Common.{take}
use Rattle.std.specs.List.{flat_map}
use Rattle.outside_io.specs.Saying.{Says}
use Rattle.report_text.specs.Views.{facts_line}
use Rattle.report_text.proofs.pools.lines_of.Given as goal

abbrev pub invariant-pools : goal.invariant-pools
invariant-pools g l =
    Says g.K.Sink l.fn.out l.fn.pen l.out l.pen
    (flat_map (facts_line l.stack) (take l.pool-index l.pools))
