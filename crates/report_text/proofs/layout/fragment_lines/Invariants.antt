use Rattle.std.proofs.Common.{take}
use Rattle.std.specs.List.{flat_map}
use Rattle.outside_io.specs.Saying.{Says}
use Rattle.report_text.specs.LayoutText.{fragment_line}
use Rattle.report_text.proofs.layout.fragment_lines.Given as goal

abbrev pub invariant-fragments : goal.invariant-fragments
invariant-fragments g l =
    Says g.K.Sink l.fn.out l.fn.pen l.out l.pen
    (flat_map (fragment_line l.stack) (take l.fragment-index l.fragments))
