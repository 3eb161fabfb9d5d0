use Rattle.std.proofs.Common.{drop}
use Rattle.outside_io.specs.Saying.{PenState, Says}
use Rattle.report_text.specs.Report.{write_lines}
use Rattle.report_text.proofs.report.write_lines.Given as goal

-- what says the lines from here on completes all of them
abbrev pub invariant-writes : goal.invariant-writes
invariant-writes g l = (end : g.row.K.Denot) (pen : PenState)
    → Says g.K.Sink l.out l.pen end pen (write_lines l.number (drop l.number l.statuses))
    → Says g.K.Sink l.fn.out l.fn.pen end pen (write_lines 0 l.statuses)
