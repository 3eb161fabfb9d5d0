-- What says the lines of the other writes completes all of them.
use Rattle.std.proofs.Common.{arith}
use Rattle.report_text.proofs.LineLemmas.{writes_on, writes_end}
use Rattle.report_text.proofs.report.write_lines.Goals as goal

pub writes-preserved : goal.writes-preserved
writes-preserved g c = λ end pen said.
    c.writes.invariant end pen
    (writes_on c.args.statuses.now c.writes.number _ c.writes-test.true c.write_line.ensures said)

pub returns : goal.returns
returns g c =
    c.writes.invariant _ _
    (writes_end g.K.Sink c.writes.out c.writes.pen c.args.statuses.now c.writes.number (omega arith))
