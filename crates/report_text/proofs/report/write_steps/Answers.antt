-- The line is said.
use Rattle.std.proofs.Common.{ℕ, subst}
use Rattle.outside_io.specs.Saying.{Says}
use Rattle.outside_io.proofs.SaysLemmas.{finished}
use Rattle.report_text.specs.Report.{steps_line}
use Rattle.report_text.proofs.report.write_steps.Goals as goal

pub returns : goal.returns
returns g c =
    let line = subst
    (λ (bound : ℕ). Says g.K.Sink c.args.out.now c.new-pen.result c.steps_line.new.out c.steps_line.new.pen (steps_line c.args.steps bound))
    c.total.ensures c.steps_line.ensures in
    finished c.finish.result c.new-pen.ensures line c.finish.ensures.says c.finish.ensures.handed c.finish.ensures.failed
