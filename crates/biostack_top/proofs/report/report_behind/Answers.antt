-- What was written behind a trace, by how that ended.
use Rattle.std.proofs.Common.{◌∙◌, ap, sym}
use Rattle.report_text.specs.CheckText.{steps_bound}
use Rattle.report_text.specs.Report.{report}
use Rattle.report_text.specs.Views.{told_of}
use Rattle.biostack_top.specs.Ending.{all_well}
use Rattle.biostack_top.proofs.ServeLemmas.{written_front, written_whole}
use Rattle.biostack_top.proofs.TraceLemmas.{writes_then}
use Rattle.biostack_top.proofs.report.report_behind.Goals as goal

pub returns-in-Err : goal.returns-in-Err
returns-in-Err g c before lines wrote =
    let scene = c.args.scene.now in
    let left = report scene.accepted.stack (told_of c.args.ended.now (steps_bound scene.work.bound)) in
    written_front c.in-Err.is (writes_then lines left c.args.traced c.write_behind.result wrote c.write_behind.ensures.ok c.write_behind.ensures.err)

pub returns-then-all_well : goal.returns-then-all_well
returns-then-all_well g c before lines wrote =
    let scene = c.args.scene.now in
    let left = report scene.accepted.stack (told_of c.args.ended.now (steps_bound scene.work.bound)) in
    let said = written_whole c.in-Ok.is (writes_then lines left c.args.traced c.write_behind.result wrote c.write_behind.ensures.ok c.write_behind.ensures.err) in
    (ap all_well (sym c.deref.ensures.value) ∙ sym c.all_well.ensures ∙ c.if-all_well.true, said.0, said.1)

pub returns-else-all_well : goal.returns-else-all_well
returns-else-all_well g c before lines wrote =
    let scene = c.args.scene.now in
    let left = report scene.accepted.stack (told_of c.args.ended.now (steps_bound scene.work.bound)) in
    let said = written_whole c.in-Ok.is (writes_then lines left c.args.traced c.write_behind.result wrote c.write_behind.ensures.ok c.write_behind.ensures.err) in
    (ap all_well (sym c.deref.ensures.value) ∙ sym c.all_well.ensures ∙ c.if-all_well.false, said.0, said.1)
