-- The lines are said one after the other.
use Rattle.std.proofs.Common.{◌<◌, ℕ, List, length, sym, subst, arith}
use Rattle.std.proofs.lemmas.List.Folds.{flat_map-map}
use Rattle.std.specs.Prelude.{All}
use Rattle.std.specs.List.{flat_map}
use Rattle.stack_base.specs.declared.ids.DevId.{DevId}
use Rattle.stack_base.specs.declared.ids.Status.{Status}
use Rattle.model_disks.specs.Disks.{DiskState}
use Rattle.outside_io.specs.Saying.{Says}
use Rattle.outside_io.proofs.SaysLemmas.{says_then, finished}
use Rattle.report_text.specs.Report.{write_lines, image_lines, pool_lines, steps_line}
use Rattle.report_text.specs.Views.{AreKnown, image_of}
use Rattle.report_text.proofs.PoolLemmas.{Entries, disks_below}
use Rattle.report_text.proofs.report.write_report.Goals as goal

pub image_lines-requires : goal.image_lines-requires
image_lines-requires g c =
    let stack = c.args.stack.now in
    let total = length stack.devices.items in
    subst (λ (disks : List DiskState). AreKnown stack disks) (sym c.deref-2.ensures.value)
    (subst (All (λ (dev : DevId). dev.0 < total)) (sym c.requires.ended.disks) (disks_below total 0 stack.devices.items (omega arith)))

pub returns : goal.returns
returns g c =
    let stack = c.args.stack.now in
    let ended = c.args.ended.now in
    let writes = subst
    (λ (statuses : List Status). Says g.K.Sink c.args.out.now c.new-pen.result c.write_lines.new.out c.write_lines.new.pen (write_lines 0 statuses))
    c.deref.ensures.value c.write_lines.ensures in
    let told = λ (text : List ℕ). Says g.K.Sink c.write_lines.new.out c.write_lines.new.pen c.image_lines.new.out c.image_lines.new.pen text in
    let disks = subst (λ (ds : List DiskState). told (flat_map (λ disk. image_lines stack (image_of disk)) ds)) c.deref-2.ensures.value c.image_lines.ensures in
    let images = subst told (sym (flat_map-map (image_lines stack) image_of ended.disks.items)) disks in
    let pools = subst
    (λ (ps : Entries). Says g.K.Sink c.image_lines.new.out c.image_lines.new.pen c.pool_lines.new.out c.pool_lines.new.pen (pool_lines stack ps))
    c.deref-3.ensures.value c.pool_lines.ensures in
    let steps = subst
    (λ (bound : ℕ). Says g.K.Sink c.pool_lines.new.out c.pool_lines.new.pen c.steps_line.new.out c.steps_line.new.pen (steps_line ended.steps bound))
    c.total.ensures c.steps_line.ensures in
    finished c.finish.result c.new-pen.ensures (says_then writes (says_then images (says_then pools steps)))
    c.finish.ensures.says c.finish.ensures.handed c.finish.ensures.failed
