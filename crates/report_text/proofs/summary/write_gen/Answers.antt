-- The lines are said one after the other.
use Rattle.std.proofs.Common.{◌<◌, ℕ, List, length, sym, subst, arith}
use Rattle.std.proofs.lemmas.List.Folds.{flat_map-map}
use Rattle.std.specs.Prelude.{All}
use Rattle.std.specs.List.{flat_map}
use Rattle.stack_base.specs.declared.ids.DevId.{DevId}
use Rattle.model_disks.specs.Disks.{DiskState}
use Rattle.outside_io.specs.Saying.{Says}
use Rattle.outside_io.proofs.SaysLemmas.{says_then, finished}
use Rattle.report_text.specs.Report.{sum_line, steps_line}
use Rattle.report_text.specs.Views.{AreKnown, image_of}
use Rattle.report_text.proofs.PoolLemmas.{disks_below}
use Rattle.report_text.proofs.summary.write_gen.Goals as goal

pub sum_lines-requires : goal.sum_lines-requires
sum_lines-requires g c =
    let stack = c.args.stack.now in
    let total = length stack.devices.items in
    subst (λ (disks : List DiskState). AreKnown stack disks) (sym c.deref.ensures.value)
    (subst (All (λ (dev : DevId). dev.0 < total)) (sym c.requires.ended.disks) (disks_below total 0 stack.devices.items (omega arith)))

pub returns : goal.returns
returns g c =
    let stack = c.args.stack.now in
    let told = λ (text : List ℕ). Says g.K.Sink c.gen_line.new.out c.gen_line.new.pen c.sum_lines.new.out c.sum_lines.new.pen text in
    let disks = subst (λ (ds : List DiskState). told (flat_map (λ disk. sum_line stack (image_of disk)) ds)) c.deref.ensures.value c.sum_lines.ensures in
    let lines = subst told (sym (flat_map-map (sum_line stack) image_of c.args.ended.now.disks.items)) disks in
    let steps = subst
    (λ (bound : ℕ). Says g.K.Sink c.sum_lines.new.out c.sum_lines.new.pen c.steps_line.new.out c.steps_line.new.pen (steps_line c.args.ended.now.steps bound))
    c.total.ensures c.steps_line.ensures in
    finished c.finish.result c.new-pen.ensures (says_then c.gen_line.ensures (says_then lines steps))
    c.finish.ensures.says c.finish.ensures.handed c.finish.ensures.failed
