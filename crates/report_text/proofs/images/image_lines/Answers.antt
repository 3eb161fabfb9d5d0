-- The lines of one more disk are said behind those of the disks before it.
use Rattle.std.proofs.Common.{◌<◌, length, sym, subst, arith}
use Rattle.std.proofs.lemmas.List.{take_all}
use Rattle.stack_base.specs.declared.ids.DevId.{DevId}
use Rattle.outside_io.specs.Saying.{Says}
use Rattle.outside_io.proofs.SaysLemmas.{says_more, says_silence}
use Rattle.model_disks.specs.Disks.{DiskState}
use Rattle.report_text.specs.Report.{image_lines}
use Rattle.report_text.specs.Views.{image_of}
use Rattle.report_text.proofs.PoolLemmas.{each_of}
use Rattle.report_text.proofs.images.image_lines.Goals as goal

pub disk_lines-requires : goal.disk_lines-requires
disk_lines-requires g c =
    let total = length c.args.stack.now.devices.items in
    subst (λ (disk : DiskState). disk.dev.0 < total) (sym c.disk-item.is)
    (each_of (λ (dev : DevId). dev.0 < total) (λ (disk : DiskState). disk.dev) c.args.disks.now c.disks.disk-index c.disk-item.result c.requires c.disks-test.true)

pub disks-init : goal.disks-init
disks-init g c = says_silence g.K.Sink c.args.out.now c.args.pen.now

pub disks-preserved : goal.disks-preserved
disks-preserved g c =
    says_more (λ (disk : DiskState). image_lines c.args.stack.now (image_of disk)) c.args.disks.now c.disks.disk-index c.disk-item.result c.disks-test.true c.disks.invariant
    (subst
    (λ (disk : DiskState). Says g.K.Sink c.disks.out c.disks.pen c.disk_lines.new.out c.disk_lines.new.pen (image_lines c.args.stack.now (image_of disk)))
    c.disk-item.is c.disk_lines.ensures)

pub returns : goal.returns
returns g c = rw (take_all c.disks.disk-index c.args.disks.now (omega arith)) at c.disks.invariant
