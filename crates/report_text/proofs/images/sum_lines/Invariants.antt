use Rattle.std.proofs.Common.{take}
use Rattle.std.specs.List.{flat_map}
use Rattle.outside_io.specs.Saying.{Says}
use Rattle.report_text.specs.Report.{sum_line}
use Rattle.report_text.specs.Views.{image_of}
use Rattle.report_text.proofs.images.sum_lines.Given as goal

abbrev pub invariant-disks : goal.invariant-disks
invariant-disks g l =
    Says g.K.Sink l.fn.out l.fn.pen l.out l.pen
    (flat_map (λ disk. sum_line l.stack (image_of disk)) (take l.disk-index l.disks))
