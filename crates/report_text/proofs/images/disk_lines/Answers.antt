-- The line of the sum is said, and then those of the runs.
use Rattle.std.proofs.Common.{ℕ, List, ◌∙◌, ap, subst}
use Rattle.outside_io.specs.Saying.{Says}
use Rattle.outside_io.proofs.SaysLemmas.{says_then}
use Rattle.stack_base.specs.declared.ids.DevId.{DevId}
use Rattle.stack_base.specs.Names.{name_of_device}
use Rattle.model_disks.specs.Runs.{written_runs}
use Rattle.report_text.specs.Report.{disk_line, run_lines}
use Rattle.report_text.proofs.images.disk_lines.Goals as goal

pub returns : goal.returns
returns g c =
    let named = c.device_name-name.ensures ∙ ap (λ (dev : DevId). name_of_device c.args.stack.now dev.0) c.dev.ensures in
    let line = λ (name : List ℕ) (words : ℕ). Says g.K.Sink c.args.out.now c.args.pen.now c.disk_line.new.out c.disk_line.new.pen (disk_line name words) in
    says_then (subst (line (name_of_device c.args.stack.now c.args.disk.now.dev.0)) c.sum.ensures (subst (λ name. line name c.sum.result) named c.disk_line.ensures))
    (subst
    (λ (name : List ℕ). Says g.K.Sink c.disk_line.new.out c.disk_line.new.pen c.run_lines.new.out c.run_lines.new.pen (run_lines name (written_runs c.args.disk.now.image)))
    named c.run_lines.ensures)
