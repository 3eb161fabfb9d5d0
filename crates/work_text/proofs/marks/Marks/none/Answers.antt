use Rattle.std.proofs.Common.{◌≡◌, ◌∙◌, ap, length}
use Rattle.work_text.specs.Marks.{marks_in}
use Rattle.work_text.proofs.MarkPages.{unset}
use Rattle.work_text.proofs.marks.Marks.none.Goals as goal

pub returns : goal.returns
returns c = ap (marks_in c.args.sectors) c.in_ok-pages.ensures.0 ∙ unset c.args.sectors (length c.in_ok-pages.pages.items)
