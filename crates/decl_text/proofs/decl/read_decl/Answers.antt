use Rattle.std.proofs.Common.{Bool, subst}
use Rattle.std.proofs.lemmas.Grind.{merely}
use Rattle.decl_text.specs.Text.{lines}
use Rattle.decl_text.specs.Reading.{declarations, is_work_line}
use Rattle.decl_text.specs.Steps.{IsReadSoFar, read_of}
use Rattle.decl_text.proofs.Cuts.{none_pass}
use Rattle.decl_text.proofs.decl.read_decl.Goals as goal

pub invariant_of-result : goal.invariant_of-result
invariant_of-result c =
    let text = c.loop-parts.lines.text in
    let read = subst (λ (more : Bool). IsReadSoFar more text (read_of c.read_line.new.self)) c.if-branch.false c.in_ok-read_line.ensures.goes in
    (read.1, merely (declarations (lines text), none_pass is_work_line (lines text), read.0.formed))
