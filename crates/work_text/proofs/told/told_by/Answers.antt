use Rattle.std.proofs.Common.{Ok, ap, ◌∙◌, subst, sym}
use Rattle.std.proofs.lemmas.Result.{err_from_is_err_and}
use Rattle.decl_text.specs.Lines.{LineSays}
use Rattle.decl_text.proofs.BlankLines.{blank_says_nothing}
use Rattle.work_text.proofs.LineLemmas.{says_work, told_none, told_some, told_wrong}
use Rattle.work_text.proofs.told.told_by.Goals as goal

pub returns-then-is_blank_line : goal.returns-then-is_blank_line
returns-then-is_blank_line c = blank_says_nothing c.args.stand c.args.bytes.now (sym c.is_blank_line.ensures ∙ c.if-is_blank_line.true)

pub returns-in_err-said : goal.returns-in_err-said
returns-in_err-said c =
    λ known stands.
    let p = err_from_is_err_and c.from_residual-in_err-said.result c.from_residual-in_err-said.ensures.1 in
    rw (p.1, p.2)
    (told_wrong known c.in_ok-line.line c.args.bytes.now c.in_err-said.field-0.0 c.in_ok-line.ensures (c.in_err-said.ensures known stands))

pub returns-in-None : goal.returns-in-None
returns-in-None c =
    λ known stands.
    told_none known c.in_ok-line.line c.args.bytes.now c.in_ok-line.ensures
    (subst (LineSays c.args.stand c.in_ok-line.line) (c.in_ok-said.was ∙ ap Ok c.in-None.is) c.said.ensures known stands)

pub work_of-requires : goal.work_of-requires
work_of-requires c =
    says_work c.args.stand c.in_ok-line.line c.args.bytes.now c.in-Some.item c.in_ok-line.ensures c.requires
    (subst (LineSays c.args.stand c.in_ok-line.line) (c.in_ok-said.was ∙ ap Ok c.in-Some.is) c.said.ensures)

pub returns : goal.returns
returns c =
    λ known stands.
    told_some known c.in_ok-line.line c.args.bytes.now c.in-Some.item c.work_of.result c.in_ok-line.ensures
    (subst (LineSays c.args.stand c.in_ok-line.line) (c.in_ok-said.was ∙ ap Ok c.in-Some.is) c.said.ensures known stands)
    c.work_of.ensures.same c.work_of.ensures.sectors
