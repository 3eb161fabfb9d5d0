use Rattle.std.proofs.Common.{Ok, Some, ap, sym, ◌∙◌, subst}
use Rattle.std.proofs.lemmas.Result.{err_from_is_err_and}
use Rattle.work_text.specs.Lines.{TellsIn}
use Rattle.work_text.specs.Draft.{known_so_far}
use Rattle.work_text.proofs.LineLemmas.{read_none, read_some, read_wrong}
use Rattle.work_text.proofs.draft.Draft.read_line.Goals as goal
use Rattle.work_text.proofs.draft.Draft.read_line.Goals.{In-Some}

-- what was told
tells : (c : In-Some) → TellsIn (known_so_far c.args.stack.now c.args.self.now) c.args.bytes.now (Ok (Some c.in-Some.told))
tells c =
    let known = known_so_far c.args.stack.now c.args.self.now in
    subst (TellsIn known c.args.bytes.now) (c.in_ok-told_by.was ∙ ap Ok c.in-Some.is) (c.told_by.ensures known (sym c.stand.ensures))

pub returns-in_err-told_by-clause-read : goal.returns-in_err-told_by-clause-read
returns-in_err-told_by-clause-read c =
    let known = known_so_far c.args.stack.now c.args.self.now in
    let p = err_from_is_err_and c.from_residual.result c.from_residual.ensures.1 in
    rw (p.1, p.2)
    (read_wrong known c.args.bytes.now known c.in_err-told_by.field-0.0 (subst (TellsIn known c.args.bytes.now) c.in_err-told_by.was (c.told_by.ensures known (sym c.stand.ensures))))

pub add-requires-clause-sectors : goal.add-requires-clause-sectors
add-requires-clause-sectors c = (tells (goal.at.add-requires-clause-sectors c).In-Some).2

pub returns-in-None-clause-read : goal.returns-in-None-clause-read
returns-in-None-clause-read c =
    let known = known_so_far c.args.stack.now c.args.self.now in
    read_none known c.args.bytes.now (subst (TellsIn known c.args.bytes.now) (c.in_ok-told_by.was ∙ ap Ok c.in-None.is) (c.told_by.ensures known (sym c.stand.ensures)))

pub returns-in-Some-clause-read : goal.returns-in-Some-clause-read
returns-in-Some-clause-read c =
    let here = (goal.at.returns-in-Some-clause-read c).In-Some in
    read_some (known_so_far c.args.stack.now c.args.self.now) c.args.bytes.now _ c.in-Some.told c.add.result (tells here) c.add.ensures.added

pub told_by-requires : goal.told_by-requires
told_by-requires c = λ front. c.requires.stands (sym c.stand.ensures ∙ front)
