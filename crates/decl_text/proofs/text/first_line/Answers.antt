use Rattle.std.proofs.Common.{◌+◌, ◌==◌, ◌∷◌, [], ◌∙◌, arith, length, take, sym, ap}
use Rattle.std.proofs.lemmas.List.{drop_all, take_all}
use Rattle.decl_text.specs.Text.{lines}
use Rattle.decl_text.proofs.SplitLemmas.{line_at, line_cut, line_last, no_lines}
use Rattle.decl_text.proofs.text.first_line.Goals as goal

pub returns-in-Some-clause-line : goal.returns-in-Some-clause-line
returns-in-Some-clause-line c = rw c.split_at.ensures.front (line_at (λ byte. byte == 10) c.args.text.now c.in-Some.end (sym c.in-Some.ensures))

pub returns-in-None-clause-line : goal.returns-in-None-clause-line
returns-in-None-clause-line c =
    rw (drop_all (length c.args.text.now) c.args.text.now (omega arith), no_lines) (line_last (λ byte. byte == 10) c.args.text.now c.requires (sym c.in-None.ensures))

pub returns-in-Some-clause-cut : goal.returns-in-Some-clause-cut
returns-in-Some-clause-cut c = λ more.
    rw c.split_at.ensures.front (line_cut (λ byte. byte == 10) c.args.text.now c.in-Some.end more (sym c.in-Some.ensures))

pub returns-in-None-clause-cut : goal.returns-in-None-clause-cut
returns-in-None-clause-cut c = λ more.
    let text = c.args.text.now in
    let none = ap (λ rest. lines (take more rest)) (drop_all (length text) text (omega arith)) ∙ ap lines (take_all more [] (omega arith)) ∙ no_lines in
    ap lines (take_all (length text + more) text (omega arith))
    ∙ line_last (λ byte. byte == 10) text c.requires (sym c.in-None.ensures)
    ∙ ap (λ rest. text ∷ rest) (sym none)
