use Rattle.std.proofs.Common.{sym}
use Rattle.decl_text.specs.Text.{is_blank}
use Rattle.decl_text.proofs.SplitLemmas.{cut_at, cut_none}
use Rattle.decl_text.proofs.line.cut.Goals as goal

pub returns-in-Some-clause-parts : goal.returns-in-Some-clause-parts
returns-in-Some-clause-parts c =
    rw (c.split_at.ensures.front, c.split_at-in-Some.ensures.back) (cut_at is_blank c.args.line.now c.in-Some.end 0 (sym c.in-Some.ensures))

pub returns-in-None-clause-parts : goal.returns-in-None-clause-parts
returns-in-None-clause-parts c = cut_none is_blank c.args.line.now (sym c.in-None.ensures)
