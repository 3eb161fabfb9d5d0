use Rattle.std.proofs.Common.{Err, sym, subst, ◌∙◌}
use Rattle.decl_text.specs.Lines.{CommandSays}
use Rattle.decl_text.proofs.LineLemmas.{says_no_text, says_nothing, says_unknown, says_late, says_item, says_fault}
use Rattle.decl_text.proofs.line.read.Goals as goal

pub returns-then-not-is_text : goal.returns-then-not-is_text
returns-then-not-is_text c = says_no_text c.args.stand c.args.line.now (sym c.is_text.ensures ∙ c.if-not-is_text.true)

pub returns-in-Skipped : goal.returns-in-Skipped
returns-in-Skipped c =
    says_nothing c.args.stand c.args.line.now c.args.words.now (sym c.is_text.ensures ∙ c.if-not-is_text.false) (sym c.requires) (sym c.first_of.ensures ∙ c.in-Skipped.is)

pub returns-in-Unknown : goal.returns-in-Unknown
returns-in-Unknown c =
    says_unknown c.args.stand c.args.line.now c.args.words.now (sym c.is_text.ensures ∙ c.if-not-is_text.false) (sym c.requires) (sym c.first_of.ensures ∙ c.in-Unknown.is)

pub returns-then-not-takes : goal.returns-then-not-takes
returns-then-not-takes c =
    says_late c.args.stand c.args.line.now c.args.words.now c.in-Command.command (sym c.is_text.ensures ∙ c.if-not-is_text.false) (sym c.requires) (sym c.first_of.ensures ∙ c.in-Command.is)
    (sym c.takes.ensures ∙ c.if-not-takes.true)

pub returns-in-Ok : goal.returns-in-Ok
returns-in-Ok c =
    says_item c.args.stand c.args.line.now c.args.words.now c.in-Command.command c.in-Ok.item (sym c.is_text.ensures ∙ c.if-not-is_text.false) (sym c.requires) (sym c.first_of.ensures ∙ c.in-Command.is)
    (sym c.takes.ensures ∙ c.if-not-takes.false) (rw (← c.split_at.ensures.back) c.in-Ok.ensures)

pub returns-in-Err : goal.returns-in-Err
returns-in-Err c =
    says_fault c.args.stand c.args.line.now c.args.words.now c.in-Command.command c.in-Err.fault (sym c.is_text.ensures ∙ c.if-not-is_text.false) (sym c.requires) (sym c.first_of.ensures ∙ c.in-Command.is)
    (sym c.takes.ensures ∙ c.if-not-takes.false) (subst (λ rest. CommandSays c.in-Command.command rest (Err c.in-Err.fault)) c.split_at.ensures.back c.in-Err.ensures)
