-- The first word says it.
use Rattle.std.proofs.Common.{sym, ap, ◌∙◌}
use Rattle.decl_text.specs.Text.{words}
use Rattle.trace_replay.specs.Lines.{begins_event}
use Rattle.trace_replay.proofs.LineLemmas.{begins_with}
use Rattle.trace_replay.proofs.told.is_told.Goals as goal

pub returns-in-None : goal.returns-in-None
returns-in-None c = ap begins_event (sym c.in-None.ensures)

pub returns-in-Some : goal.returns-in-Some
returns-in-Some c = c.is.ensures ∙ sym (begins_with (words c.args.line.now) c.in-Some.word.now c.in-Some.ensures)
