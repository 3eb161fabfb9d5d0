use Rattle.trace_text.proofs.EventLemmas.{text_line}
use Rattle.trace_text.proofs.laws.lines_are_text.Goals as goal

pub returns : goal.returns
returns c = text_line
