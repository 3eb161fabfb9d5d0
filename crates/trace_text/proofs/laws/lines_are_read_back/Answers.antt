use Rattle.trace_text.proofs.EventLemmas.{read_back}
use Rattle.trace_text.proofs.laws.lines_are_read_back.Goals as goal

pub returns : goal.returns
returns c = read_back
