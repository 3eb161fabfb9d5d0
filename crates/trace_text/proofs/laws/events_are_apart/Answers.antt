use Rattle.trace_text.proofs.EventLemmas.{events_apart}
use Rattle.trace_text.proofs.laws.events_are_apart.Goals as goal

pub returns : goal.returns
returns c = events_apart
