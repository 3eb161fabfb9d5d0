use Rattle.std.proofs.Common.{◌∙◌, ap}
use Rattle.trace_text.specs.Reading.{event_of}
use Rattle.trace_text.proofs.EventLemmas.{is_read}
use Rattle.trace_text.proofs.read.read_event.Goals as goal

pub returns : goal.returns
returns c = is_read c.args.stack.now c.args.line.now c.event.result c.requires (c.event.ensures ∙ ap (event_of c.args.stack.now) c.of.ensures)
