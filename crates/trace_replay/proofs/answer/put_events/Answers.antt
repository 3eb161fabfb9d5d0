-- The number in decimal digits.
use Rattle.trace_replay.proofs.answer.put_events.Goals as goal

pub returns : goal.returns
returns g c = rw (c.as_bytes-number.ensures.value, c.format.ensures.text) at c.put.ensures
