-- The digits are those of the numbers.
use Rattle.biostack_top.proofs.ending.tell_refusal.Goals as goal

pub returns : goal.returns
returns g c = rw (c.as_bytes-line.ensures.value, c.format.ensures.text, c.as_bytes-number.ensures.value, c.format-2.ensures.text) at c.put.ensures
