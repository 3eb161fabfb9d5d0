use Rattle.std.proofs.Common.{◌≡◌, ◌≤◌, ◌-◌, max}
use Rattle.tick_clock.proofs.clock.Clock.draw.Given as goal

-- so far only what the pass has found changed
abbrev pub invariant-loop-last : goal.invariant-loop-last
invariant-loop-last l = record {
  pass : l.pass ≡ record l.fn.pass { known = l.pass.known };
  found : l.fn.pass.known ≤ l.pass.known;
  seen : l.seen ≡ max l.fn.pass.seen l.fn.note;
  last : l.last ≡ max l.pass.known l.seen;
  note : l.note-inside.seen ≡ l.fn.note;
}

-- a try that fails finds a greater ticket
abbrev pub decreases-loop-last : goal.decreases-loop-last
decreases-loop-last l = 18446744073709551616 - l.pass.known
