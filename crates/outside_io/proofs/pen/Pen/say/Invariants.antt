use Rattle.std.proofs.Common.{◌-◌, ◌≤◌, length, take}
use Rattle.outside_io.specs.Saying.{Says}
use Rattle.outside_io.proofs.pen.Pen.say.Given as goal

abbrev pub invariant-saying : goal.invariant-saying
invariant-saying g l = record {
  within : l.at ≤ length l.text;
  said : Says g.K.Sink l.fn.sink l.fn.self l.sink l.self (take l.at l.text);
}

abbrev pub decreases-saying : goal.decreases-saying
decreases-saying g l = length l.text - l.at
