use Rattle.std.proofs.Common.{◌≡◌, ◌-◌, ◌≤◌, length, take}
use Rattle.std.specs.Io.KnownBytes.{Appends}
use Rattle.outside_io.proofs.pen.put_all.Given as goal

abbrev pub invariant-putting : goal.invariant-putting
invariant-putting g l = record {
  within : l.at ≤ length l.text;
  appended : Appends (g.K.Sink.held l.fn.sink) (g.K.Sink.held l.sink) (take l.at l.text);
  quiet : g.K.Sink.faults l.sink ≡ g.K.Sink.faults l.fn.sink;
}

abbrev pub decreases-putting : goal.decreases-putting
decreases-putting g l = length l.text - l.at
