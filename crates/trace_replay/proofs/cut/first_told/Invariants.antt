use Rattle.std.proofs.Common.{◌≡◌, ◌-◌, ◌≤◌, length}
use Rattle.trace_replay.specs.Parts.{HasNoEventBefore}
use Rattle.trace_replay.proofs.cut.first_told.Given as goal

abbrev pub invariant-loop-line : goal.invariant-loop-line
invariant-loop-line l = record {
  text : l.lines.text ≡ l.text;
  place : l.lines.place ≡ l.place;
  within : l.place ≤ length l.text;
  behind : HasNoEventBefore l.text l.place l.number;
}

abbrev pub decreases-loop-line : goal.decreases-loop-line
decreases-loop-line l = length l.text - l.lines.place
