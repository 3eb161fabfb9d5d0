use Rattle.std.proofs.Common.{◌≡◌, ◌-◌, ◌≤◌, length, take}
use Rattle.image_lanes.proofs.comparing.same.Given as goal

abbrev pub invariant-comparing : goal.invariant-comparing
invariant-comparing l = record {
  within : l.at ≤ length l.a;
  front : take l.at l.a ≡ take l.at l.b;
}

abbrev pub decreases-comparing : goal.decreases-comparing
decreases-comparing l = length l.a - l.at
