use Rattle.std.proofs.Common.{◌≡◌, ◌≤◌}
use Rattle.image_lanes.specs.Lanes.{unlike_of}
use Rattle.image_lanes.proofs.comparing.count_unlike.Given as goal

abbrev pub invariant-counting : goal.invariant-counting
invariant-counting l = record {
  count : l.count ≡ unlike_of l.place l.a l.b;
  fits : l.count ≤ l.place;
}
