use Rattle.std.proofs.Common.{◌≡◌, ◌+◌, ◌-◌, ◌≤◌, length, take}
use Rattle.image_lanes.specs.Lanes.{counting}
use Rattle.image_lanes.proofs.filling.fill.Given as goal

abbrev pub invariant-filling : goal.invariant-filling
invariant-filling l = record {
  size : length l.words ≡ length l.fn.words;
  within : l.at ≤ length l.words;
  front : take l.at l.words ≡ counting l.first l.at;
  lanes : l.lanes ≡ counting (l.first + l.at) 8;
}

abbrev pub decreases-filling : goal.decreases-filling
decreases-filling l = length l.words - l.at
