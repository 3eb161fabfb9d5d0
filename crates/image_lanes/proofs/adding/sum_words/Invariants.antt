use Rattle.std.proofs.Common.{◌≡◌, ◌-◌, ◌≤◌, length, take}
use Rattle.image_lanes.specs.Lanes.{sum_mod}
use Rattle.image_lanes.proofs.adding.sum_words.Given as goal

abbrev pub invariant-adding : goal.invariant-adding
invariant-adding l = record {
  within : l.at ≤ length l.words;
  lanes : length l.lanes ≡ 8;
  sum : sum_mod l.lanes ≡ sum_mod (take l.at l.words);
}

abbrev pub decreases-adding : goal.decreases-adding
decreases-adding l = length l.words - l.at
