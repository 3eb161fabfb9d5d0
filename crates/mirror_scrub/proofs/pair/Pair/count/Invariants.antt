use Rattle.std.proofs.Common.{◌≡◌, ◌-◌, ◌≤◌}
use Rattle.std.specs.List.{count_by, range_with_len}
use Rattle.mirror_scrub.specs.Stretches.{differ_in}
use Rattle.mirror_scrub.proofs.pair.Pair.count.Given as goal

abbrev pub invariant-loop-at : goal.invariant-loop-at
invariant-loop-at l = record {
  within : l.at ≤ l.self.size;
  is : l.count ≡ count_by (differ_in l.self) (range_with_len 0 l.at);
}

abbrev pub decreases-loop-at : goal.decreases-loop-at
decreases-loop-at l = l.self.size - l.at
