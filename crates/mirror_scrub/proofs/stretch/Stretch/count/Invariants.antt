use Rattle.std.proofs.Common.{◌≡◌, ◌≤◌, ◌-◌}
use Rattle.std.specs.List.{count_by, range_with_len}
use Rattle.mirror_scrub.specs.Stretches.{differ_at}
use Rattle.mirror_scrub.proofs.stretch.Stretch.count.Given as goal

abbrev pub invariant-counting : goal.invariant-counting
invariant-counting l = record {
  is : l.count ≡ count_by (differ_at l.self) (range_with_len 0 l.place);
  few : l.count ≤ l.place;
  short : l.place ≤ l.self.len;
}

abbrev pub decreases-counting : goal.decreases-counting
decreases-counting l = l.self.len - l.place
