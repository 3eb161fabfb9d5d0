use Rattle.std.proofs.Common.{◌≡◌, ◌<◌, ◌≤◌, ◌-◌, ℕ, not}
use Rattle.mirror_scrub.specs.Stretches.{differ_at}
use Rattle.mirror_scrub.proofs.stretch.Stretch.first.Given as goal

abbrev pub invariant-looking : goal.invariant-looking
invariant-looking l = record {
  behind : l.from ≤ l.start;
  short : l.start ≤ l.self.len;
  others : (i : ℕ) → l.from ≤ i → i < l.start → differ_at l.self i ≡ not l.differing;
}

abbrev pub decreases-looking : goal.decreases-looking
decreases-looking l = l.self.len - l.start
