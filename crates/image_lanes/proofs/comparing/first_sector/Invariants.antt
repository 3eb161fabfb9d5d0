use Rattle.std.proofs.Common.{◌≡◌, ◌<◌, ◌≤◌, ℕ, not}
use Rattle.image_lanes.specs.Lanes.{sectors_differ}
use Rattle.image_lanes.proofs.comparing.first_sector.Given as goal

abbrev pub invariant-looking : goal.invariant-looking
invariant-looking l = (i : ℕ) → l.from ≤ i → i < l.place → sectors_differ l.a l.b i ≡ not l.differing
