use Rattle.std.proofs.Common.{◌≡◌, ℕ, ◌+◌, ◌%◌, ◌^◌, ◌<◌, get_or}
use Rattle.image_lanes.proofs.filling.fill_each.Given as goal

abbrev pub invariant-filling : goal.invariant-filling
invariant-filling l =
    (l.next ≡ (l.first + l.word-index) % 2 ^ 64) × ((k : ℕ) → k < l.word-index → get_or l.words k 0 ≡ (l.first + k) % 2 ^ 64)
