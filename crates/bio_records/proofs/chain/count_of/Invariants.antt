use Rattle.std.proofs.Common.{◌≡◌, ◌+◌, ◌-◌, ◌^◌, ◌<◌, length, min}
use Rattle.bio_records.specs.Items.{items}
use Rattle.bio_records.proofs.chain.count_of.Given as goal

abbrev pub invariant-counting : goal.invariant-counting
invariant-counting g l =
    (min (l.count + length (items l.rest)) (2 ^ 64 - 1) ≡ min (length (items l.link)) (2 ^ 64 - 1)) × (l.count < 2 ^ 64)

abbrev pub decreases-counting : goal.decreases-counting
decreases-counting g l = length (items l.rest)
