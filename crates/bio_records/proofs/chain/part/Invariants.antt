use Rattle.std.proofs.Common.{◌≡◌, ◌++◌, filter, length, reverse}
use Rattle.bio_records.specs.Items.{items}
use Rattle.bio_records.specs.Sorting.{is_lower, is_for_device}
use Rattle.bio_records.proofs.chain.part.Given as goal

abbrev pub invariant-parting : goal.invariant-parting
invariant-parting l =
    (reverse (filter (is_lower l.dev) (items l.from)) ++ items l.lower ≡ reverse (filter (is_lower l.dev) (items l.initial.from)) ++ items l.initial.lower)
    × (reverse (filter (is_for_device l.dev) (items l.from)) ++ items l.same ≡ reverse (filter (is_for_device l.dev) (items l.initial.from)) ++ items l.initial.same)

abbrev pub decreases-parting : goal.decreases-parting
decreases-parting l = length (items l.from)
