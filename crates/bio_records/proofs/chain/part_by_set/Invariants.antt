use Rattle.std.proofs.Common.{◌≡◌, ◌++◌, filter, length, reverse}
use Rattle.bio_records.specs.Items.{items}
use Rattle.bio_records.specs.Sorting.{is_of, is_of_other}
use Rattle.bio_records.proofs.chain.part_by_set.Given as goal

abbrev pub invariant-parting : goal.invariant-parting
invariant-parting l =
    (reverse (filter (is_of l.set) (items l.from)) ++ items l.chosen ≡ reverse (filter (is_of l.set) (items l.initial.from)) ++ items l.initial.chosen)
    × (reverse (filter (is_of_other l.set) (items l.from)) ++ items l.others ≡ reverse (filter (is_of_other l.set) (items l.initial.from)) ++ items l.initial.others)

abbrev pub decreases-parting : goal.decreases-parting
decreases-parting l = length (items l.from)
