use Rattle.std.proofs.Common.{◌≡◌, ◌++◌, ◌+◌, length, reverse}
use Rattle.bio_records.specs.Items.{items}
use Rattle.bio_records.proofs.chain.pass.Given as goal

abbrev pub invariant-passing : goal.invariant-passing
invariant-passing g l =
    (reverse (items l.passed) ++ items l.from ≡ reverse (items l.initial.passed) ++ items l.initial.from)
    × (length (items l.passed) + l.left ≡ length (items l.initial.passed) + l.count)

abbrev pub decreases-passing : goal.decreases-passing
decreases-passing g l = l.left
