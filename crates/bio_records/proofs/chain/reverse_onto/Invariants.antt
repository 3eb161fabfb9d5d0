use Rattle.std.proofs.Common.{◌≡◌, ◌++◌, length, reverse}
use Rattle.bio_records.specs.Items.{items}
use Rattle.bio_records.proofs.chain.reverse_onto.Given as goal

abbrev pub invariant-moving : goal.invariant-moving
invariant-moving g l = reverse (items l.from) ++ items l.onto ≡ reverse (items l.initial.from) ++ items l.initial.onto

abbrev pub decreases-moving : goal.decreases-moving
decreases-moving g l = length (items l.from)
