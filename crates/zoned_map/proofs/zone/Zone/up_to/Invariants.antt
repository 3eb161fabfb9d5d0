use Rattle.std.proofs.Common.{◌≡◌}
use Rattle.std.specs.Prelude.{nat_le, slice_index}
use Rattle.stack_base.proofs.Passing.{passing}
use Rattle.zoned_map.proofs.zone.Zone.up_to.Given as goal

-- the members so far that reach the level
abbrev pub invariant-loop-member : goal.invariant-loop-member
invariant-loop-member l = l.members.items ≡ passing (λ i. nat_le l.level (slice_index l.counts i)) 0 l.member
