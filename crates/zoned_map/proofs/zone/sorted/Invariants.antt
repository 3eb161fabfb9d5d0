use Rattle.std.proofs.Common.{◌≡◌, take}
use Rattle.zoned_map.proofs.zone.sorted.Given as goal

abbrev pub invariant-loop-count : goal.invariant-loop-count
invariant-loop-count l = l.rising.items ≡ take l.count-index l.counts
