use Rattle.std.proofs.Common.{◌≡◌, ◌/◌, map, take}
use Rattle.zoned_map.proofs.zone.whole_chunks.Given as goal

abbrev pub invariant-loop-size : goal.invariant-loop-size
invariant-loop-size l = l.counts.items ≡ map (λ size. size / l.chunk) (take l.size-index l.sizes)
