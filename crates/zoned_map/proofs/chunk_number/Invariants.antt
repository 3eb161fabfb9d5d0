use Rattle.zoned_map.proofs.Counting.{IsCounted}
use Rattle.zoned_map.proofs.chunk_number.Given as goal

abbrev pub invariant-loop-place : goal.invariant-loop-place
invariant-loop-place l = IsCounted l.counts l.member l.row l.number l.place
