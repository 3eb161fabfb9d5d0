use Rattle.std.proofs.Common.{◌/◌}
use Rattle.zoned_map.proofs.Finding.{IsChunkFrom}
use Rattle.zoned_map.proofs.ZonedMapLaw.piece.Given as goal

abbrev pub invariant-loop-zone : goal.invariant-loop-zone
invariant-loop-zone l = IsChunkFrom l.zone-items (l.fn.start / l.self-inside.chunk) l.zone-index l.number
