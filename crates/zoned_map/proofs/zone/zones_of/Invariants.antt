use Rattle.zoned_map.proofs.Levels.{IsMade}
use Rattle.zoned_map.proofs.zone.zones_of.Given as goal

abbrev pub invariant-loop-level : goal.invariant-loop-level
invariant-loop-level l = IsMade l.counts l.level-items l.base l.zones.items l.level-index
