-- What can lie in memory.
use Rattle.std.specs.Prelude.{◌<◌, ◌^◌}
use Rattle.std.specs.Mem.{type_size}
use denote.RattleType.{RattleType}
use Rattle.bio_workers.specs.contracts.few.Few as few
use Rattle.bio_workers.specs.contracts.hand.Hand as hand

-- as many tasks of this type as a run has at the most are not too large for it
abbrev pub TasksFitInMemory : RattleType → Type 0
TasksFitInMemory T = (type_size (hand.the_row T) < 2 ^ 63) × (type_size (few.the_row T) < 2 ^ 63)
