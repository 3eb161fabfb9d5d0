-- Objects as they are put behind locks.
use Rattle.std.specs.Prelude.{false}
use Rattle.object_things.specs.Stamps.{CommonState, StampState, Stamped}

-- the stamp of an object of which nothing was asked
abbrev pub unused : CommonState → StampState
unused common = record { note = 0; spent = false; common = common }

abbrev pub guarded : {O : Type 0} → CommonState → O → Stamped O
guarded common object = record { object = object; stamp = unused common }
