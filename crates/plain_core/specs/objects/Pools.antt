-- What a take of a pool had, as events tell it.
use Rattle.std.specs.Prelude.{◌≡◌, Bool, true}
use Rattle.mempool_core.specs.Position.{uses_entry}
use Rattle.mempool_core.specs.Move.{PoolState, PoolMove, takes_ordinary, takes_spare, misses, CanMove}
use Rattle.run_machine.specs.declared.event.Got.{Got}
use Rattle.run_machine.specs.declared.event.Got.TheVariants as got

-- whether a take uses up an entry of the pool's script
abbrev pub uses : PoolState → Bool
uses pool = uses_entry pool.script pool.facts.pos

-- the move of a take that had this
abbrev pub move_of : PoolState → Got → PoolMove
move_of pool got.Ordinary = takes_ordinary
move_of pool got.Spare = takes_spare
move_of pool got.Missed = misses (uses pool)

-- a missed take that waits is told where it uses up an entry, and any other always
abbrev pub IsTakeTold : PoolState → Bool → Got → Type 0
IsTakeTold pool waits got.Ordinary = Unit {0}
IsTakeTold pool waits got.Spare = Unit {0}
IsTakeTold pool waits got.Missed = waits ≡ true → uses pool ≡ true

-- a take can have this, and an event tells it
abbrev pub CanTake : PoolState → Bool → Got → Type 0
CanTake pool waits got = CanMove pool (move_of pool got) × IsTakeTold pool waits got
