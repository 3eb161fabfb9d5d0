-- Calls that drew no ticket change nothing, or found none; and they tell of no event.
use Rattle.std.proofs.Common.{◌≡◌, inl, inr, ◌+◌, if◌then◌else◌, Bool, true, false, Option, None, refl, sym, ap, ◌∙◌}
use Rattle.stack_base.specs.declared.ids.PoolId.{PoolId}
use Rattle.bio_records.specs.Rescue.{Rescue}
use Rattle.bio_books.specs.Books.{BookState}
use Rattle.mempool_core.specs.Move.{misses}
use Rattle.mempool_core.specs.Pool.{LedgerPool, PoolMoves}
use Rattle.mempool_core.specs.Position.{next_pos}
use Rattle.model_disks.specs.Disks.{DiskState}
use Rattle.run_machine.specs.declared.event.What.{What}
use Rattle.run_machine.specs.Requests.{Request, Reply, TakeBio, TakeVec, TakeSlip, GiveBio, GiveVec, GiveSlip, Resize, Punt, Pop, Push, Complete, Link, Drop, Done, NextRound, LookRound, LookLeft, Missed, Present, LeftOver, Nothing, NoTicket}
use Rattle.run_machine.specs.Objects.{TallyState}
use Rattle.run_machine.specs.Events.{what_of, miss_of}
use Rattle.object_things.specs.Stamps.{ThingState, FindsNone, OnlyLooks}
use Rattle.object_things.specs.Histories.{IsQuiet}
use Rattle.object_things.specs.Books.{BookLooks}
use Rattle.object_things.specs.Tallies.{TallyLooks}
use Rattle.object_things.specs.Disks.{DiskLooks}
use Rattle.object_things.specs.Lists.{ListLooks}
use Rattle.object_things.specs.Pools.{PoolLooks, TakeFindsNone, MissLooks}

module _ {O : Type 0} (old new : ThingState O) {reply : Reply} where
  quiet_none : (told : Option What) → told ≡ None → FindsNone old new → IsQuiet old reply told new
  quiet_none told is none = record { keeps = inl none.0; spent = λ h. none.1; told = is }

  quiet_look : (told : Option What) → told ≡ None → OnlyLooks old new → IsQuiet old reply told new
  quiet_look told is only = record { keeps = inl only.0; spent = λ h. only.1 ∙ h; told = is }

pub book_quiet : (old new : ThingState BookState) (asked : Request) (reply : Reply) → BookLooks old asked reply new → IsQuiet old reply (what_of asked reply) new
book_quiet old new (Link writer opening) NoTicket looks = quiet_none old new _ refl looks
book_quiet old new (Drop writer node status part) NoTicket looks = quiet_none old new _ refl looks
book_quiet old new asked reply looks = absurd looks

pub tally_quiet : (old new : ThingState TallyState) (asked : Request) (reply : Reply) → TallyLooks old asked reply new → IsQuiet old reply (what_of asked reply) new
tally_quiet old new LookRound (Present round) looks = quiet_look old new _ refl looks.1
tally_quiet old new LookLeft (LeftOver count) looks = quiet_look old new _ refl looks.1
tally_quiet old new (Done write status) NoTicket looks = quiet_none old new _ refl looks
tally_quiet old new (NextRound round) NoTicket looks = quiet_none old new _ refl looks
tally_quiet old new asked reply looks = absurd looks

pub disk_quiet : (old new : ThingState DiskState) (asked : Request) (reply : Reply) → DiskLooks old asked reply new → IsQuiet old reply (what_of asked reply) new
disk_quiet old new (Complete disk) (LeftOver count) looks = quiet_look old new _ refl looks.1
disk_quiet old new (Complete disk) Nothing looks = quiet_look old new _ refl looks.1
disk_quiet old new (Push bio) NoTicket looks = quiet_none old new _ refl looks
disk_quiet old new (Complete disk) NoTicket looks = quiet_none old new _ refl looks.1
disk_quiet old new asked reply looks = absurd looks

pub list_quiet : (old new : ThingState Rescue) (asked : Request) (reply : Reply) → ListLooks old asked reply new → IsQuiet old reply (what_of asked reply) new
list_quiet old new (Pop dev) Nothing looks = quiet_look old new _ refl looks.1
list_quiet old new (Punt dev moved) NoTicket looks = quiet_none old new _ refl looks
list_quiet old new (Pop dev) NoTicket looks = quiet_none old new _ refl looks.1
list_quiet old new asked reply looks = absurd looks

-- a miss that used up no entry leaves a pool as it is
same_pool : (old new : LedgerPool) → PoolMoves old (misses false) new → new ≡ old
same_pool old new moves = λ i. record { ledger = moves.ledger i; state = (moves.moves.after ∙ state_is) i; most = moves.most i }
  where
    pos_is : next_pos old.state.script old.state.facts.pos ≡ old.state.facts.pos
    pos_is = ap (λ b. if b then old.state.facts.pos + 1 else old.state.facts.pos) (sym moves.moves.can.1)

    state_is : record old.state { facts = record old.state.facts { pos = next_pos old.state.script old.state.facts.pos } } ≡ old.state
    state_is = ap (λ p. record old.state { facts = record old.state.facts { pos = p } }) pos_is

miss_quiet : (old new : ThingState LedgerPool) (waits used : Bool) (pool : PoolId) → MissLooks waits old used new → IsQuiet old (Missed used) (miss_of waits used pool) new
miss_quiet old new true false pool looks = quiet_look old new _ refl (same_pool old.object new.object looks.2, looks.3)
miss_quiet old new true true pool looks = absurd (cc looks.1)
miss_quiet old new false used pool looks = absurd (cc looks.0)

take_quiet : (waits : Bool) (old new : ThingState LedgerPool) (told : Option What) → told ≡ None → TakeFindsNone waits old new → IsQuiet old NoTicket told new
take_quiet waits old new told is none = record { keeps = inr (refl, none.1); spent = λ h. none.1; told = is }

pub pool_quiet : (old new : ThingState LedgerPool) (asked : Request) (reply : Reply) → PoolLooks old asked reply new → IsQuiet old reply (what_of asked reply) new
-- takes that miss
pool_quiet old new (TakeBio set waits) (Missed used) looks = miss_quiet old new waits used _ looks
pool_quiet old new TakeVec (Missed used) looks = miss_quiet old new true used _ looks
pool_quiet old new (TakeSlip dev) (Missed used) looks = miss_quiet old new true used _ looks
-- takes that find no ticket
pool_quiet old new (TakeBio set waits) NoTicket looks = take_quiet waits old new _ refl looks
pool_quiet old new TakeVec NoTicket looks = take_quiet true old new _ refl looks
pool_quiet old new (TakeSlip dev) NoTicket looks = take_quiet true old new _ refl looks
-- gives and resizes that find none
pool_quiet old new (GiveBio bio) NoTicket looks = quiet_none old new _ refl looks
pool_quiet old new (GiveVec vector) NoTicket looks = quiet_none old new _ refl looks
pool_quiet old new (GiveSlip slip) NoTicket looks = quiet_none old new _ refl looks
pool_quiet old new (Resize pool min) NoTicket looks = quiet_none old new _ refl looks
pool_quiet old new asked reply looks = absurd looks
