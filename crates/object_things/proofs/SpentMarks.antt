-- A call that is told that there was no ticket was not served, and leaves the thing marked. No other look marks it.
use Rattle.std.proofs.Common.{◌≡◌, true, false}
use Rattle.std.proofs.lemmas.Bool.{true≢false}
use Rattle.bio_records.specs.Rescue.{Rescue}
use Rattle.bio_books.specs.Books.{BookState}
use Rattle.mempool_core.specs.Pool.{LedgerPool}
use Rattle.model_disks.specs.Disks.{DiskState}
use Rattle.run_machine.specs.Requests.{Request, Reply, TakeBio, TakeVec, TakeSlip, GiveBio, GiveVec, GiveSlip, Resize, Punt, Pop, Push, Complete, Link, Drop, Done, NextRound, LookRound, LookLeft, Missed, Present, LeftOver, Nothing, NoTicket}
use Rattle.run_machine.specs.Objects.{TallyState}
use Rattle.object_things.specs.Stamps.{ThingState, is_spent}
use Rattle.object_things.specs.Books.{BookServes, BookLooks}
use Rattle.object_things.specs.Tallies.{TallyServes, TallyLooks}
use Rattle.object_things.specs.Disks.{DiskServes, DiskLooks}
use Rattle.object_things.specs.Lists.{ListServes, ListLooks}
use Rattle.object_things.specs.Pools.{PoolServes, PoolLooks}

pub book_unserved : (old : BookState) (asked : Request) (new : BookState) → BookServes old asked NoTicket new → ⊥
book_unserved old (Link writer opening) new serves = serves
book_unserved old (Drop writer node status part) new serves = serves
book_unserved old asked new serves = serves

pub book_found : (old new : ThingState BookState) (asked : Request) → BookLooks old asked NoTicket new → new.spent ≡ true
book_found old new (Link writer opening) looks = looks.1
book_found old new (Drop writer node status part) looks = looks.1
book_found old new asked looks = absurd looks

pub tally_unserved : (old : TallyState) (asked : Request) (new : TallyState) → TallyServes old asked NoTicket new → ⊥
tally_unserved old (Done write status) new serves = serves
tally_unserved old (NextRound round) new serves = serves
tally_unserved old asked new serves = serves

pub tally_found : (old new : ThingState TallyState) (asked : Request) → TallyLooks old asked NoTicket new → new.spent ≡ true
tally_found old new (Done write status) looks = looks.1
tally_found old new (NextRound round) looks = looks.1
tally_found old new LookRound looks = absurd looks
tally_found old new LookLeft looks = absurd looks
tally_found old new asked looks = absurd looks

pub disk_unserved : (old : DiskState) (asked : Request) (new : DiskState) → DiskServes old asked NoTicket new → ⊥
disk_unserved old (Push bio) new serves = serves
disk_unserved old (Complete disk) new serves = serves
disk_unserved old asked new serves = serves

pub disk_found : (old new : ThingState DiskState) (asked : Request) → DiskLooks old asked NoTicket new → new.spent ≡ true
disk_found old new (Push bio) looks = looks.1
disk_found old new (Complete disk) looks = looks.1.1
disk_found old new asked looks = absurd looks

pub list_unserved : (old : Rescue) (asked : Request) (new : Rescue) → ListServes old asked NoTicket new → ⊥
list_unserved old (Punt dev moved) new serves = serves
list_unserved old (Pop dev) new serves = serves
list_unserved old asked new serves = serves

pub list_found : (old new : ThingState Rescue) (asked : Request) → ListLooks old asked NoTicket new → new.spent ≡ true
list_found old new (Punt dev moved) looks = looks.1
list_found old new (Pop dev) looks = looks.1.1
list_found old new asked looks = absurd looks

pub pool_unserved : (old : LedgerPool) (asked : Request) (new : LedgerPool) → PoolServes old asked NoTicket new → ⊥
pool_unserved old (TakeBio set waits) new serves = serves
pool_unserved old asked new serves = serves

-- whatever a pool is asked, a look that is told that there was no ticket leaves the thing marked; it is not asked what no pool serves
pub pool_found : (old new : ThingState LedgerPool) (asked : Request) → PoolLooks old asked NoTicket new → new.spent ≡ true
pool_found old new (TakeBio set waits) looks = looks.1
pool_found old new TakeVec looks = looks.1
pool_found old new (TakeSlip dev) looks = looks.1
pool_found old new (GiveBio bio) looks = looks.1
pool_found old new (GiveVec vector) looks = looks.1
pool_found old new (GiveSlip slip) looks = looks.1
pool_found old new (Resize pool min) looks = looks.1
pool_found old new asked looks = absurd looks

-- a look that is not told that there was no ticket leaves the thing marked or unmarked
pub pool_keeps : (old new : ThingState LedgerPool) (asked : Request) (reply : Reply) → PoolLooks old asked reply new → is_spent reply ≡ false → new.spent ≡ old.spent
-- a miss that drew no ticket
pool_keeps old new (TakeBio set waits) (Missed used) looks not_none = looks.3
pool_keeps old new TakeVec (Missed used) looks not_none = looks.3
pool_keeps old new (TakeSlip dev) (Missed used) looks not_none = looks.3
-- who is told that there was no ticket is left out
pool_keeps old new (TakeBio set waits) NoTicket looks not_none = absurd (true≢false not_none)
pool_keeps old new TakeVec NoTicket looks not_none = absurd (true≢false not_none)
pool_keeps old new (TakeSlip dev) NoTicket looks not_none = absurd (true≢false not_none)
pool_keeps old new (GiveBio bio) NoTicket looks not_none = absurd (true≢false not_none)
pool_keeps old new (GiveVec vector) NoTicket looks not_none = absurd (true≢false not_none)
pool_keeps old new (GiveSlip slip) NoTicket looks not_none = absurd (true≢false not_none)
pool_keeps old new (Resize pool min) NoTicket looks not_none = absurd (true≢false not_none)
-- a look at a pool is nothing else
pool_keeps old new asked reply looks not_none = absurd looks

pub list_keeps : (old new : ThingState Rescue) (asked : Request) (reply : Reply) → ListLooks old asked reply new → is_spent reply ≡ false → new.spent ≡ old.spent
list_keeps old new (Pop dev) Nothing looks not_none = looks.1.1
list_keeps old new (Punt dev moved) NoTicket looks not_none = absurd (true≢false not_none)
list_keeps old new (Pop dev) NoTicket looks not_none = absurd (true≢false not_none)
list_keeps old new asked reply looks not_none = absurd looks

pub disk_keeps : (old new : ThingState DiskState) (asked : Request) (reply : Reply) → DiskLooks old asked reply new → is_spent reply ≡ false → new.spent ≡ old.spent
disk_keeps old new (Complete disk) (LeftOver count) looks not_none = looks.1.1
disk_keeps old new (Complete disk) Nothing looks not_none = looks.1.1
disk_keeps old new (Push bio) NoTicket looks not_none = absurd (true≢false not_none)
disk_keeps old new (Complete disk) NoTicket looks not_none = absurd (true≢false not_none)
disk_keeps old new asked reply looks not_none = absurd looks

pub book_keeps : (old new : ThingState BookState) (asked : Request) (reply : Reply) → BookLooks old asked reply new → is_spent reply ≡ false → new.spent ≡ old.spent
book_keeps old new (Link writer opening) NoTicket looks not_none = absurd (true≢false not_none)
book_keeps old new (Drop writer node status part) NoTicket looks not_none = absurd (true≢false not_none)
book_keeps old new asked reply looks not_none = absurd looks

pub tally_keeps : (old new : ThingState TallyState) (asked : Request) (reply : Reply) → TallyLooks old asked reply new → is_spent reply ≡ false → new.spent ≡ old.spent
tally_keeps old new LookRound (Present round) looks not_none = looks.1.1
tally_keeps old new LookLeft (LeftOver count) looks not_none = looks.1.1
tally_keeps old new (Done write status) NoTicket looks not_none = absurd (true≢false not_none)
tally_keeps old new (NextRound round) NoTicket looks not_none = absurd (true≢false not_none)
tally_keeps old new asked reply looks not_none = absurd looks
