-- Calls that found no ticket.
use Rattle.std.proofs.Common.{◌≡◌, true, false, List, refl, sym, ◌∙◌}
use Rattle.std.specs.Prelude.{Contains}
use Rattle.std.proofs.lemmas.Bool.{true≢false, true_from_ne_false}
use Rattle.bio_books.specs.Books.{BookState}
use Rattle.bio_records.specs.Rescue.{Rescue}
use Rattle.model_disks.specs.Disks.{DiskState}
use Rattle.run_machine.specs.Objects.{TallyState}
use Rattle.mempool_core.specs.Pool.{LedgerPool}
use Rattle.seat_lock.specs.History.{Leads}
use Rattle.run_machine.specs.Laws.{Object, OfPool, OfRescuer, OfDisk, OfBook, OfTally, OfNone}
use Rattle.run_machine.specs.Requests.{Request, Reply, TakeBio, TakeVec, TakeSlip, GiveBio, GiveVec, GiveSlip, Punt, Pop, Push, Complete, Link, Drop, Done, Resize, NextRound, LookRound, LookLeft, Missed, Present, LeftOver, Nothing, NoTicket}
use Rattle.object_things.specs.Books.{BookLooks}
use Rattle.object_things.specs.Disks.{DiskLooks}
use Rattle.object_things.specs.Histories.{Call, FoundNone}
use Rattle.object_things.specs.Lists.{ListLooks}
use Rattle.object_things.specs.Pools.{PoolLooks}
use Rattle.object_things.specs.Stamps.{ThingState, is_spent}
use Rattle.object_things.specs.Tallies.{TallyLooks}
use Rattle.object_things.proofs.TicketsRise.{marks}
use Rattle.object_things.proofs.SpentMarks.{book_unserved, book_keeps, disk_unserved, disk_keeps, list_unserved, list_keeps, pool_unserved, pool_keeps, tally_unserved, tally_keeps}
use Rattle.shared_objects.specs.Kinds.{ThingAt, serves_at, looks_at, chooses_at, answers_at}
use Rattle.shared_objects.specs.Logs.{is_stop}

-- a look that is not told that there was no ticket leaves the object marked or unmarked
look_keeps : (name : Object) (old new : ThingState (ThingAt name)) (asked : Request) (reply : Reply) → looks_at name old asked reply new → is_spent reply ≡ false → new.spent ≡ old.spent
look_keeps (OfPool number) old new asked reply looks not_none = pool_keeps old new asked reply looks not_none
look_keeps (OfRescuer dev) old new asked reply looks not_none = list_keeps old new asked reply looks not_none
look_keeps (OfDisk dev) old new asked reply looks not_none = disk_keeps old new asked reply looks not_none
look_keeps (OfBook writer) old new asked reply looks not_none = book_keeps old new asked reply looks not_none
look_keeps OfTally old new asked reply looks not_none = tally_keeps old new asked reply looks not_none
look_keeps OfNone old new asked reply looks not_none = absurd looks

-- nothing that was served said so
pub none_served : {X : Type 0} (name : Object) (old new : ThingAt name) (asked : Request) → serves_at name old asked NoTicket new → X
none_served (OfPool number) old new asked serves = absurd (pool_unserved old asked new serves)
none_served (OfRescuer dev) old new asked serves = absurd (list_unserved old asked new serves)
none_served (OfDisk dev) old new asked serves = absurd (disk_unserved old asked new serves)
none_served (OfBook writer) old new asked serves = absurd (book_unserved old asked new serves)
none_served OfTally old new asked serves = absurd (tally_unserved old asked new serves)
none_served OfNone old new asked serves = absurd serves

-- where an object has no more tickets, a call found none
pub found_none : (name : Object) (old new : ThingState (ThingAt name)) (calls : List Call) → Leads (answers_at name) old calls new → old.spent ≡ false → new.spent ≡ true
    → (call : Call) × Contains calls call × FoundNone call
found_none name = marks (serves_at name) (looks_at name) (chooses_at name) (look_keeps name)

-- a look after which a task has no ticket is all that stops it
pool_goes : (old new : ThingState LedgerPool) (asked : Request) (reply : Reply) → PoolLooks old asked reply new → is_spent reply ≡ false → is_stop asked reply ≡ false
-- a miss stops no task
pool_goes old new (TakeBio set waits) (Missed used) looks not_none = refl
pool_goes old new TakeVec (Missed used) looks not_none = refl
pool_goes old new (TakeSlip dev) (Missed used) looks not_none = refl
-- who is told that there was no ticket is left out
pool_goes old new (TakeBio set waits) NoTicket looks not_none = absurd (true≢false not_none)
pool_goes old new TakeVec NoTicket looks not_none = absurd (true≢false not_none)
pool_goes old new (TakeSlip dev) NoTicket looks not_none = absurd (true≢false not_none)
pool_goes old new (GiveBio bio) NoTicket looks not_none = absurd (true≢false not_none)
pool_goes old new (GiveVec vector) NoTicket looks not_none = absurd (true≢false not_none)
pool_goes old new (GiveSlip slip) NoTicket looks not_none = absurd (true≢false not_none)
pool_goes old new (Resize pool min) NoTicket looks not_none = absurd (true≢false not_none)
-- a look at a pool is nothing else
pool_goes old new asked reply looks not_none = absurd looks

list_goes : (old new : ThingState Rescue) (asked : Request) (reply : Reply) → ListLooks old asked reply new → is_spent reply ≡ false → is_stop asked reply ≡ false
list_goes old new (Pop dev) Nothing looks not_none = refl
list_goes old new (Punt dev moved) NoTicket looks not_none = absurd (true≢false not_none)
list_goes old new (Pop dev) NoTicket looks not_none = absurd (true≢false not_none)
list_goes old new asked reply looks not_none = absurd looks

disk_goes : (old new : ThingState DiskState) (asked : Request) (reply : Reply) → DiskLooks old asked reply new → is_spent reply ≡ false → is_stop asked reply ≡ false
disk_goes old new (Complete disk) (LeftOver count) looks not_none = refl
disk_goes old new (Complete disk) Nothing looks not_none = refl
disk_goes old new (Push bio) NoTicket looks not_none = absurd (true≢false not_none)
disk_goes old new (Complete disk) NoTicket looks not_none = absurd (true≢false not_none)
disk_goes old new asked reply looks not_none = absurd looks

book_goes : (old new : ThingState BookState) (asked : Request) (reply : Reply) → BookLooks old asked reply new → is_spent reply ≡ false → is_stop asked reply ≡ false
book_goes old new (Link writer opening) NoTicket looks not_none = absurd (true≢false not_none)
book_goes old new (Drop writer node status part) NoTicket looks not_none = absurd (true≢false not_none)
book_goes old new asked reply looks not_none = absurd looks

tally_goes : (old new : ThingState TallyState) (asked : Request) (reply : Reply) → TallyLooks old asked reply new → is_spent reply ≡ false → is_stop asked reply ≡ false
tally_goes old new LookRound (Present round) looks not_none = refl
tally_goes old new LookLeft (LeftOver count) looks not_none = refl
tally_goes old new (Done write status) NoTicket looks not_none = absurd (true≢false not_none)
tally_goes old new (NextRound round) NoTicket looks not_none = absurd (true≢false not_none)
tally_goes old new asked reply looks not_none = absurd looks

look_goes : (name : Object) (old new : ThingState (ThingAt name)) (asked : Request) (reply : Reply) → looks_at name old asked reply new → is_spent reply ≡ false → is_stop asked reply ≡ false
look_goes (OfPool number) old new asked reply looks not_none = pool_goes old new asked reply looks not_none
look_goes (OfRescuer dev) old new asked reply looks not_none = list_goes old new asked reply looks not_none
look_goes (OfDisk dev) old new asked reply looks not_none = disk_goes old new asked reply looks not_none
look_goes (OfBook writer) old new asked reply looks not_none = book_goes old new asked reply looks not_none
look_goes OfTally old new asked reply looks not_none = tally_goes old new asked reply looks not_none
look_goes OfNone old new asked reply looks not_none = absurd looks

pub stop_spent : (name : Object) (old new : ThingState (ThingAt name)) (asked : Request) (reply : Reply) → looks_at name old asked reply new → is_stop asked reply ≡ true → is_spent reply ≡ true
stop_spent name old new asked reply looks stop =
    true_from_ne_false (is_spent reply) (λ is. true≢false (sym stop ∙ look_goes name old new asked reply looks is))
