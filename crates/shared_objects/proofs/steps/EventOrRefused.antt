-- What an object serves is an event, or is refused.
use Rattle.std.proofs.Common.{◌≡◌, ◌⊎◌, ◌<◌, ◌==◌, ◌||◌, not, ℕ, Bool, true, false, inl, inr, refl, sym, ◌∙◌, ap, subst, arith}
use Rattle.std.specs.Option.{is_some}
use Rattle.std.proofs.lemmas.Bool.{true≢false, ne_eqb}
use Rattle.bio_books.specs.Books.{BookState}
use Rattle.bio_books.specs.Links.{Made, NoRoom, Stray}
use Rattle.bio_books.specs.Drops as end
use Rattle.bio_records.specs.Rescue.{Rescue}
use Rattle.model_disks.specs.Disks.{DiskState}
use Rattle.mempool_core.specs.Move.{resizes}
use Rattle.mempool_core.specs.Pool.{LedgerPool, PoolMoves}
use Rattle.stack_base.specs.declared.ids.PoolId.{PoolId}
use Rattle.run_machine.specs.Events.{miss_of}
use Rattle.run_machine.specs.Laws.{Object, OfPool, OfRescuer, OfDisk, OfBook, OfTally, OfNone}
use Rattle.run_machine.specs.Objects.{TallyState}
use Rattle.run_machine.specs.Requests.{Request, Reply, TakeBio, TakeVec, TakeSlip, GiveBio, GiveVec, GiveSlip, Punt, Pop, Push, Complete, Link, Drop, Done, Resize, NextRound, LookRound, LookLeft, HadBio, HadVec, HadSlip, Missed, Did, Popped, Completed, LinkedTo, DroppedTo, OutIs}
use Rattle.object_things.specs.Books.{BookServes}
use Rattle.object_things.specs.Disks.{DiskServes}
use Rattle.object_things.specs.Lists.{ListServes}
use Rattle.object_things.specs.Pools.{PoolServes}
use Rattle.object_things.specs.Stamps.{is_spent}
use Rattle.object_things.specs.Tallies.{TallyServes}
use Rattle.shared_objects.specs.Kinds.{ThingAt, serves_at}
use Rattle.shared_objects.specs.Logs.{is_event, is_refused, is_stop}

-- what was served and is no event was refused
miss_event : (waits used : Bool) (pool : PoolId) → (waits ≡ true → used ≡ true) → is_some (miss_of waits used pool) ≡ true
miss_event true true pool told = refl
miss_event true false pool told = absurd (true≢false (sym (told refl)))
miss_event false used pool told = refl

wrong : {X : Type 0} {b : Bool} → b ≡ true → b ≡ false → X
wrong is not = absurd (true≢false (sym is ∙ not))

out_refused : (old new : LedgerPool) (pool : PoolId) (min out : ℕ) → ((out ≡ 0) × PoolMoves old (resizes min) new) ⊎ ((0 < out) × (new ≡ old)) → is_event (Resize pool min) (OutIs out) ≡ false
    → not (out == 0) ≡ true
out_refused old new pool min out (inr (some, same)) not_event = ap not (ne_eqb out 0 (λ none. omega (arith, none, some)))
out_refused old new pool min out (inl (none, moves)) not_event = wrong (subst (λ n. is_event (Resize pool min) (OutIs n) ≡ true) (sym none) refl) not_event

pool_refused : (old new : LedgerPool) (asked : Request) (reply : Reply) → PoolServes old asked reply new → is_event asked reply ≡ false → is_refused asked reply ≡ true
-- takes: what is served is an event, an element that was handed out or a miss
pool_refused old new (TakeBio set waits) (HadBio from bio) h none = wrong refl none
pool_refused old new (TakeBio set waits) (Missed used) h none = wrong (miss_event waits used _ h.1) none
pool_refused old new (TakeBio set waits) reply h none = absurd h
pool_refused old new TakeVec (HadVec from vector) h none = wrong refl none
pool_refused old new TakeVec (Missed used) h none = wrong (miss_event true used _ h.1) none
pool_refused old new TakeVec reply h none = absurd h
pool_refused old new (TakeSlip dev) (HadSlip from slip) h none = wrong refl none
pool_refused old new (TakeSlip dev) (Missed used) h none = wrong (miss_event true used _ h.1) none
pool_refused old new (TakeSlip dev) reply h none = absurd h
-- gives are events
pool_refused old new (GiveBio bio) Did h none = wrong refl none
pool_refused old new (GiveBio bio) reply h none = absurd h
pool_refused old new (GiveVec vector) Did h none = wrong refl none
pool_refused old new (GiveVec vector) reply h none = absurd h
pool_refused old new (GiveSlip slip) Did h none = wrong refl none
pool_refused old new (GiveSlip slip) reply h none = absurd h
-- resizes: where something is out they were refused
pool_refused old new (Resize pool min) (OutIs out) h none = out_refused old new pool min out h.1 none
pool_refused old new (Resize pool min) reply h none = absurd h
-- a pool serves nothing else
pool_refused old new asked reply h none = absurd h

list_refused : (old new : Rescue) (asked : Request) (reply : Reply) → ListServes old asked reply new → is_event asked reply ≡ false → is_refused asked reply ≡ true
list_refused old new (Punt other moved) Did h none = wrong refl none
list_refused old new (Pop other) (Popped bio) h none = wrong refl none
list_refused old new asked reply h none = absurd h

disk_refused : (old new : DiskState) (asked : Request) (reply : Reply) → DiskServes old asked reply new → is_event asked reply ≡ false → is_refused asked reply ≡ true
disk_refused old new (Push bio) Did h none = wrong refl none
disk_refused old new (Complete disk) (Completed index bio status) h none = wrong refl none
disk_refused old new asked reply h none = absurd h

book_refused : (old new : BookState) (asked : Request) (reply : Reply) → BookServes old asked reply new → is_event asked reply ≡ false → is_refused asked reply ≡ true
-- links: one that made no node was refused
book_refused old new (Link other opening) (LinkedTo (Made place)) h none = wrong refl none
book_refused old new (Link other opening) (LinkedTo (NoRoom back)) h none = refl
book_refused old new (Link other opening) (LinkedTo (Stray back)) h none = refl
-- drops: one at no node was refused
book_refused old new (Drop other node status part) (DroppedTo end.Left) h none = wrong refl none
book_refused old new (Drop other node status part) (DroppedTo (end.Up closed)) h none = wrong refl none
book_refused old new (Drop other node status part) (DroppedTo (end.Top closed)) h none = wrong refl none
book_refused old new (Drop other node status part) (DroppedTo (end.Stray back)) h none = refl
-- a book serves nothing else
book_refused old new asked reply h none = absurd h

tally_refused : (old new : TallyState) (asked : Request) (reply : Reply) → TallyServes old asked reply new → is_event asked reply ≡ false → is_refused asked reply ≡ true
tally_refused old new (Done write status) Did h none = wrong refl none
tally_refused old new (NextRound round) Did h none = wrong refl none
tally_refused old new asked reply h none = absurd h

pub served_refused : (name : Object) (old new : ThingAt name) (asked : Request) (reply : Reply) → serves_at name old asked reply new → is_event asked reply ≡ false
    → is_refused asked reply ≡ true
served_refused (OfPool number) old new asked reply h none = pool_refused old new asked reply h none
served_refused (OfRescuer dev) old new asked reply h none = list_refused old new asked reply h none
served_refused (OfDisk dev) old new asked reply h none = disk_refused old new asked reply h none
served_refused (OfBook writer) old new asked reply h none = book_refused old new asked reply h none
served_refused OfTally old new asked reply h none = tally_refused old new asked reply h none
served_refused OfNone old new asked reply h none = absurd h

-- who was refused stops
pub refused_stops : (asked : Request) (reply : Reply) → is_refused asked reply ≡ true → is_stop asked reply ≡ true
refused_stops LookRound reply is = absurd (true≢false (sym is))
refused_stops LookLeft reply is = absurd (true≢false (sym is))
refused_stops asked reply is = ap (λ b. b || is_spent reply) is
