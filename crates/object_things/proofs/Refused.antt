-- What was served and is no event was refused, and changed nothing.
use Rattle.std.proofs.Common.{◌≡◌, ◌⊎◌, ◌<◌, ◌==◌, ℕ, Bool, true, false, inl, inr, Option, Some, None, refl, sym, ap, subst}
use Rattle.std.specs.Option.{is_some}
use Rattle.std.proofs.lemmas.Bool.{true≢false}
use Rattle.bio_books.specs.Books.{BookState, Node, node_at}
use Rattle.bio_books.specs.Drops.{DropsAt}
use Rattle.bio_books.specs.Drops as end
use Rattle.bio_books.specs.Links.{Linked, Made, NoRoom, Stray, ChainsAt, MastersAt, LegsAt}
use Rattle.bio_records.specs.Rescue.{Rescue}
use Rattle.bio_records.specs.declared.bio.Pad.{Pad}
use Rattle.bio_records.specs.Items.{Item}
use Rattle.bio_books.specs.Books.{SlipItem}
use Rattle.model_disks.specs.Disks.{DiskState}
use Rattle.mempool_core.specs.Move.{resizes}
use Rattle.mempool_core.specs.Pool.{LedgerPool, PoolMoves}
use Rattle.stack_base.specs.declared.ids.PoolId.{PoolId}
use Rattle.stack_base.specs.declared.ids.Status.{Status}
use Rattle.run_machine.specs.declared.event.What.{What}
use Rattle.run_machine.specs.Events.{miss_of, resize_of, what_of}
use Rattle.run_machine.specs.Objects.{TallyState, OpensNode}
use Rattle.run_machine.specs.Requests.{Request, Reply, Opening, Write, Chain, Master, Leg, TakeBio, TakeVec, TakeSlip, GiveBio, GiveVec, GiveSlip, Punt, Pop, Push, Complete, Link, Drop, Done, Resize, NextRound, HadBio, HadVec, HadSlip, Missed, Did, Popped, Completed, LinkedTo, DroppedTo, OutIs}
use Rattle.object_things.specs.Books.{BookServes}
use Rattle.object_things.specs.Disks.{DiskServes}
use Rattle.object_things.specs.Lists.{ListServes}
use Rattle.object_things.specs.Pools.{PoolServes}
use Rattle.object_things.specs.Tallies.{TallyServes}

-- it is an event
wrong : {X : Type 0} {what : What} → Some what ≡ None → X
wrong none = absurd (true≢false (ap is_some none))

miss_told : {X : Type 0} (waits used : Bool) (pool : PoolId) → (waits ≡ true → used ≡ true) → miss_of waits used pool ≡ None → X
miss_told true true pool told none = wrong none
miss_told true false pool told none = absurd (true≢false (sym (told refl)))
miss_told false used pool told none = wrong none

out_stays : (old new : LedgerPool) (pool : PoolId) (min out : ℕ) → ((out ≡ 0) × PoolMoves old (resizes min) new) ⊎ ((0 < out) × (new ≡ old)) → resize_of (out == 0) pool min ≡ None
    → new ≡ old
out_stays old new pool min out (inr (some, same)) none = same
out_stays old new pool min out (inl (zero, moves)) none = wrong (subst (λ n. resize_of (n == 0) pool min ≡ None) zero none)

pub pool_stays : (old new : LedgerPool) (asked : Request) (reply : Reply) → PoolServes old asked reply new → what_of asked reply ≡ None → new ≡ old
-- takes: what is served is an event, an element that was handed out or a miss
pool_stays old new (TakeBio set waits) (HadBio from bio) h none = wrong none
pool_stays old new (TakeBio set waits) (Missed used) h none = miss_told waits used _ h.1 none
pool_stays old new TakeVec (HadVec from vector) h none = wrong none
pool_stays old new TakeVec (Missed used) h none = miss_told true used _ h.1 none
pool_stays old new (TakeSlip dev) (HadSlip from slip) h none = wrong none
pool_stays old new (TakeSlip dev) (Missed used) h none = miss_told true used _ h.1 none
-- gives are events
pool_stays old new (GiveBio bio) Did h none = wrong none
pool_stays old new (GiveVec vector) Did h none = wrong none
pool_stays old new (GiveSlip slip) Did h none = wrong none
-- a resize that found elements out changed nothing
pool_stays old new (Resize pool min) (OutIs out) h none = out_stays old new pool min out h.1 none
-- a pool serves nothing else
pool_stays old new asked reply h none = absurd h

pub list_stays : (old new : Rescue) (asked : Request) (reply : Reply) → ListServes old asked reply new → what_of asked reply ≡ None → new ≡ old
list_stays old new (Punt other moved) Did h none = wrong none
list_stays old new (Pop other) (Popped bio) h none = wrong none
list_stays old new asked reply h none = absurd h

pub disk_stays : (old new : DiskState) (asked : Request) (reply : Reply) → DiskServes old asked reply new → what_of asked reply ≡ None → new ≡ old
disk_stays old new (Push bio) Did h none = wrong none
disk_stays old new (Complete disk) (Completed index bio status) h none = wrong none
disk_stays old new asked reply h none = absurd h

-- no node was opened
abbrev IsUnmade : Linked → Type 0
IsUnmade (Made place) = ⊥
IsUnmade (NoRoom back) = Unit {0}
IsUnmade (Stray back) = Unit {0}

chain_stays : (old new : BookState) (parent : ℕ) (node : Option Node) (answer : Linked) → IsUnmade answer → ChainsAt old parent node answer new → new ≡ old
chain_stays old new parent (Some node) (NoRoom back) un h = h.2
chain_stays old new parent None (Stray back) un h = h.1
chain_stays old new parent (Some node) (Stray back) un h = absurd h
chain_stays old new parent None (NoRoom back) un h = absurd h
chain_stays old new parent node (Made place) un h = absurd un

master_stays : (old new : BookState) (parent : ℕ) (node : Option Node) (part : Item Pad) (slip : SlipItem) (legs : ℕ) (answer : Linked) → IsUnmade answer → MastersAt old parent node part slip legs answer new
    → new ≡ old
master_stays old new parent (Some node) part slip legs (NoRoom back) un h = h.2
master_stays old new parent None part slip legs (Stray back) un h = h.1
master_stays old new parent (Some node) part slip legs (Stray back) un h = absurd h
master_stays old new parent None part slip legs (NoRoom back) un h = absurd h
master_stays old new parent node part slip legs (Made place) un h = absurd un

leg_stays : (old new : BookState) (master : ℕ) (node : Option Node) (answer : Linked) → IsUnmade answer → LegsAt old master node answer new → new ≡ old
leg_stays old new master (Some node) (NoRoom back) un h = h.2
leg_stays old new master None (Stray back) un h = h.1
leg_stays old new master (Some node) (Stray back) un h = absurd h
leg_stays old new master None (NoRoom back) un h = absurd h
leg_stays old new master node (Made place) un h = absurd un

link_stays : (old new : BookState) (opening : Opening) (answer : Linked) → IsUnmade answer → OpensNode old opening answer new → new ≡ old
link_stays old new (Write write vector) (NoRoom back) un h = h.2
link_stays old new (Write write vector) (Stray back) un h = absurd h
link_stays old new (Write write vector) (Made place) un h = absurd un
link_stays old new (Chain parent) answer un h = chain_stays old new parent (node_at old parent) answer un h
link_stays old new (Master parent part slip legs) answer un h = master_stays old new parent (node_at old parent) part slip legs answer un h
link_stays old new (Leg master) answer un h = leg_stays old new master (node_at old master) answer un h

drop_stays : (old new : BookState) (place : ℕ) (node : Option Node) (status : Status) (part back : Option (Item Pad)) → DropsAt old place node status part (end.Stray back) new → new ≡ old
drop_stays old new place None status part back h = h.1
drop_stays old new place (Some node) status part back h = absurd h

pub book_stays : (old new : BookState) (asked : Request) (reply : Reply) → BookServes old asked reply new → what_of asked reply ≡ None → new ≡ old
-- links: one that opened no node changed nothing
book_stays old new (Link writer opening) (LinkedTo (Made place)) h none = wrong none
book_stays old new (Link writer opening) (LinkedTo (NoRoom back)) h none = link_stays old new opening (NoRoom back) tt h.1
book_stays old new (Link writer opening) (LinkedTo (Stray back)) h none = link_stays old new opening (Stray back) tt h.1
-- drops: one at no node changed nothing
book_stays old new (Drop writer place status part) (DroppedTo end.Left) h none = wrong none
book_stays old new (Drop writer place status part) (DroppedTo (end.Up closed)) h none = wrong none
book_stays old new (Drop writer place status part) (DroppedTo (end.Top closed)) h none = wrong none
book_stays old new (Drop writer place status part) (DroppedTo (end.Stray back)) h none = drop_stays old new place (node_at old place) status part back h.1
-- a book serves nothing else
book_stays old new asked reply h none = absurd h

pub tally_stays : (old new : TallyState) (asked : Request) (reply : Reply) → TallyServes old asked reply new → what_of asked reply ≡ None → new ≡ old
tally_stays old new (Done write status) Did h none = wrong none
tally_stays old new (NextRound round) Did h none = wrong none
tally_stays old new asked reply h none = absurd h
