-- A request is served by all objects as by the one that it is for.
use Rattle.std.proofs.Common.{◌≡◌, ◌==◌, ◌++◌, if◌then◌else◌, ℕ, Bool, true, false, List, ◌∷◌, refl, sym, ◌∙◌, ap, subst}
use Rattle.stack_base.specs.declared.ids.PoolId.TheVariants.{FsVecs, Records}
use Rattle.stack_base.specs.PoolId.{pool_number}
use Rattle.elem_ledger.specs.Ledger.{LedgerId}
use Rattle.mempool_core.specs.Move.{PoolState, PoolMove, takes_ordinary, takes_spare, misses, gives, resizes, after_move}
use Rattle.bio_records.specs.declared.bio.Pad.{Pad}
use Rattle.bio_records.specs.Items.{Item}
use Rattle.bioset_pools.specs.Sets.{bios_of}
use Rattle.model_disks.specs.Moves.{pushed, Completes}
use Rattle.bio_books.specs.Drops.{Drops}
use Rattle.run_machine.specs.declared.event.Got.{Got}
use Rattle.run_machine.specs.declared.event.Got.TheVariants.{Ordinary, Spare}
use Rattle.run_machine.specs.declared.event.Got.TheVariants as got
use Rattle.run_machine.specs.Laws.{Object, OfPool, OfRescuer, OfDisk, OfBook, OfTally, OfNone, object_of, with_object}
use Rattle.run_machine.specs.Maps.{upd}
use Rattle.run_machine.specs.Requests.{Request, Reply, TakeBio, TakeVec, TakeSlip, GiveBio, GiveVec, GiveSlip, Punt, Pop, Push, Complete, Link, Drop, Done, Resize, NextRound, LookRound, LookLeft, HadBio, HadVec, HadSlip, Missed, Did, Popped, Completed, LinkedTo, DroppedTo, OutIs, Present, LeftOver, Nothing}
use Rattle.run_machine.specs.Objects.{Objects, OpensNode, MovesPool, TakesElement, Serves}
use Rattle.run_machine.proofs.Frames.{upd_same, one_object_changes}
use Rattle.shared_objects.specs.Calls.{struck}
use Rattle.run_merge.specs.Machines.{PoolGoes, PoolHas, ServesAt}
use Rattle.run_merge.specs.ObjectsByName.{StateAt, object_named, put_object}
use Rattle.run_merge.proofs.products.ObjectNames.{named_put, put_named}

-- all objects but this one are as before
pub others_stay : (ledger : ℕ → LedgerId) (o : Objects) (request : Request) (reply : Reply) (new : Objects) → Serves ledger o request reply new
    → new ≡ put_object o (object_of request) (object_named new (object_of request))
others_stay ledger o request reply new serves = one_object_changes ledger o new request reply serves ∙ by_name (object_of request)
  where
    by_name : (name : Object) → with_object o new name ≡ put_object o name (object_named new name)
    by_name (OfPool number) = refl
    by_name (OfRescuer dev) = refl
    by_name (OfDisk dev) = refl
    by_name (OfBook writer) = refl
    by_name OfTally = refl
    by_name OfNone = refl

-- and this one goes on by its own machine
pool_goes : (o new : Objects) (number : ℕ) (move : PoolMove) → MovesPool o number move new → PoolGoes (o.pool number) move (new.pool number)
pool_goes o new number move (can, is) = (can, ap (λ (x : Objects). x.pool number) is ∙ upd_same o.pool number (after_move (o.pool number) move))

pool_has : (o new : Objects) (number : ℕ) (from : Got) → TakesElement o number from new → PoolHas (o.pool number) from (new.pool number)
pool_has o new number Ordinary h = pool_goes o new number takes_ordinary h
pool_has o new number Spare h = pool_goes o new number takes_spare h
pool_has o new number got.Missed h = absurd h

pool_resized : (o new : Objects) (number min : ℕ) (home : Bool)
    → new ≡ (if home then record o { pool = upd o.pool number (after_move (o.pool number) (resizes min)) } else o)
    → new.pool number ≡ (if home then after_move (o.pool number) (resizes min) else o.pool number)
pool_resized o new number min true is = ap (λ (x : Objects). x.pool number) is ∙ upd_same o.pool number (after_move (o.pool number) (resizes min))
pool_resized o new number min false is = ap (λ (x : Objects). x.pool number) is

pub serves_one : (ledger : ℕ → LedgerId) (o : Objects) (request : Request) (reply : Reply) (new : Objects) → Serves ledger o request reply new
    → ServesAt ledger (object_of request) (object_named o (object_of request)) request reply (object_named new (object_of request))
-- takes: the pool handed an element out, or missed
serves_one ledger o (TakeBio set waits) (HadBio from bio) new h = (pool_has o new (pool_number (bios_of set)) from h.0, h.1)
serves_one ledger o (TakeBio set waits) (Missed used) new h = pool_goes o new (pool_number (bios_of set)) (misses used) h
serves_one ledger o TakeVec (HadVec from vector) new h = (pool_has o new (pool_number FsVecs) from h.0, h.1)
serves_one ledger o TakeVec (Missed used) new h = pool_goes o new (pool_number FsVecs) (misses used) h
serves_one ledger o (TakeSlip dev) (HadSlip from slip) new h = (pool_has o new (pool_number (Records dev)) from h.0, h.1)
serves_one ledger o (TakeSlip dev) (Missed used) new h = pool_goes o new (pool_number (Records dev)) (misses used) h
-- gives: the pool of the element has it back
serves_one ledger o (GiveBio bio) Did new h = pool_goes o new bio.share.no gives h
serves_one ledger o (GiveVec vector) Did new h = pool_goes o new vector.share.no gives h
serves_one ledger o (GiveSlip slip) Did new h = pool_goes o new slip.share.no gives h
-- lists of rescuers: bios are put behind what waits, or the first one leaves
serves_one ledger o (Punt dev moved) Did new h = ap (λ (x : Objects). x.rescue dev.0) h ∙ upd_same o.rescue dev.0 (o.rescue dev.0 ++ moved)
serves_one ledger o (Pop dev) (Popped bio) new h = h.0
serves_one ledger o (Pop dev) Nothing new h = (h.0, ap (λ (x : Objects). x.rescue dev.0) h.1)
-- disks: a bio is pushed, or one that waits is completed
serves_one ledger o (Push bio) Did new h = ap (λ (x : Objects). x.disk bio.bio.dev.0) h ∙ upd_same o.disk bio.bio.dev.0 (pushed bio (o.disk bio.bio.dev.0))
serves_one ledger o (Complete disk) (Completed index bio status) new h = h.0
serves_one ledger o (Complete disk) Nothing new h = (h.0, ap (λ (x : Objects). x.disk disk.0) h.1)
-- books: a node is linked, or drops an end
serves_one ledger o (Link writer opening) (LinkedTo answer) new h = h.0
serves_one ledger o (Drop writer node status part) (DroppedTo ended) new h = h.0
-- ends of writes: the tally has one unfinished write less
serves_one ledger o (Done write status) Did new h = ap (λ (x : Objects). x.tally) h
-- resizes: the pool has its new reserve where nothing of it is out
serves_one ledger o (Resize pool min) (OutIs out) new h = (h.0, pool_resized o new (pool_number pool) min (out == 0) h.1)
-- rounds and looks: the tally alone is asked
serves_one ledger o (NextRound round) Did new h = (h.0, ap (λ (x : Objects). x.tally) h.1)
serves_one ledger o LookRound (Present round) new h = (h.0, ap (λ (x : Objects). x.tally) h.1)
serves_one ledger o LookLeft (LeftOver count) new h = (h.0, ap (λ (x : Objects). x.tally) h.1)
-- nothing else is served
serves_one ledger o request reply new h = absurd h

-- the other way: where the one goes on, all do
all_have : (o : Objects) (number : ℕ) (from : Got) (v : PoolState) → PoolHas (o.pool number) from v → TakesElement o number from (put_object o (OfPool number) v)
all_have o number Ordinary v h = (h.0, ap (put_object o (OfPool number)) h.1)
all_have o number Spare v h = (h.0, ap (put_object o (OfPool number)) h.1)
all_have o number got.Missed v h = absurd h

all_resized : (o : Objects) (number min : ℕ) (home : Bool) → put_object o (OfPool number) (if home then after_move (o.pool number) (resizes min) else o.pool number)
    ≡ (if home then put_object o (OfPool number) (after_move (o.pool number) (resizes min)) else o)
all_resized o number min true = refl
all_resized o number min false = put_named o (OfPool number)

put_same : (o : Objects) (name : Object) (v : StateAt name) → v ≡ object_named o name → put_object o name v ≡ o
put_same o name v is = ap (put_object o name) is ∙ put_named o name

pub serves_all : (ledger : ℕ → LedgerId) (o : Objects) (request : Request) (reply : Reply) (v : StateAt (object_of request))
    → ServesAt ledger (object_of request) (object_named o (object_of request)) request reply v → Serves ledger o request reply (put_object o (object_of request) v)
-- takes: the pool handed an element out, or missed
serves_all ledger o (TakeBio set waits) (HadBio from bio) v h = (all_have o (pool_number (bios_of set)) from v h.0, h.1)
serves_all ledger o (TakeBio set waits) (Missed used) v h = (h.0, ap (put_object o (OfPool (pool_number (bios_of set)))) h.1)
serves_all ledger o TakeVec (HadVec from vector) v h = (all_have o (pool_number FsVecs) from v h.0, h.1)
serves_all ledger o TakeVec (Missed used) v h = (h.0, ap (put_object o (OfPool (pool_number FsVecs))) h.1)
serves_all ledger o (TakeSlip dev) (HadSlip from slip) v h = (all_have o (pool_number (Records dev)) from v h.0, h.1)
serves_all ledger o (TakeSlip dev) (Missed used) v h = (h.0, ap (put_object o (OfPool (pool_number (Records dev)))) h.1)
-- gives: the pool of the element has it back
serves_all ledger o (GiveBio bio) Did v h = (h.0, ap (put_object o (OfPool bio.share.no)) h.1)
serves_all ledger o (GiveVec vector) Did v h = (h.0, ap (put_object o (OfPool vector.share.no)) h.1)
serves_all ledger o (GiveSlip slip) Did v h = (h.0, ap (put_object o (OfPool slip.share.no)) h.1)
-- lists of rescuers: bios are put behind what waits, or the first one leaves
serves_all ledger o (Punt dev moved) Did v h = ap (put_object o (OfRescuer dev.0)) h
serves_all ledger o (Pop dev) (Popped bio) v h =
    let p = named_put o (OfRescuer dev.0) v in (h ∙ ap (λ (x : List (Item Pad)). bio ∷ x) (sym p), ap (put_object o (OfRescuer dev.0)) (sym p))
serves_all ledger o (Pop dev) Nothing v h = (h.0, put_same o (OfRescuer dev.0) v h.1)
-- disks: a bio is pushed, or one that waits is completed
serves_all ledger o (Push bio) Did v h = ap (put_object o (OfDisk bio.bio.dev.0)) h
serves_all ledger o (Complete disk) (Completed index bio status) v h =
    let p = named_put o (OfDisk disk.0) v in (subst (Completes (o.disk disk.0) index bio status) (sym p) h, ap (put_object o (OfDisk disk.0)) (sym p))
serves_all ledger o (Complete disk) Nothing v h = (h.0, put_same o (OfDisk disk.0) v h.1)
-- books: a node is linked, or drops an end
serves_all ledger o (Link writer opening) (LinkedTo answer) v h =
    let p = named_put o (OfBook writer) v in (subst (OpensNode (o.book writer) opening answer) (sym p) h, ap (put_object o (OfBook writer)) (sym p))
serves_all ledger o (Drop writer node status part) (DroppedTo ended) v h =
    let p = named_put o (OfBook writer) v in (subst (Drops (o.book writer) node status part ended) (sym p) h, ap (put_object o (OfBook writer)) (sym p))
-- ends of writes: the tally has one unfinished write less
serves_all ledger o (Done write status) Did v h = ap (put_object o OfTally) h
-- resizes: the pool has its new reserve where nothing of it is out
serves_all ledger o (Resize pool min) (OutIs out) v h = (h.0, ap (put_object o (OfPool (pool_number pool))) h.1 ∙ all_resized o (pool_number pool) min (out == 0))
-- rounds and looks: the tally alone is asked
serves_all ledger o (NextRound round) Did v h = (h.0, ap (put_object o OfTally) h.1)
serves_all ledger o LookRound (Present round) v h = (h.0, put_same o OfTally v h.1)
serves_all ledger o LookLeft (LeftOver count) v h = (h.0, put_same o OfTally v h.1)
-- nothing else is served
serves_all ledger o request reply v h = absurd h

-- what is struck out of a request is seen by no object
pub struck_serves : (ledger : ℕ → LedgerId) (o : Objects) (request : Request) (reply : Reply) (new : Objects) → Serves ledger o (struck request) reply new → Serves ledger o request reply new
-- gives: the body is struck out
struck_serves ledger o (GiveBio bio) Did new h = h
struck_serves ledger o (GiveBio bio) reply new h = absurd h
struck_serves ledger o (GiveVec vector) Did new h = h
struck_serves ledger o (GiveVec vector) reply new h = absurd h
struck_serves ledger o (GiveSlip slip) Did new h = h
struck_serves ledger o (GiveSlip slip) reply new h = absurd h
-- rounds: the number is struck out
struck_serves ledger o (NextRound round) Did new h = h
struck_serves ledger o (NextRound round) reply new h = absurd h
-- from all others nothing is struck out
struck_serves ledger o request reply new h = h

pub serves_struck : (ledger : ℕ → LedgerId) (o : Objects) (request : Request) (reply : Reply) (new : Objects) → Serves ledger o request reply new → Serves ledger o (struck request) reply new
-- gives: the body is struck out
serves_struck ledger o (GiveBio bio) Did new h = h
serves_struck ledger o (GiveBio bio) reply new h = absurd h
serves_struck ledger o (GiveVec vector) Did new h = h
serves_struck ledger o (GiveVec vector) reply new h = absurd h
serves_struck ledger o (GiveSlip slip) Did new h = h
serves_struck ledger o (GiveSlip slip) reply new h = absurd h
-- rounds: the number is struck out
serves_struck ledger o (NextRound round) Did new h = h
serves_struck ledger o (NextRound round) reply new h = absurd h
-- from all others nothing is struck out
serves_struck ledger o request reply new h = h
