-- The objects, and what each request makes of one of them.
use Rattle.std.specs.Prelude.{◌≡◌, ◌+◌, ◌-◌, ◌<◌, ◌==◌, ◌++◌, if◌then◌else◌, ℕ, List, [], ◌∷◌, length, sum, slice_set, slice_index_or}
use Rattle.stack_base.specs.declared.ids.PoolId.TheVariants.{FsVecs, Records}
use Rattle.stack_base.specs.declared.ids.Status.{Status}
use Rattle.stack_base.specs.PoolId.{pool_number}
use Rattle.elem_ledger.specs.Ledger.{LedgerId}
use Rattle.mempool_core.specs.Move.{PoolState, PoolMove, takes_ordinary, takes_spare, misses, gives, resizes, CanMove, after_move}
use Rattle.bio_records.specs.declared.bio.Pad.{Pad}
use Rattle.bio_records.specs.Items.{Item}
use Rattle.bio_records.specs.Clear.{no_bio}
use Rattle.bioset_pools.specs.Sets.{bios_of}
use Rattle.model_disks.specs.Disks.{DiskState}
use Rattle.model_disks.specs.Moves.{pushed, Completes}
use Rattle.bio_books.specs.Books.{VectorItem, SlipItem, BookState}
use Rattle.bio_books.specs.Links.{Linked, Opens, Chains, Masters, Legs}
use Rattle.bio_books.specs.Drops.{Drops}
use Rattle.run_machine.specs.declared.event.Got.{Got}
use Rattle.run_machine.specs.declared.event.Got.TheVariants.{Ordinary, Spare}
use Rattle.run_machine.specs.declared.event.Got.TheVariants as got
use Rattle.run_machine.specs.Maps.{upd}
use Rattle.run_machine.specs.Requests.{Request, Reply, Opening, Write, Chain, Master, Leg, TakeBio, TakeVec, TakeSlip, GiveBio, GiveVec, GiveSlip, Punt, Pop, Push, Complete, Link, Drop, Done, Resize, NextRound, LookRound, LookLeft, HadBio, HadVec, HadSlip, Missed, Did, Popped, Completed, LinkedTo, DroppedTo, OutIs, Present, LeftOver, Nothing}

-- the present round, how many writes of each round are unfinished, and the status of each write that is done
pub record TallyState : Type 0 where
  pub round : ℕ
  pub left : List ℕ
  pub statuses : List Status

-- pools by their numbers, the bios that wait for rescuers and the disks by devices, books by their writers
pub record Objects : Type 0 where
  pub pool : ℕ → PoolState
  pub rescue : ℕ → List (Item Pad)
  pub disk : ℕ → DiskState
  pub book : ℕ → BookState
  pub tally : TallyState

-- a pool makes a move
abbrev pub MovesPool : Objects → ℕ → PoolMove → Objects → Type 0
MovesPool old number move new =
    CanMove (old.pool number) move × (new ≡ record old { pool = upd old.pool number (after_move (old.pool number) move) })

-- a take that had an element, from ordinary memory or from the spares (`mempool_alloc`, mm/mempool.c)
abbrev pub TakesElement : Objects → ℕ → Got → Objects → Type 0
TakesElement old number Ordinary new = MovesPool old number takes_ordinary new
TakesElement old number Spare new = MovesPool old number takes_spare new
TakesElement old number got.Missed new = ⊥

-- elements as pools hand them out
abbrev pub clear_bio : LedgerId → Item Pad
clear_bio share = record { pad = record { leg = 0 }; bio = no_bio; short = []; share = share }

abbrev pub clear_vector : LedgerId → VectorItem
clear_vector share = record { segments = []; share = share }

abbrev pub clear_slip : LedgerId → SlipItem
clear_slip share = record { legs = 0; share = share }

-- a node is opened, or is not, in the book of a writer
abbrev pub OpensNode : BookState → Opening → Linked → BookState → Type 0
OpensNode old (Write write vector) answer new = Opens old write vector answer new
OpensNode old (Chain parent) answer new = Chains old parent answer new
OpensNode old (Master parent part slip legs) answer new = Masters old parent part slip legs answer new
OpensNode old (Leg master) answer new = Legs old master answer new

-- a write of the present round is done
abbrev pub done_one : ℕ → Status → TallyState → TallyState
done_one write status tally = record tally {
  left = slice_set tally.left tally.round (slice_index_or tally.left tally.round 0 - 1);
  statuses = slice_set tally.statuses write status;
}

-- What a request makes of the objects, with this reply, where the elements of each pool are of this ledger. All but one object are as before.
abbrev pub Serves : (ℕ → LedgerId) → Objects → Request → Reply → Objects → Type 0
-- takes (`mempool_alloc`, mm/mempool.c): an element with an empty body, or a miss
Serves ledger old (TakeBio set waits) (HadBio got bio) new =
    TakesElement old (pool_number (bios_of set)) got new × (bio ≡ clear_bio (ledger (pool_number (bios_of set))))
Serves ledger old (TakeBio set waits) (Missed used) new = MovesPool old (pool_number (bios_of set)) (misses used) new
Serves ledger old TakeVec (HadVec got vector) new = TakesElement old (pool_number FsVecs) got new × (vector ≡ clear_vector (ledger (pool_number FsVecs)))
Serves ledger old TakeVec (Missed used) new = MovesPool old (pool_number FsVecs) (misses used) new
Serves ledger old (TakeSlip dev) (HadSlip got slip) new =
    TakesElement old (pool_number (Records dev)) got new × (slip ≡ clear_slip (ledger (pool_number (Records dev))))
Serves ledger old (TakeSlip dev) (Missed used) new = MovesPool old (pool_number (Records dev)) (misses used) new
-- gives (`mempool_free`): an element goes to the pool that its share is of
Serves ledger old (GiveBio bio) Did new = MovesPool old bio.share.no gives new
Serves ledger old (GiveVec vector) Did new = MovesPool old vector.share.no gives new
Serves ledger old (GiveSlip slip) Did new = MovesPool old slip.share.no gives new
-- the list of a rescuer (`punt_bios_to_rescuer` and `bio_alloc_rescue`, block/bio.c)
Serves ledger old (Punt dev moved) Did new = new ≡ record old { rescue = upd old.rescue dev.0 (old.rescue dev.0 ++ moved) }
Serves ledger old (Pop dev) (Popped bio) new =
    (old.rescue dev.0 ≡ bio ∷ new.rescue dev.0) × (new ≡ record old { rescue = upd old.rescue dev.0 (new.rescue dev.0) })
Serves ledger old (Pop dev) Nothing new = (old.rescue dev.0 ≡ []) × (new ≡ old)
-- disks
Serves ledger old (Push bio) Did new = new ≡ record old { disk = upd old.disk bio.bio.dev.0 (pushed bio (old.disk bio.bio.dev.0)) }
Serves ledger old (Complete disk) (Completed index bio status) new =
    Completes (old.disk disk.0) index bio status (new.disk disk.0) × (new ≡ record old { disk = upd old.disk disk.0 (new.disk disk.0) })
Serves ledger old (Complete disk) Nothing new = ((old.disk disk.0).pending ≡ []) × (new ≡ old)
-- books (`bio_chain`, `bio_endio`, block/bio.c)
Serves ledger old (Link writer opening) (LinkedTo answer) new =
    OpensNode (old.book writer) opening answer (new.book writer) × (new ≡ record old { book = upd old.book writer (new.book writer) })
Serves ledger old (Drop writer node status part) (DroppedTo ended) new =
    Drops (old.book writer) node status part ended (new.book writer) × (new ≡ record old { book = upd old.book writer (new.book writer) })
-- the tally
Serves ledger old (Done write status) Did new = new ≡ record old { tally = done_one write status old.tally }
Serves ledger old (NextRound round) Did new =
    (old.tally.round + 1 < length old.tally.left) × (new ≡ record old { tally = record old.tally { round = old.tally.round + 1 } })
Serves ledger old LookRound (Present round) new = (round ≡ old.tally.round) × (new ≡ old)
Serves ledger old LookLeft (LeftOver count) new = (count ≡ sum old.tally.left) × (new ≡ old)
-- a reserve changes where nothing is out (`mempool_resize`, mm/mempool.c)
Serves ledger old (Resize pool min) (OutIs out) new =
    (out ≡ (old.pool (pool_number pool)).facts.out)
    × (new ≡ (if out == 0 then record old { pool = upd old.pool (pool_number pool) (after_move (old.pool (pool_number pool)) (resizes min)) } else old))
Serves ledger old request reply new = ⊥
