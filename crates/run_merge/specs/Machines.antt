-- Each object by itself: what a request makes of it.
use Rattle.std.specs.Prelude.{◌≡◌, ◌+◌, ◌<◌, ◌==◌, ◌++◌, if◌then◌else◌, ℕ, List, [], ◌∷◌, length, sum, filter}
use Rattle.elem_ledger.specs.Ledger.{LedgerId}
use Rattle.mempool_core.specs.Move.{PoolState, PoolMove, takes_ordinary, takes_spare, misses, gives, resizes, CanMove, after_move}
use Rattle.bio_records.specs.declared.bio.Pad.{Pad}
use Rattle.bio_records.specs.Items.{Item}
use Rattle.model_disks.specs.Disks.{DiskState}
use Rattle.model_disks.specs.Moves.{pushed, Completes}
use Rattle.bio_books.specs.Books.{BookState}
use Rattle.bio_books.specs.Drops.{Drops}
use Rattle.run_machine.specs.declared.event.Got.{Got}
use Rattle.run_machine.specs.declared.event.Got.TheVariants.{Ordinary, Spare}
use Rattle.run_machine.specs.declared.event.Got.TheVariants as got
use Rattle.run_machine.specs.Laws.{Object, OfPool, OfRescuer, OfDisk, OfBook, OfTally, OfNone, object_of}
use Rattle.run_machine.specs.Objects.{TallyState, OpensNode, clear_bio, clear_vector, clear_slip, done_one}
use Rattle.run_machine.specs.Requests.{Request, Reply, TakeBio, TakeVec, TakeSlip, GiveBio, GiveVec, GiveSlip, Punt, Pop, Push, Complete, Link, Drop, Done, Resize, NextRound, LookRound, LookLeft, HadBio, HadVec, HadSlip, Missed, Did, Popped, Completed, LinkedTo, DroppedTo, OutIs, Present, LeftOver, Nothing}
use Rattle.shared_objects.specs.Calls.{is_same_object}
use Rattle.run_merge.specs.Entries.{Entry}
use Rattle.run_merge.specs.ObjectsByName.{StateAt}

-- a pool can make this move, and made it
abbrev pub PoolGoes : PoolState → PoolMove → PoolState → Type 0
PoolGoes old move new = CanMove old move × (new ≡ after_move old move)

-- an element was had of a pool
abbrev pub PoolHas : PoolState → Got → PoolState → Type 0
PoolHas old Ordinary new = PoolGoes old takes_ordinary new
PoolHas old Spare new = PoolGoes old takes_spare new
PoolHas old got.Missed new = ⊥

-- a pool, whose elements are of this ledger
abbrev pub PoolMachine : LedgerId → PoolState → Request → Reply → PoolState → Type 0
PoolMachine ledger old (TakeBio set waits) (HadBio got bio) new = PoolHas old got new × (bio ≡ clear_bio ledger)
PoolMachine ledger old (TakeBio set waits) (Missed used) new = PoolGoes old (misses used) new
PoolMachine ledger old TakeVec (HadVec got vector) new = PoolHas old got new × (vector ≡ clear_vector ledger)
PoolMachine ledger old TakeVec (Missed used) new = PoolGoes old (misses used) new
PoolMachine ledger old (TakeSlip dev) (HadSlip got slip) new = PoolHas old got new × (slip ≡ clear_slip ledger)
PoolMachine ledger old (TakeSlip dev) (Missed used) new = PoolGoes old (misses used) new
PoolMachine ledger old (GiveBio bio) Did new = PoolGoes old gives new
PoolMachine ledger old (GiveVec vector) Did new = PoolGoes old gives new
PoolMachine ledger old (GiveSlip slip) Did new = PoolGoes old gives new
PoolMachine ledger old (Resize pool min) (OutIs out) new =
    (out ≡ old.facts.out) × (new ≡ (if out == 0 then after_move old (resizes min) else old))
PoolMachine ledger old request reply new = ⊥

-- the list of a rescuer
abbrev pub RescuerMachine : List (Item Pad) → Request → Reply → List (Item Pad) → Type 0
RescuerMachine old (Punt dev moved) Did new = new ≡ old ++ moved
RescuerMachine old (Pop dev) (Popped bio) new = old ≡ bio ∷ new
RescuerMachine old (Pop dev) Nothing new = (old ≡ []) × (new ≡ old)
RescuerMachine old request reply new = ⊥

abbrev pub DiskMachine : DiskState → Request → Reply → DiskState → Type 0
DiskMachine old (Push bio) Did new = new ≡ pushed bio old
DiskMachine old (Complete disk) (Completed index bio status) new = Completes old index bio status new
DiskMachine old (Complete disk) Nothing new = (old.pending ≡ []) × (new ≡ old)
DiskMachine old request reply new = ⊥

abbrev pub BookMachine : BookState → Request → Reply → BookState → Type 0
BookMachine old (Link writer opening) (LinkedTo answer) new = OpensNode old opening answer new
BookMachine old (Drop writer node status part) (DroppedTo ended) new = Drops old node status part ended new
BookMachine old request reply new = ⊥

abbrev pub TallyMachine : TallyState → Request → Reply → TallyState → Type 0
TallyMachine old (Done write status) Did new = new ≡ done_one write status old
TallyMachine old (NextRound round) Did new = (old.round + 1 < length old.left) × (new ≡ record old { round = old.round + 1 })
TallyMachine old LookRound (Present round) new = (round ≡ old.round) × (new ≡ old)
TallyMachine old LookLeft (LeftOver count) new = (count ≡ sum old.left) × (new ≡ old)
TallyMachine old request reply new = ⊥

-- what a request makes of the object of this name, with this reply
abbrev pub ServesAt : (ℕ → LedgerId) → (name : Object) → StateAt name → Request → Reply → StateAt name → Type 0
ServesAt ledger (OfPool number) old request reply new = PoolMachine (ledger number) old request reply new
ServesAt ledger (OfRescuer dev) old request reply new = RescuerMachine old request reply new
ServesAt ledger (OfDisk dev) old request reply new = DiskMachine old request reply new
ServesAt ledger (OfBook writer) old request reply new = BookMachine old request reply new
ServesAt ledger OfTally old request reply new = TallyMachine old request reply new
ServesAt ledger OfNone old request reply new = ⊥

-- these entries, one after the other, lead it on
abbrev pub LeadsObject : (ℕ → LedgerId) → (name : Object) → StateAt name → List Entry → StateAt name → Type 0
LeadsObject ledger name old [] new = new ≡ old
LeadsObject ledger name old (e ∷ es) new =
    (next : StateAt name) × ServesAt ledger name old e.asked e.reply next × LeadsObject ledger name next es new

-- the entries at it
abbrev pub entries_at : Object → List Entry → List Entry
entries_at name entries = filter (λ (e : Entry). is_same_object name (object_of e.asked)) entries
