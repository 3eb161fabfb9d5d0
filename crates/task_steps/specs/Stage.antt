-- What the objects of a run are: which there are, of which ledgers their elements are, and what each call of them may be handed and hands out.
use Rattle.std.specs.Prelude.{◌≡◌, ◌/◌, ◌%◌, ◌<◌, ◌≤◌, ◌==◌, ◌&&◌, ◌||◌, ℕ, Bool, true, nat_lt, IsTrue, All, List, Option, None, Some}
use Rattle.elem_ledger.specs.Ledger.{LedgerId}
use Rattle.stack_base.specs.declared.ids.DevId.{DevId}
use Rattle.stack_base.specs.declared.ids.PoolId.{PoolId}
use Rattle.stack_base.specs.declared.ids.PoolId.TheVariants.{FsBios, FsVecs, Bios, Records}
use Rattle.stack_base.specs.declared.ids.SetId.{SetId}
use Rattle.stack_base.specs.declared.ids.SetId.TheVariants.{Fs, Of}
use Rattle.stack_base.specs.PoolId.{pool_number}
use Rattle.bio_records.specs.declared.bio.Pad.{Pad}
use Rattle.bio_records.specs.Items.{Item}
use Rattle.bioset_pools.specs.Sets.{bios_of}
use Rattle.bio_books.specs.Books.{VectorItem, SlipItem, Holding}
use Rattle.bio_books.specs.Drops.{Closed, DropOutcome}
use Rattle.bio_books.specs.Drops as end
use Rattle.bio_books.specs.Links.{Linked, Made, NoRoom, Stray}
use Rattle.run_machine.specs.Scene.{is_device, is_disk, has_set, is_mirror}
use Rattle.run_machine.specs.Requests.{Request, Reply, Opening, Write, Chain, Master, Leg, TakeBio, TakeVec, TakeSlip, GiveBio, GiveVec, GiveSlip, Punt, Pop, Push, Complete, Link, Drop, Done, Resize, NextRound, LookRound, LookLeft, HadBio, HadVec, HadSlip, Missed, Did, Popped, Completed, LinkedTo, DroppedTo, OutIs, Present, LeftOver, Nothing, NoTicket}
use Rattle.task_steps.specs.Within.{IsWithinDevice}
use Rattle.task_steps.specs.Routed.{Routing, places_at, routing_setup}

-- a stack with the places of each writer's book, how many writes there are, the ledger of each pool and the most that its reserve may be, by
-- the pool's number
pub record Stage : Type 0 where
  pub routing : Routing
  pub writes : ℕ
  pub ledger : ℕ → LedgerId
  pub most : ℕ → ℕ

-- which objects there are, by the routing alone
-- a writer with a write has a book, with a place for the write's node at least
abbrev pub has_book_in : Routing → ℕ → Bool
has_book_in routing writer = nat_lt 0 (places_at routing.places writer)

abbrev pub has_rescuer_in : Routing → ℕ → Bool
has_rescuer_in routing dev = is_device (routing_setup routing) dev && (routing_setup routing).rescuer dev

abbrev pub has_disk_in : Routing → ℕ → Bool
has_disk_in routing = is_disk (routing_setup routing)

abbrev pub has_mirror_in : Routing → ℕ → Bool
has_mirror_in routing dev = is_device (routing_setup routing) dev && is_mirror ((routing_setup routing).tree dev)

-- and the same of the objects of a run
abbrev pub has_book : Stage → ℕ → Bool
has_book stage writer = has_book_in stage.routing writer

abbrev pub has_rescuer : Stage → DevId → Bool
has_rescuer stage dev = has_rescuer_in stage.routing dev.0

abbrev pub has_disk : Stage → DevId → Bool
has_disk stage dev = has_disk_in stage.routing dev.0

abbrev pub has_mirror : Stage → DevId → Bool
has_mirror stage dev = has_mirror_in stage.routing dev.0

-- the writers have a set, and so has each device but a disk
abbrev pub is_set : Stage → SetId → Bool
is_set stage Fs = true
is_set stage (Of dev) = has_set (routing_setup stage.routing) dev.0

abbrev pub is_pool : Stage → PoolId → Bool
is_pool stage FsBios = true
is_pool stage FsVecs = true
is_pool stage (Bios dev) = has_set (routing_setup stage.routing) dev.0
is_pool stage (Records dev) = has_mirror stage dev

-- the numbers of the pools of bios, of vectors and of records
abbrev pub is_bios : Stage → ℕ → Bool
is_bios stage number = number == 65 || number % 2 == 0 && has_set (routing_setup stage.routing) (number / 2)

abbrev pub is_vecs : Stage → ℕ → Bool
is_vecs stage number = number == 64

abbrev pub is_slips : Stage → ℕ → Bool
is_slips stage number = number % 2 == 1 && has_mirror stage (record { 0 = number / 2 })

-- An element is at home in these objects: its share is of the ledger that they have for its number, which is that of a pool of its kind.
pub record IsHome (stage : Stage) (is_kind : Stage → ℕ → Bool) (share : LedgerId) : Type 0 where
  pub ledger : share ≡ stage.ledger share.no
  pub kind : IsTrue (is_kind stage share.no)

-- and it is of the pool of this number, as one that was taken there
pub record IsHomeInPool (stage : Stage) (is_kind : Stage → ℕ → Bool) (number : ℕ) (share : LedgerId) : Type 0 where
  pub numbered : share.no ≡ number
  pub home : IsHome stage is_kind share

abbrev pub IsBioHome : Stage → Option (Item Pad) → Type 0
IsBioHome stage None = Unit {0}
IsBioHome stage (Some bio) = IsHome stage is_bios bio.share

abbrev pub IsVecHome : Stage → Option VectorItem → Type 0
IsVecHome stage None = Unit {0}
IsVecHome stage (Some vector) = IsHome stage is_vecs vector.share

abbrev pub IsSlipHome : Stage → Option SlipItem → Type 0
IsSlipHome stage None = Unit {0}
IsSlipHome stage (Some slip) = IsHome stage is_slips slip.share

-- all that a node keeps
pub record HoldsHome (stage : Stage) (held : Holding) : Type 0 where
  pub bio : IsBioHome stage held.bio
  pub vector : IsVecHome stage held.vector
  pub slip : IsSlipHome stage held.slip

-- A bio that can be served: it lies within a device of the stack and is of a writer with a book, and its element is at home.
pub record IsServed (stage : Stage) (item : Item Pad) : Type 0 where
  pub within : IsWithinDevice stage.routing.stack item.bio
  pub writer : IsTrue (has_book stage item.bio.writer)
  pub home : IsHome stage is_bios item.share

abbrev pub AreServed : Stage → List (Item Pad) → Type 0
AreServed stage items = All (IsServed stage) items

-- what a node may be opened for
abbrev pub OpeningFits : Stage → Opening → Type 0
OpeningFits stage (Write write vector) = (write < stage.writes) × IsVecHome stage vector
OpeningFits stage (Chain parent) = Unit {0}
OpeningFits stage (Master parent part slip legs) = (1 ≤ legs) × IsHome stage is_bios part.share × IsHome stage is_slips slip.share
OpeningFits stage (Leg master) = Unit {0}

-- What these objects may be asked for: it names what there is of them, and what it hands over is at home in them.
abbrev pub RequestFits : Stage → Request → Type 0
RequestFits stage (TakeBio set waits) = IsTrue (is_set stage set)
RequestFits stage (TakeSlip dev) = IsTrue (has_mirror stage dev)
RequestFits stage (GiveBio bio) = IsHome stage is_bios bio.share
RequestFits stage (GiveVec vector) = IsHome stage is_vecs vector.share
RequestFits stage (GiveSlip slip) = IsHome stage is_slips slip.share
RequestFits stage (Punt dev moved) = IsTrue (has_rescuer stage dev) × AreServed stage moved
RequestFits stage (Pop dev) = IsTrue (has_rescuer stage dev)
RequestFits stage (Push bio) = IsServed stage bio × IsTrue (has_disk stage bio.bio.dev)
RequestFits stage (Complete disk) = IsTrue (has_disk stage disk)
RequestFits stage (Link writer opening) = IsTrue (has_book stage writer) × OpeningFits stage opening
RequestFits stage (Drop writer node status part) = IsTrue (has_book stage writer) × IsBioHome stage part
RequestFits stage (Done write status) = write < stage.writes
RequestFits stage (Resize pool min) = IsTrue (is_pool stage pool) × (1 ≤ min) × (min ≤ stage.most (pool_number pool))
RequestFits stage request = Unit {0}

abbrev pub LinkFits : Stage → Linked → Type 0
LinkFits stage (Made node) = Unit {0}
LinkFits stage (NoRoom back) = HoldsHome stage back
LinkFits stage (Stray back) = HoldsHome stage back

-- a closed node: what it kept is at home, and where it has no parent its write is one of the scenario
abbrev pub TopFits : Stage → ℕ → Option ℕ → Type 0
TopFits stage write None = write < stage.writes
TopFits stage write (Some parent) = Unit {0}

pub record ClosedFits (stage : Stage) (closed : Closed) : Type 0 where
  pub held : HoldsHome stage closed.held
  pub top : TopFits stage closed.write closed.parent

abbrev pub DropFits : Stage → DropOutcome → Type 0
DropFits stage end.Left = Unit {0}
DropFits stage (end.Up closed) = ClosedFits stage closed
DropFits stage (end.Top closed) = ClosedFits stage closed
DropFits stage (end.Stray part) = IsBioHome stage part

-- What they owe for it: a reply that answers it, and that nothing could be done for want of a ticket is one. What they hand out is at home in
-- them too, and what was taken is of the pool that was named.
abbrev pub Owes : Stage → Request → Reply → Type 0
Owes stage request NoTicket = Unit {0}
Owes stage (TakeBio set waits) (HadBio got bio) = IsHomeInPool stage is_bios (pool_number (bios_of set)) bio.share
Owes stage (TakeBio set waits) (Missed used) = Unit {0}
Owes stage TakeVec (HadVec got vector) = IsHomeInPool stage is_vecs (pool_number FsVecs) vector.share
Owes stage TakeVec (Missed used) = Unit {0}
Owes stage (TakeSlip dev) (HadSlip got slip) = IsHomeInPool stage is_slips (pool_number (Records dev)) slip.share
Owes stage (TakeSlip dev) (Missed used) = Unit {0}
Owes stage (GiveBio bio) Did = Unit {0}
Owes stage (GiveVec vector) Did = Unit {0}
Owes stage (GiveSlip slip) Did = Unit {0}
Owes stage (Punt dev moved) Did = Unit {0}
Owes stage (Pop dev) (Popped bio) = IsServed stage bio
Owes stage (Pop dev) Nothing = Unit {0}
Owes stage (Push bio) Did = Unit {0}
Owes stage (Complete disk) (Completed index bio status) = IsServed stage bio × (bio.bio.dev ≡ disk)
Owes stage (Complete disk) Nothing = Unit {0}
Owes stage (Link writer opening) (LinkedTo answer) = LinkFits stage answer
Owes stage (Drop writer node status part) (DroppedTo ended) = DropFits stage ended
Owes stage (Done write status) Did = Unit {0}
Owes stage (Resize pool min) (OutIs out) = Unit {0}
Owes stage (NextRound round) Did = Unit {0}
Owes stage LookRound (Present round) = Unit {0}
Owes stage LookLeft (LeftOver count) = Unit {0}
Owes stage request reply = ⊥
