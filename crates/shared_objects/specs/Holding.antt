-- What holds of the locks of a run, and of the seats that a task has of them.
use Rattle.std.specs.Prelude.{◌≡◌, ◌<◌, ◌==◌, ◌+◌, if◌then◌else◌, ℕ, Bool, List, [], ◌∷◌, All, Option, None, Some, length, slice_index_or}
use Rattle.atomic_table.specs.Seated.{TableId}
use Rattle.tick_clock.specs.Tickets.{PassState}
use Rattle.seat_lock.specs.declared.view.Known.{Known}
use Rattle.seat_lock.specs.declared.view.Rank.TheVariants.{Other}
use Rattle.seat_lock.specs.Seats.{LockId, SeatState, IsOfLock, own}
use Rattle.stack_base.specs.declared.ids.DevId.{DevId}
use Rattle.stack_base.specs.declared.ids.PoolId.TheVariants.{FsVecs, Records}
use Rattle.stack_base.specs.declared.ids.SetId.{SetId}
use Rattle.stack_base.specs.PoolId.{pool_number}
use Rattle.bioset_pools.specs.Sets.{bios_of}
use Rattle.run_machine.specs.Laws.{Object, OfPool, OfRescuer, OfDisk, OfBook, OfTally}
use Rattle.run_machine.specs.Opened.{device_at}
use Rattle.run_machine.specs.Requests.{Request}
use Rattle.task_steps.specs.Stage.{Stage, has_book, has_rescuer, has_disk, is_bios, is_slips}
use Rattle.task_core.specs.Tables.{look_up, AreAt}
use Rattle.task_core.specs.Plains.{Holds, is_bios_number, by_kind}
use Rattle.object_things.specs.Stamps.{CommonState, MarkState, Told, stage_in}
use Rattle.object_things.specs.Histories.{Call}
use Rattle.object_things.specs.Books.{book_mark}
use Rattle.object_things.specs.Disks.{disk_mark}
use Rattle.object_things.specs.Lists.{list_mark}
use Rattle.object_things.specs.Pools.{pool_mark}
use Rattle.object_things.specs.Tallies.{tally_mark}
use Rattle.shared_objects.specs.declared.locks.Locks.{Locks}
use Rattle.shared_objects.specs.declared.seats.TaskSeats.{TaskSeats}
use Rattle.shared_objects.specs.Calls.{CallsAt}
use Rattle.shared_objects.specs.Desks.{DeskState}
use Rattle.shared_objects.specs.Joins.{IsNumbered}
use Rattle.shared_objects.specs.Rows.{Abreast}

-- the numbers by which tables know locks and seats, from their keys
abbrev pub set_key : SetId → ℕ
set_key set = pool_number (bios_of set)

abbrev pub slip_key : DevId → ℕ
slip_key dev = pool_number (Records dev)

abbrev pub dev_key : DevId → ℕ
dev_key dev = dev.0

abbrev pub writer_key : ℕ → ℕ
writer_key writer = writer

-- the lock is round the object of this name
abbrev pub IsNamed : {T : Type 0} → (T → MarkState) → CommonState → Object → LockId T → Type 0
IsNamed mark common name lock = mark lock.key.value ≡ record { common = common; name = name }

-- Locks of a kind: each is round the object that its key names, and those of a stage stand where a table says.
pub record AreLocked {K T : Type 0} (key : K → ℕ) (mark : T → MarkState) (name : ℕ → Object) (common : CommonState) (used : ℕ → Bool) (table : List ℕ)
    (locks : List (K × LockId T)) : Type 0 where
  pub placed : AreAt (λ (e : K × LockId T). key e.0) used table locks
  pub named : All (λ (e : K × LockId T). IsNamed mark common (name (key e.0)) e.1) locks

-- The seat that the task of this number has of a lock: the first seat of each lock has the number 0, and each task's has one more than the task.
pub record IsSeatOf {T A R : Type 0} (task : ℕ) (lock : LockId T) (seat : SeatState T A R) : Type 0 where
  pub of : IsOfLock lock seat
  pub numbered : IsNumbered task seat.known

-- Its seats of locks of a kind, with their keys: as many, and at each place that of the lock there.
abbrev pub AreSeatsOf : {K T A R : Type 0} → ℕ → List (K × LockId T) → List (K × SeatState T A R) → Type 0
AreSeatsOf task locks seats = Abreast (λ lock seat. (seat.0 ≡ lock.0) × IsSeatOf task lock.1 seat.1) locks seats

-- the stage that the objects behind these locks are of
abbrev pub stage_at : Locks → Stage
stage_at locks = stage_in locks.common.value

-- What holds of the locks of a run.
pub record LocksHold (locks : Locks) : Type 0 where
  pub opened : Holds locks.common.value.opened
  pub bios : AreLocked set_key pool_mark OfPool locks.common.value (is_bios (stage_at locks)) locks.index.bios locks.bios.items
  pub vecs : IsNamed pool_mark locks.common.value (OfPool (pool_number FsVecs)) locks.vecs
  pub records : AreLocked slip_key pool_mark OfPool locks.common.value (is_slips (stage_at locks)) locks.index.records locks.records.items
  pub lists : AreLocked dev_key list_mark OfRescuer locks.common.value (λ dev. has_rescuer (stage_at locks) (device_at dev)) locks.index.lists locks.lists.items
  pub disks : AreLocked dev_key disk_mark OfDisk locks.common.value (λ dev. has_disk (stage_at locks) (device_at dev)) locks.index.disks locks.disks.items
  pub books : AreLocked writer_key book_mark OfBook locks.common.value (has_book (stage_at locks)) locks.index.books locks.books.items
  pub tally : IsNamed tally_mark locks.common.value OfTally locks.tally

-- A task has a seat of each lock.
pub record SeatsHold (locks : Locks) (seats : TaskSeats) : Type 0 where
  pub bios : AreSeatsOf seats.number locks.bios.items seats.bios.items
  pub vecs : IsSeatOf seats.number locks.vecs seats.vecs
  pub records : AreSeatsOf seats.number locks.records.items seats.records.items
  pub lists : AreSeatsOf seats.number locks.lists.items seats.lists.items
  pub disks : AreSeatsOf seats.number locks.disks.items seats.disks.items
  pub books : AreSeatsOf seats.number locks.books.items seats.books.items
  pub tally : IsSeatOf seats.number locks.tally seats.tally

-- the pass is at home, and of this clock
abbrev pub IsPassOf : TableId → Option PassState → Type 0
IsPassOf clock None = ⊥
IsPassOf clock (Some pass) = pass.clock ≡ clock

-- What holds of a desk between calls.
pub record DeskHolds (locks : Locks) (seats : TaskSeats) : Type 0 where
  pub locked : LocksHold locks
  pub seated : SeatsHold locks seats
  pub passed : IsPassOf locks.common.value.clock seats.pass

-- it holds again behind a step, with locks of the same stage as before
abbrev pub StillHolds : Locks → Locks → TaskSeats → Type 0
StillHolds old new seats = DeskHolds new seats × (stage_at new ≡ stage_at old)

-- the calls by the numbers of the objects of a kind
abbrev pub calls_in : {K T : Type 0} → (K → ℕ) → List (K × SeatState T Request Told) → ℕ → List Call
calls_in {K = K} {T = T} key seats = look_up (λ (e : K × SeatState T Request Told). key e.0) (λ e. own e.1.known) (λ number. []) seats

-- the calls that a task has made, as its seats know them
abbrev pub calls_of : TaskSeats → CallsAt
calls_of seats = record {
  pool = by_kind (own seats.vecs.known) (calls_in set_key seats.bios.items) (calls_in slip_key seats.records.items);
  rescue = calls_in dev_key seats.lists.items;
  disk = calls_in dev_key seats.disks.items;
  book = calls_in writer_key seats.books.items;
  tally = own seats.tally.known;
}

abbrev pub desk_of : TaskSeats → DeskState
desk_of seats = record { number = seats.number + 1; pass = seats.pass; calls = calls_of seats }
