-- How opened objects come behind locks, and tasks get their seats.
use Rattle.std.specs.Prelude.{◌≡◌, ◌<◌, ◌+◌, ℕ, List, [], All, map, length, slice_index_or, Option, Some, None}
use Rattle.atomic_table.specs.Seated.{TableId}
use Rattle.seat_lock.specs.Seats.{LockId, SeatState, own}
use Rattle.tick_clock.specs.declared.ticking.PassRank.TheVariants as pass_rank
use Rattle.tick_clock.specs.Tickets.{PassState, first_pass, fresh_pass}
use Rattle.stack_base.specs.PoolId.{pool_number}
use Rattle.stack_base.specs.declared.ids.PoolId.TheVariants.{FsVecs}
use Rattle.mempool_core.specs.Pool.{LedgerPool}
use Rattle.run_machine.specs.Opened.{Scenario}
use Rattle.task_steps.specs.Homes.{IsTaskOf}
use Rattle.task_steps.specs.Stage.{Stage, AreServed}
use Rattle.task_steps.specs.TaskViews.{TaskOf}
use Rattle.task_core.specs.declared.ended.Ended.{Ended}
use Rattle.task_core.specs.declared.plain.Plain.{Plain}
use Rattle.task_core.specs.Leaving.{IsReservedForRun}
use Rattle.task_core.specs.ObjectsOf.{IsBookOf, IsDiskOf}
use Rattle.task_core.specs.Plains.{Holds, stage_of}
use Rattle.object_things.specs.Pools.{IsPoolOf}
use Rattle.object_things.specs.Stamps.{CommonState, Stamped}
use Rattle.shared_objects.specs.Guards.{guarded}
use Rattle.shared_objects.specs.Holding.{IsSeatOf, dev_key, set_key, slip_key, stage_at}
use Rattle.shared_objects.specs.Rans.{IsNewRan, RanState, ran_key}
use Rattle.shared_objects.specs.Rows.{Abreast, IsFirstOf}
use Rattle.shared_objects.specs.Shared.{HasRoomFor, ran_key_at}
use Rattle.shared_objects.specs.declared.closed.Room.{Room}
use Rattle.shared_objects.specs.declared.locks.Locks.{Locks}
use Rattle.shared_objects.specs.declared.seats.TaskSeats.{TaskSeats}

-- the objects of a row, with what all things have in common
abbrev pub guarded_row : {K O : Type 0} → CommonState → List (K × O) → List (K × Stamped O)
guarded_row {K = K} {O = O} common objects = map (λ (entry : K × O). (entry.0, guarded common entry.1)) objects

-- a pool of a stage, of this number
abbrev pub IsPoolAt : Stage → ℕ → LedgerPool → Type 0
IsPoolAt stage number pool = IsPoolOf stage pool × (pool.ledger.no ≡ number)

-- Objects that can be shared: they hold together, and each entry of a row is the object that its key names.
pub record CanShare (plain : Plain) : Type 0 where
  pub holds : Holds plain
  pub bios : All (λ entry. IsPoolAt (stage_of plain) (set_key entry.0) entry.1) plain.bios.items
  pub vecs : IsPoolAt (stage_of plain) (pool_number FsVecs) plain.vecs
  pub records : All (λ entry. IsPoolAt (stage_of plain) (slip_key entry.0) entry.1) plain.records.items
  pub lists : All (λ entry. AreServed (stage_of plain) entry.1.bios × (entry.1.dev.0 ≡ dev_key entry.0)) plain.lists.items
  pub disks : All (λ disk. IsDiskOf (stage_of plain) disk.dev.0 disk) plain.disks.items
  pub books : All (λ entry. IsBookOf (stage_of plain) entry.1.writer entry.1 × (entry.1.writer ≡ entry.0)) plain.books.items

module _ {T A R : Type 0} where
  -- the seat that the task of this number has of a lock, which has made no call
  abbrev pub IsNewOf : ℕ → LockId T → SeatState T A R → Type 0
  IsNewOf task lock seat = IsSeatOf task lock seat × (own seat.known ≡ [])

module _ {K T A R : Type 0} where
  -- the first seat of a lock, from which so many were split off, and a new seat of one, with the keys of their locks
  abbrev pub IsFirstAt : ℕ → K × LockId T → K × SeatState T A R → Type 0
  IsFirstAt split lock first = (first.0 ≡ lock.0) × IsFirstOf split lock.1 first.1

  abbrev pub IsNewAt : ℕ → K × LockId T → K × SeatState T A R → Type 0
  IsNewAt task lock seat = (seat.0 ≡ lock.0) × IsNewOf task lock.1 seat.1

-- the first pass of a clock, from which so many were split off, and with which nothing was drawn
abbrev pub first_pass_of : TableId → ℕ → PassState
first_pass_of clock split = record (first_pass clock) { rank = pass_rank.First split }

-- First seats of all locks, and the first pass, from each of which so many were split off, and into which none was joined.
pub record AreFirst (split : ℕ) (locks : Locks) (firsts : TaskSeats) : Type 0 where
  pub bios : Abreast (IsFirstAt split) locks.bios.items firsts.bios.items
  pub vecs : IsFirstOf split locks.vecs firsts.vecs
  pub records : Abreast (IsFirstAt split) locks.records.items firsts.records.items
  pub lists : Abreast (IsFirstAt split) locks.lists.items firsts.lists.items
  pub disks : Abreast (IsFirstAt split) locks.disks.items firsts.disks.items
  pub books : Abreast (IsFirstAt split) locks.books.items firsts.books.items
  pub tally : IsFirstOf split locks.tally firsts.tally
  pub pass : firsts.pass ≡ Some (first_pass_of locks.common.value.clock split)

-- The seats of the task of this number, none of which has made a call.
pub record AreNew (task : ℕ) (locks : Locks) (seats : TaskSeats) : Type 0 where
  pub number : seats.number ≡ task
  pub bios : Abreast (IsNewAt task) locks.bios.items seats.bios.items
  pub vecs : IsNewOf task locks.vecs seats.vecs
  pub records : Abreast (IsNewAt task) locks.records.items seats.records.items
  pub lists : Abreast (IsNewAt task) locks.lists.items seats.lists.items
  pub disks : Abreast (IsNewAt task) locks.disks.items seats.disks.items
  pub books : Abreast (IsNewAt task) locks.books.items seats.books.items
  pub tally : IsNewOf task locks.tally seats.tally
  pub pass : seats.pass ≡ Some (fresh_pass (first_pass_of locks.common.value.clock task))

-- a task with its seats stands here, as it was opened
abbrev pub IsTaskAt : Locks → ℕ → TaskOf → Option RanState → Type 0
IsTaskAt locks place task None = ⊥
IsTaskAt locks place task (Some ran) = IsNewRan ran × (ran_key ran ≡ ran_key_at locks place task)

-- so it is with each task, in their order
pub record AreTasksAt (locks : Locks) (tasks : List TaskOf) (slots : List (Option RanState)) : Type 0 where
  pub many : length slots ≡ length tasks
  pub each : (place : ℕ) (task : TaskOf) (slot : Option RanState) → place < length tasks
      → IsTaskAt locks place (slice_index_or tasks place task) (slice_index_or slots place slot)

-- a task of the objects behind these locks
abbrev pub IsTaskFor : Locks → TaskOf → Type 0
IsTaskFor locks task = (task.routing ≡ (stage_at locks).routing) × IsTaskOf (stage_at locks) task.state

-- with the room that its run wants, it is room for what is left of these locks and of so many tasks
abbrev pub IsRoomWith : Locks → ℕ → Ended → Room → Type 0
IsRoomWith locks tasks ended room = (s : Scenario) → IsReservedForRun s.stack (length s.writes) ended → HasRoomFor locks tasks s room
