-- What holds of shared objects: of their locks, of the first seats of these, and of the tasks, each of which is here or was handed out.
use Rattle.std.specs.Prelude.{◌≡◌, ◌<◌, ◌≤◌, ◌+◌, ℕ, Bool, true, List, [], length, slice_index_or, slice_set, vec_capacity, Option, None, Some, IfSome}
use Rattle.std.specs.Global.{Vec}
use Rattle.std.specs.Option.{is_some}
use Rattle.seat_lock.specs.Seats.{IsOfLock}
use Rattle.run_machine.specs.Opened.{Scenario}
use Rattle.task_steps.specs.TaskViews.{TaskOf}
use Rattle.task_core.specs.Leaving.{IsReservedForRun}
use Rattle.task_core.specs.opened.OfOne.{IsOpened, scenario_in}
use Rattle.shared_objects.specs.Holding.{IsPassOf, LocksHold}
use Rattle.shared_objects.specs.Rans.{IsNewRan, RanKey, RanState, most_tasks, ran_key}
use Rattle.shared_objects.specs.Rows.{Abreast, IsAt}
use Rattle.shared_objects.specs.Sharing.{AreOfOpened}
use Rattle.shared_objects.specs.Taking.{TakenHold}
use Rattle.shared_objects.specs.declared.closed.Room.{Room}
use Rattle.shared_objects.specs.declared.locks.Locks.{Locks}
use Rattle.shared_objects.specs.declared.noted.Noted.{Noted}
use Rattle.shared_objects.specs.declared.seats.TaskSeats.{TaskSeats}
use Rattle.shared_objects.specs.declared.shared.Shared.{Shared}

-- each first seat is of the lock at its place, and the first pass is of the locks' clock
pub record FirstsHold (locks : Locks) (firsts : TaskSeats) : Type 0 where
  pub bios : Abreast IsAt locks.bios.items firsts.bios.items
  pub vecs : IsOfLock locks.vecs firsts.vecs
  pub records : Abreast IsAt locks.records.items firsts.records.items
  pub lists : Abreast IsAt locks.lists.items firsts.lists.items
  pub disks : Abreast IsAt locks.disks.items firsts.disks.items
  pub books : Abreast IsAt locks.books.items firsts.books.items
  pub tally : IsOfLock locks.tally firsts.tally
  pub pass : IsPassOf locks.common.value.clock firsts.pass

-- A trace is there exactly where one is wanted: it has no entry yet, and room for those of so many tasks.
abbrev pub IsRoomForTrace : Bool → ℕ → Option (Vec Noted) → Type 0
IsRoomForTrace wanted count trace = (is_some trace ≡ wanted) × IfSome trace (λ (list : Vec Noted). (list.items ≡ []) × (count ≤ vec_capacity list))

-- there is room for what is left of these locks, of so many tasks, and of the run of a scenario
pub record HasRoomFor (locks : Locks) (count : ℕ) (s : Scenario) (room : Room) : Type 0 where
  pub bios : (room.bios.items ≡ []) × (length locks.bios.items ≤ vec_capacity room.bios)
  pub records : (room.records.items ≡ []) × (length locks.records.items ≤ vec_capacity room.records)
  pub lists : (room.lists.items ≡ []) × (length locks.lists.items ≤ vec_capacity room.lists)
  pub disks : (room.disks.items ≡ []) × (length locks.disks.items ≤ vec_capacity room.disks)
  pub books : (room.books.items ≡ []) × (length locks.books.items ≤ vec_capacity room.books)
  pub tasks : (room.tasks.items ≡ []) × (count ≤ vec_capacity room.tasks)
  pub trace : IsRoomForTrace locks.trace count room.trace
  pub ended : IsReservedForRun s.stack (length s.writes) room.ended

-- nothing stands at a place, or the task of this key
abbrev pub IsOwnIfHere : RanKey → Option RanState → Type 0
IsOwnIfHere key None = Unit {0}
IsOwnIfHere key (Some ran) = ran_key ran ≡ key

-- a task was not handed out yet
abbrev pub IsUntaken : Option RanState → Type 0
IsUntaken None = ⊥
IsUntaken (Some ran) = IsNewRan ran

-- a task is back, and has stopped
abbrev pub IsBackStopped : Option RanState → Type 0
IsBackStopped None = ⊥
IsBackStopped (Some ran) = ran.stopped ≡ true

-- what stays of the task at a place, which was opened as this one
abbrev pub ran_key_at : Locks → ℕ → TaskOf → RanKey
ran_key_at locks place first = record { first = first; home = locks; number = place }

-- What holds of them between calls.
pub record SharedHolds (shared : Shared) : Type 0 where
  pub opened : IsOpened shared.told.value
  pub locks : LocksHold shared.locks
  pub round : AreOfOpened shared.told.value.objects shared.locks
  pub firsts : FirstsHold shared.locks shared.firsts
  -- a seat of each lock was split off for each task, and none was joined
  pub taken : TakenHold (length shared.tasks.items) shared.locks [] shared.firsts
  pub all : length shared.tasks.items ≡ length shared.told.value.tasks.items
  pub few : length shared.tasks.items ≤ most_tasks
  pub own : (place : ℕ) (first : TaskOf) (slot : Option RanState) → place < length shared.tasks.items
      → IsOwnIfHere (ran_key_at shared.locks place (slice_index_or shared.told.value.tasks.items place first)) (slice_index_or shared.tasks.items place slot)
  -- those from this one on were not handed out
  pub next : shared.next ≤ length shared.tasks.items
  pub untaken : (place : ℕ) (slot : Option RanState) → shared.next ≤ place → place < length shared.tasks.items → IsUntaken (slice_index_or shared.tasks.items place slot)
  pub room : HasRoomFor shared.locks (length shared.tasks.items) (scenario_in shared.told.value) shared.room

-- all but which tasks are here is as before
pub record SameShared (old new : Shared) : Type 0 where
  pub told : new.told.value ≡ old.told.value
  pub locks : new.locks ≡ old.locks
  pub many : length new.tasks.items ≡ length old.tasks.items

-- the next task is handed out
pub record HandsOut (old : Shared) (ran : RanState) (new : Shared) : Type 0 where
  pub some : old.next < length old.tasks.items
  pub key : (first : TaskOf) → ran_key ran ≡ ran_key_at old.locks old.next (slice_index_or old.told.value.tasks.items old.next first)
  pub is_new : IsNewRan ran
  pub next : new.next ≡ old.next + 1
  pub tasks : new.tasks.items ≡ slice_set old.tasks.items old.next None
  pub same : SameShared old new

-- the task of this key was handed out and did not come back
pub record IsOut (shared : Shared) (key : RanKey) : Type 0 where
  pub taken : key.number < shared.next
  pub own : (first : TaskOf) → key ≡ ran_key_at shared.locks key.number (slice_index_or shared.told.value.tasks.items key.number first)
  pub vacant : (slot : Option RanState) → slice_index_or shared.tasks.items key.number slot ≡ None

-- a task came back
pub record TakesBack (old : Shared) (ran : RanState) (new : Shared) : Type 0 where
  pub next : new.next ≡ old.next
  pub tasks : new.tasks.items ≡ slice_set old.tasks.items ran.seats.number (Some ran)
  pub same : SameShared old new

-- every task was handed out, came back and has stopped
abbrev pub HaveStopped : Shared → Type 0
HaveStopped shared = (place : ℕ) (slot : Option RanState) → place < length shared.tasks.items → IsBackStopped (slice_index_or shared.tasks.items place slot)
