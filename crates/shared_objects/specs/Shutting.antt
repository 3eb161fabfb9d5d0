-- What is left of locks as their use ends.
use Rattle.std.specs.Prelude.{◌≡◌}
use Rattle.seat_lock.specs.declared.lock.Shut.{Shut}
use Rattle.seat_lock.specs.Seats.{LockId, SeatState}
use Rattle.stack_base.specs.declared.ids.DevId.{DevId}
use Rattle.model_disks.specs.Disks.{DiskState}
use Rattle.run_machine.specs.Requests.{Request}
use Rattle.object_things.specs.Stamps.{Stamped, MarkState, ThingState, Told, thing_state}
use Rattle.object_things.specs.Pools.{PoolAnswers, pool_mark}
use Rattle.object_things.specs.Lists.{ListAnswers, list_mark}
use Rattle.object_things.specs.Disks.{DiskAnswers, disk_mark}
use Rattle.object_things.specs.Books.{BookAnswers, book_mark}
use Rattle.object_things.specs.Tallies.{TallyAnswers, tally_mark}
use Rattle.shared_objects.specs.declared.closed.Closed.{Closed}
use Rattle.shared_objects.specs.declared.locks.Locks.{Locks}
use Rattle.shared_objects.specs.declared.seats.TaskSeats.{TaskSeats}
use Rattle.shared_objects.specs.Rows.{AbreastThree, IsShut, IsShutAt}

-- an object with its stamp, as its machine sees it
abbrev pub thing_of : {O : Type 0} → Stamped O → ThingState O
thing_of held = thing_state held.object held.stamp

-- what is left of the lock of an object
abbrev pub IsShutOf : {O : Type 0} → (Stamped O → MarkState) → (ThingState O → Request → Told → ThingState O → Type 0) → LockId (Stamped O) → SeatState (Stamped O) Request Told → Stamped O
    → SeatState (Stamped O) Request Told → Type 0
IsShutOf mark answers = IsShut thing_of mark answers

-- what is left of the lock of a disk, which has no key there, since the disk knows which device it is
abbrev pub IsShutDisk : {Q P : Type 0} → DevId × LockId (Stamped DiskState) → DevId × SeatState (Stamped DiskState) Request Told
    → Shut (Stamped DiskState) Q P (ThingState DiskState) Request Told MarkState → Type 0
IsShutDisk lock first left = IsShutOf disk_mark DiskAnswers lock.1 first.1 left.thing left.told.value

-- all locks
pub record HasShut (locks : Locks) (firsts : TaskSeats) (closed : Closed) : Type 0 where
  pub bios : AbreastThree (IsShutAt thing_of pool_mark PoolAnswers) locks.bios.items firsts.bios.items closed.bios.items
  pub vecs : IsShutOf pool_mark PoolAnswers locks.vecs firsts.vecs closed.vecs.thing closed.vecs.told.value
  pub records : AbreastThree (IsShutAt thing_of pool_mark PoolAnswers) locks.records.items firsts.records.items closed.records.items
  pub lists : AbreastThree (IsShutAt thing_of list_mark ListAnswers) locks.lists.items firsts.lists.items closed.lists.items
  pub disks : AbreastThree (λ lock first shut. (shut.thing.object.dev.0 ≡ lock.0.0) × IsShutDisk lock first shut) locks.disks.items firsts.disks.items closed.disks.items
  pub books : AbreastThree (IsShutAt thing_of book_mark BookAnswers) locks.books.items firsts.books.items closed.books.items
  pub tally : IsShutOf tally_mark TallyAnswers locks.tally firsts.tally closed.tally.thing closed.tally.told.value
