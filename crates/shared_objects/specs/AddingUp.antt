-- What adds up in shared objects, at every moment from the sharing on.
use Rattle.std.specs.Prelude.{◌≡◌, ℕ, List, [], ◌∷◌, All}
use mathlib.Core.Option.{some}
use Rattle.atomic_table.specs.Table.{State}
use Rattle.bio_books.specs.Books.{BookState}
use Rattle.bio_records.specs.Rescue.{Rescue}
use Rattle.mempool_core.specs.Facts.{AddsUp}
use Rattle.mempool_core.specs.Pool.{LedgerPool}
use Rattle.model_disks.specs.Disks.{DiskState}
use Rattle.seat_lock.specs.declared.view.View.{View}
use Rattle.seat_lock.specs.History.{Leads}
use Rattle.seat_lock.specs.Seats.{LockId}
use Rattle.seat_lock.specs.Turning.{IsTurning}
use Rattle.stack_base.specs.declared.ids.DevId.{DevId}
use Rattle.stack_base.specs.declared.ids.SetId.{SetId}
use Rattle.run_machine.specs.Laws.{Object, OfPool, OfRescuer, OfDisk, OfBook, OfTally, OfNone}
use Rattle.run_machine.specs.Requests.{Request}
use Rattle.object_things.specs.Books.{BookAnswers, book_mark}
use Rattle.object_things.specs.Disks.{DiskAnswers, disk_mark}
use Rattle.object_things.specs.Histories.{Call}
use Rattle.object_things.specs.Homes.{AddsUpThroughout, BookAddsUp, DiskAddsUp, ListAddsUp, TallyAddsUp}
use Rattle.object_things.specs.Lists.{ListAnswers, list_mark}
use Rattle.object_things.specs.Pools.{PoolAnswers, pool_mark}
use Rattle.object_things.specs.Stamps.{MarkState, Stamped, ThingState, Told}
use Rattle.object_things.specs.Tallies.{TallyAnswers, tally_mark}
use Rattle.shared_objects.specs.ClosedByName.{history_in, object_left_in}
use Rattle.shared_objects.specs.Kinds.{ThingAt, answers_at, opened_at, unasked}
use Rattle.shared_objects.specs.Left.{HasClosed}
use Rattle.shared_objects.specs.Shared.{SharedHolds}
use Rattle.shared_objects.specs.Shutting.{thing_of}
use Rattle.shared_objects.specs.declared.closed.Closed.{Closed}
use Rattle.shared_objects.specs.declared.locks.Locks.{Locks}
use Rattle.shared_objects.specs.declared.shared.Shared.{Shared}

-- the numbers of a pool add up, whatever it was asked since it was opened
abbrev pub PoolAlwaysAddsUp : LedgerPool → List Call → LedgerPool → Type 0
PoolAlwaysAddsUp opened history new = AddsUp new.state.facts

-- how an object as it was opened, its calls since and what it is now add up
abbrev pub adds_up_at : (name : Object) → ThingAt name → List Call → ThingAt name → Type 0
adds_up_at (OfPool number) = PoolAlwaysAddsUp
adds_up_at (OfRescuer dev) = ListAddsUp
adds_up_at (OfDisk dev) = DiskAddsUp
adds_up_at (OfBook writer) = BookAddsUp
adds_up_at OfTally = TallyAddsUp
adds_up_at OfNone = λ opened history new. Unit {0}

module _ {O : Type 0} (mark : Stamped O → MarkState) (answers : ThingState O → Request → Told → ThingState O → Type 0) (adds_up : O → List Call → O → Type 0) where
  -- The object that a lock is round adds up with its calls so far: along each history, and so at every moment of the lock at which it is free, which is
  -- seen by the rule of the lock's table.
  pub record LockAddsUp (lock : LockId (Stamped O)) : Type 0 where
    pub along : (new : ThingState O) (history : List Call) → Leads answers (thing_of lock.key.value) history new → adds_up lock.key.value.object history new.object
    pub free : (table : State (Stamped O) (View (Stamped O) Request Told)) (kept : Stamped O)
        → (turning : IsTurning thing_of mark answers lock.key table) → table.homes ≡ some kept ∷ [] → adds_up lock.key.value.object turning.log kept.object

-- so do those behind all locks
pub record LocksAddUp (locks : Locks) : Type 0 where
  pub bios : All (λ (e : SetId × LockId (Stamped LedgerPool)). LockAddsUp pool_mark PoolAnswers PoolAlwaysAddsUp e.1) locks.bios.items
  pub vecs : LockAddsUp pool_mark PoolAnswers PoolAlwaysAddsUp locks.vecs
  pub records : All (λ (e : DevId × LockId (Stamped LedgerPool)). LockAddsUp pool_mark PoolAnswers PoolAlwaysAddsUp e.1) locks.records.items
  pub lists : All (λ (e : DevId × LockId (Stamped Rescue)). LockAddsUp list_mark ListAnswers ListAddsUp e.1) locks.lists.items
  pub disks : All (λ (e : DevId × LockId (Stamped DiskState)). LockAddsUp disk_mark DiskAnswers DiskAddsUp e.1) locks.disks.items
  pub books : All (λ (e : ℕ × LockId (Stamped BookState)). LockAddsUp book_mark BookAnswers BookAddsUp e.1) locks.books.items
  pub tally : LockAddsUp tally_mark TallyAnswers TallyAddsUp locks.tally

-- each object adds up throughout its whole history, of closed objects
abbrev pub HistoriesAddUp : Closed → Type 0
HistoriesAddUp closed = (name : Object)
    → AddsUpThroughout (answers_at name) (adds_up_at name) (unasked (opened_at closed.told.value.objects name)) (history_in closed name) (object_left_in closed closed.told.value.objects name)

-- Shared objects add up, behind their locks and throughout the histories that a close shows.
pub record ObjectsAddUp : Type 0 where
  pub shared : (shared : Shared) → SharedHolds shared → LocksAddUp shared.locks
  pub closed : (closed : Closed) → HasClosed closed → HistoriesAddUp closed
