-- What becomes of first seats as a task's seats are joined into them, and of the tasks that are put away so.
use Rattle.std.specs.Prelude.{◌≡◌, ◌<◌, ◌≤◌, ◌++◌, ◌∷◌, ℕ, List, [], All, map, max, length, slice_index_or, vec_capacity, Option, None, Some, IfSome}
use Rattle.std.specs.Global.{Vec}
use Rattle.std.specs.Option.{is_some}
use Rattle.tick_clock.specs.Tickets.{PassState, ShowsTickets, joined_pass}
use Rattle.seat_lock.specs.declared.view.Rank.TheVariants.{First}
use Rattle.seat_lock.specs.Seats.{HasJoined}
use Rattle.task_core.specs.declared.opening.Opened.{Opened}
use Rattle.shared_objects.specs.Rans.{RanHolds, RanState}
use Rattle.shared_objects.specs.Rows.{Abreast, AreChanged, CanClose, IsJoined}
use Rattle.shared_objects.specs.Shared.{FirstsHold}
use Rattle.shared_objects.specs.Taking.{TakenHold}
use Rattle.shared_objects.specs.declared.closed.Closed.{Closed}
use Rattle.shared_objects.specs.declared.closed.ClosedTask.{ClosedTask}
use Rattle.shared_objects.specs.declared.closed.Room.{Room}
use Rattle.shared_objects.specs.declared.locks.Locks.{Locks}
use Rattle.shared_objects.specs.declared.noted.Noted.{Noted}
use Rattle.shared_objects.specs.declared.seats.TaskSeats.{TaskSeats}

-- a pass was joined into the first one, which has found what both had
pub record JoinsPass (old other new : PassState) : Type 0 where
  pub both : new ≡ joined_pass old other new.known
  pub found : max old.known other.known ≤ new.known
  pub shows : ShowsTickets new

abbrev pub HasJoinedPass : Option PassState → Option PassState → Option PassState → Type 0
HasJoinedPass (Some old) (Some other) (Some new) = JoinsPass old other new
HasJoinedPass old other new = ⊥

-- a task's seats were joined into the first ones, each into that of its lock, and its pass into the first one
pub record HasJoinedSeats (locks : Locks) (old seats new : TaskSeats) : Type 0 where
  pub bios : AreChanged IsJoined locks.bios.items old.bios.items seats.bios.items new.bios.items
  pub vecs : HasJoined old.vecs.known seats.vecs.known new.vecs.known
  pub records : AreChanged IsJoined locks.records.items old.records.items seats.records.items new.records.items
  pub lists : AreChanged IsJoined locks.lists.items old.lists.items seats.lists.items new.lists.items
  pub disks : AreChanged IsJoined locks.disks.items old.disks.items seats.disks.items new.disks.items
  pub books : AreChanged IsJoined locks.books.items old.books.items seats.books.items new.books.items
  pub tally : HasJoined old.tally.known seats.tally.known new.tally.known
  pub pass : HasJoinedPass old.pass seats.pass new.pass

-- a task was put away, with its seats as they were before they were joined
pub record IsPutAway (ran : RanState) (closed : ClosedTask) : Type 0 where
  pub task : closed.task ≡ ran.task
  pub first : closed.first.value ≡ ran.first
  pub seats : closed.seats.value ≡ ran.seats
  pub events : closed.events ≡ ran.events

-- a trace has room for one more entry
abbrev pub MayGrow : Option (Vec Noted) → Type 0
MayGrow trace = IfSome trace (λ (list : Vec Noted). length list.items < vec_capacity list)

-- What a task noted stands behind the entries of a trace, and there is room for as many as there was.
abbrev pub IsWithNoted : Option (Vec Noted) → Option Noted → Option (Vec Noted) → Type 0
IsWithNoted (Some old) (Some noted) (Some new) = (new.items ≡ old.items ++ noted ∷ []) × (vec_capacity old ≤ vec_capacity new)
IsWithNoted None noted None = Unit {0}
IsWithNoted old noted new = ⊥

-- the entries of a trace are what these tasks noted
abbrev pub HaveNoted : List RanState → Option (Vec Noted) → Type 0
HaveNoted rans trace = IfSome trace (λ (list : Vec Noted). Abreast (λ (ran : RanState) (noted : Noted). ran.noted ≡ Some noted) rans list.items)

-- a task is here: that of this place, with seats of these locks
abbrev pub IsHereOf : Locks → ℕ → Option RanState → Type 0
IsHereOf locks place None = ⊥
IsHereOf locks place (Some ran) = (ran.home ≡ locks) × (ran.seats.number ≡ place)

abbrev pub AreHere : Locks → List (Option RanState) → Type 0
AreHere locks slots = (place : ℕ) (slot : Option RanState) → place < length slots → IsHereOf locks place (slice_index_or slots place slot)

-- The tasks of these slots were put away, and the first seats have taken theirs. What they noted is the trace, where the locks want one.
pub record ArePutAway (split : ℕ) (locks : Locks) (slots : List (Option RanState)) (firsts : TaskSeats) (closed : List ClosedTask) (trace : Option (Vec Noted)) : Type 0 where
  pub rans : List RanState
  pub are : slots ≡ map Some rans
  pub hold : All RanHolds rans
  pub homes : All (λ (ran : RanState). ran.home ≡ locks) rans
  pub taken : TakenHold split locks (map (λ (ran : RanState). ran.seats) rans) firsts
  pub firsts_hold : FirstsHold locks firsts
  pub tasks : Abreast IsPutAway rans closed
  pub traced : is_some trace ≡ locks.trace
  pub noted : HaveNoted rans trace

-- as many seats were joined into each first one as were split off from it
pub record CanEnd (firsts : TaskSeats) : Type 0 where
  pub bios : All CanClose firsts.bios.items
  pub vecs : firsts.vecs.known.rank ≡ First firsts.vecs.known.joined
  pub records : All CanClose firsts.records.items
  pub lists : All CanClose firsts.lists.items
  pub disks : All CanClose firsts.disks.items
  pub books : All CanClose firsts.books.items
  pub tally : firsts.tally.known.rank ≡ First firsts.tally.known.joined

-- nothing stands in the rows of what is left yet, and there is room for what these locks leave
pub record RowsFit (locks : Locks) (room : Room) : Type 0 where
  pub bios : (room.bios.items ≡ []) × (length locks.bios.items ≤ vec_capacity room.bios)
  pub records : (room.records.items ≡ []) × (length locks.records.items ≤ vec_capacity room.records)
  pub lists : (room.lists.items ≡ []) × (length locks.lists.items ≤ vec_capacity room.lists)
  pub disks : (room.disks.items ≡ []) × (length locks.disks.items ≤ vec_capacity room.disks)
  pub books : (room.books.items ≡ []) × (length locks.books.items ≤ vec_capacity room.books)

-- what is left has this beside what the locks leave
pub record HasBeside (told : Opened) (firsts : TaskSeats) (room : Room) (closed : Closed) : Type 0 where
  pub told_is : closed.told.value ≡ told
  pub tasks : closed.tasks.items ≡ room.tasks.items
  pub trace : closed.trace ≡ room.trace
  pub pass : firsts.pass ≡ Some closed.pass.value
  pub room_is : closed.room ≡ room.ended
