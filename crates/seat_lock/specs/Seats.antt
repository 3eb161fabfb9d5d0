-- Locks and seats, as contracts see them.
use Rattle.std.specs.Prelude.{◌≡◌, ℕ, ◌+◌, Bool, true, false, List, [], ◌∷◌, ◌++◌, Some}
use Rattle.std.specs.declared.snapshot.Snapshot.{Snapshot}
use Rattle.atomic_table.specs.Seated.{TableId}
use Rattle.seat_lock.specs.declared.view.Entry.{Entry}
use Rattle.seat_lock.specs.declared.view.Known.{Known}
use Rattle.seat_lock.specs.declared.view.Rank.{Rank}
use Rattle.seat_lock.specs.declared.view.Rank.TheVariants.{First, Other, Spent}
use Rattle.seat_lock.specs.History.{calls_by, longer, Continues, Leads}

-- which lock it is, and the thing that it was made with
pub record LockId (T : Type 0) : Type 0 where
  pub table : TableId
  pub key : Snapshot T

-- the lock that a seat is of, and what the seat knows of it
pub record SeatState (T A R : Type 0) : Type 0 where
  pub table : TableId
  pub known : Known T A R

-- the seat is of this lock
abbrev pub IsOfLock : {T A R : Type 0} → LockId T → SeatState T A R → Type 0
IsOfLock lock seat = (seat.table ≡ lock.table) × (seat.known.start ≡ Some lock.key)

-- both seats are
abbrev pub AreOfLock : {T A R : Type 0} → LockId T → SeatState T A R → SeatState T A R → Type 0
AreOfLock lock one other = IsOfLock lock one × IsOfLock lock other

abbrev pub is_first : Rank → Bool
is_first (First split) = true
is_first Other = false
is_first Spent = false

-- how many seats were split from it
abbrev pub split_of : Rank → ℕ
split_of (First split) = split
split_of Other = 0
split_of Spent = 0

-- one more seat was split from it
abbrev pub one_more : Rank → Rank
one_more (First split) = First (split + 1)
one_more Other = Other
one_more Spent = Spent

module _ {T A R : Type 0} where
  -- the calls that were made through the seat, and through those that were joined into it
  abbrev pub own : Known T A R → List (Entry A R)
  own seat = calls_by seat.numbers seat.seen

  -- the first seat of a new lock
  abbrev pub first_seat : Snapshot T → Known T A R
  first_seat start = record { start = Some start; rank = First 0; joined = 0; number = 0; numbers = 0 ∷ []; seen = [] }

  -- the first seat after one more was split from it, and the new one, which has the next number and has seen as much
  abbrev pub split_more : Known T A R → Known T A R
  split_more seat = record seat { rank = one_more seat.rank }

  abbrev pub new_seat : Known T A R → Known T A R
  new_seat first = record { start = first.start; rank = Other; joined = 0; number = split_of first.rank + 1; numbers = (split_of first.rank + 1) ∷ []; seen = first.seen }

  -- the call of this seat that asked so and was told so
  abbrev pub call_of : Known T A R → A → R → Entry A R
  call_of seat asked told = record { by = seat.number; asked = asked; told = told }

  abbrev pub joined_with : Known T A R → Known T A R → Known T A R
  joined_with seat other = record seat { joined = seat.joined + other.joined + 1; numbers = seat.numbers ++ other.numbers; seen = longer seat.seen other.seen }

module _ {T A R : Type 0} where
  -- the joined seat has seen the longer of both histories, which begins with each of them and has no further call of either
  pub record HasJoined (seat other new : Known T A R) : Type 0 where
    pub joined : new ≡ joined_with seat other
    pub mine : Continues seat.numbers seat.seen new.seen
    pub theirs : Continues other.numbers other.seen new.seen

  -- where the first seat has taken in as many seats as were split from it, its calls are the whole history
  abbrev pub IsWhole : Known T A R → Type 0
  IsWhole seat = seat.rank ≡ First seat.joined → own seat ≡ seat.seen

module _ {T D A R : Type 0} (answers : D → A → R → D → Type 0) where
  -- a seat has called: what it has seen begins with what it had seen before and has this call last, it has no other call of its own besides, and
  -- it is a run of the machine from the start
  pub record Calls (start : D) (seat : Known T A R) (asked : A) (told : R) (new : Known T A R) : Type 0 where
    pub between : List (Entry A R)
    pub seen : new ≡ record seat { seen = (seat.seen ++ between) ++ call_of seat asked told ∷ [] }
    pub own_calls : own new ≡ own seat ++ call_of seat asked told ∷ []
    pub after : D
    pub run : Leads answers start new.seen after
