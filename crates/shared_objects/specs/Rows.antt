-- Rows of locks and of their seats: what stands at a place of one has to do with what stands there in the others.
use Rattle.std.specs.Prelude.{◌≡◌, ◌<◌, ◌≤◌, ℕ, true, false, List, [], ◌++◌, slice_index_or, length}
use Rattle.seat_lock.specs.declared.lock.Shut.{Shut}
use Rattle.seat_lock.specs.declared.view.Rank.TheVariants.{First}
use Rattle.seat_lock.specs.History.{HistoryLeaves}
use Rattle.seat_lock.specs.Seats.{LockId, SeatState, IsOfLock, HasJoined, IsWhole, is_first, new_seat, own, split_more, split_of}
use Rattle.shared_objects.specs.Joins.{HasTaken}

module _ {X Y : Type 0} (P : X → Y → Type 0) where
  -- two rows are as long, and this holds of what stands at each place
  pub record Abreast (xs : List X) (ys : List Y) : Type 0 where
    pub lens : length ys ≡ length xs
    pub each : (place : ℕ) (x : X) (y : Y) → place < length xs → P (slice_index_or xs place x) (slice_index_or ys place y)

module _ {X Y Z : Type 0} (P : X → Y → Z → Type 0) where
  -- the same of three rows
  pub record AbreastThree (xs : List X) (ys : List Y) (zs : List Z) : Type 0 where
    pub lens : (length ys ≡ length xs) × (length zs ≡ length xs)
    pub each : (place : ℕ) (x : X) (y : Y) (z : Z) → place < length xs → P (slice_index_or xs place x) (slice_index_or ys place y) (slice_index_or zs place z)

  -- the last of three rows stands behind what was there
  pub record AreAdded (xs : List X) (ys : List Y) (olds news : List Z) : Type 0 where
    pub made : List Z
    pub added : news ≡ olds ++ made
    pub are : AbreastThree xs ys made

module _ {L X Y : Type 0} (P : L → X → Y → X → Type 0) where
  -- A row of locks' first seats was changed with what stands in another row, as far as that goes.
  pub record AreChanged (locks : List L) (olds : List X) (others : List Y) (news : List X) : Type 0 where
    pub lens : length news ≡ length olds
    pub done : (place : ℕ) (lock : L) (old : X) (other : Y) (new : X) → place < length others
        → P (slice_index_or locks place lock) (slice_index_or olds place old) (slice_index_or others place other) (slice_index_or news place new)
    pub ahead : (place : ℕ) (old : X) → length others ≤ place → slice_index_or news place old ≡ slice_index_or olds place old

module _ {T A R : Type 0} where
  -- the first seat of a lock, from which so many seats were split off, and into which none was joined
  abbrev pub IsFirstOf : ℕ → LockId T → SeatState T A R → Type 0
  IsFirstOf split lock first = IsOfLock lock first × HasTaken split [] first.known

module _ {K T A R : Type 0} where
  -- a lock round a thing, with its first seat
  pub record IsLockOf (thing : K × T) (lock : K × LockId T) (first : K × SeatState T A R) : Type 0 where
    pub keys : (lock.0 ≡ thing.0) × (first.0 ≡ thing.0)
    pub value : lock.1.key.value ≡ thing.1
    pub first_is : IsFirstOf 0 lock.1 first.1

  -- a seat of a lock, with its key
  abbrev pub IsAt : K × LockId T → K × SeatState T A R → Type 0
  IsAt lock seat = (seat.0 ≡ lock.0) × IsOfLock lock.1 seat.1

  -- one more seat can be split off
  abbrev pub CanSplit : K × SeatState T A R → Type 0
  CanSplit first = (is_first first.1.known.rank ≡ true) × (split_of first.1.known.rank < 65535)

  -- a seat was split off
  pub record IsSplit (lock : K × LockId T) (old seat new : K × SeatState T A R) : Type 0 where
    pub at : IsAt lock new × IsAt lock seat
    pub seats : (new.1.known ≡ split_more old.1.known) × (seat.1.known ≡ new_seat old.1.known)
    pub calls : own seat.1.known ≡ []

  -- a seat of each lock was
  abbrev pub AreSplit : List (K × LockId T) → List (K × SeatState T A R) → List (K × SeatState T A R) → List (K × SeatState T A R) → Type 0
  AreSplit locks olds seats news = (length seats ≡ length locks) × AreChanged IsSplit locks olds seats news

  abbrev pub IsOther : K × SeatState T A R → Type 0
  IsOther seat = is_first seat.1.known.rank ≡ false

  -- a seat was joined into the first one
  pub record IsJoined (lock : K × LockId T) (old seat new : K × SeatState T A R) : Type 0 where
    pub at : IsAt lock new
    pub joined : HasJoined old.1.known seat.1.known new.1.known
    pub whole : IsWhole new.1.known

  -- all that were split off were joined
  abbrev pub CanClose : K × SeatState T A R → Type 0
  CanClose first = first.1.known.rank ≡ First first.1.known.joined

module _ {T D A R M : Type 0} (plain : T → D) (mark : T → M) (answers : D → A → R → D → Type 0) where
  -- What is left of a lock: the thing as the history leaves it, which is all that the first seat has seen and all of its own calls, and that seat.
  pub record IsShut (lock : LockId T) (first : SeatState T A R) (thing : T) (told : SeatState T A R) : Type 0 where
    pub left : HistoryLeaves plain mark answers lock.key.value first.known.seen thing
    pub told_is : told ≡ first
    pub all : own first.known ≡ first.known.seen

  -- the same with its key
  abbrev pub IsShutAt : {K Q P : Type 0} → K × LockId T → K × SeatState T A R → K × Shut T Q P D A R M → Type 0
  IsShutAt lock first left = (left.0 ≡ lock.0) × IsShut lock.1 first.1 left.1.thing left.1.told.value
