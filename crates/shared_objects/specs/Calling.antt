-- One call of an object by its seat, with the pass of the task.
use Rattle.std.specs.Prelude.{◌≡◌, ◌<◌, ◌++◌, ℕ, List, [], ◌∷◌, Option, None, Some, length, slice_index_or, slice_set}
use Rattle.tick_clock.specs.Tickets.{PassState}
use Rattle.seat_lock.specs.declared.view.Known.{Known}
use Rattle.seat_lock.specs.Seats.{LockId, SeatState, IsOfLock, own, call_of}
use Rattle.run_machine.specs.Requests.{Request}
use Rattle.object_things.specs.declared.stamp.Asking.{Asking}
use Rattle.object_things.specs.declared.stamp.Replied.{Replied}
use Rattle.object_things.specs.Stamps.{Told}

-- the pass is at home, and with it this can be asked
abbrev pub FitsWith : {Q : Type 0} → (Asking Q → Type 0) → Option PassState → Q → Type 0
FitsWith fits None ask = ⊥
FitsWith fits (Some pass) ask = fits (record { pass = pass; ask = ask })

-- and so of the object behind the lock at a place, whose mark says what fits it
abbrev pub FitsAt : {K Q T M : Type 0} → (T → M) → (M → Asking Q → Type 0) → List (K × LockId T) → ℕ → Option PassState → Q → Type 0
FitsAt {K} {Q} {T} mark fits locks place held ask =
    (lock : K × LockId T) → lock ≡ slice_index_or locks place lock → FitsWith (fits (mark lock.1.key.value)) held ask

-- An object was asked, and said this: the call stands last among those of the seat, and the pass is back.
pub record HasAsked {Q S T : Type 0} (asked : Asking Q → Request) (told : Replied S → Told) (owes : Asking Q → Replied S → Type 0)
    (old : Known T Request Told) (before : Option PassState) (ask : Q) (said : S) (new : Known T Request Told) (after : Option PassState) : Type 0 where
  pub pass : PassState
  pub held : before ≡ Some pass
  pub replied : Replied S
  pub says : replied.said ≡ said
  pub back : after ≡ Some replied.pass
  pub calls : own new ≡ own old ++ call_of old (asked (record { pass = pass; ask = ask })) (told replied) ∷ []
  pub same : new ≡ record old { seen = new.seen }
  pub owed : owes (record { pass = pass; ask = ask }) replied

-- a lock, and a seat of it, stand at this place
pub record AreSeatedAt {K T A R : Type 0} (locks : List (K × LockId T)) (seats : List (K × SeatState T A R)) (place : ℕ) : Type 0 where
  pub locked : place < length locks
  pub seated : place < length seats
  pub of : (lock : K × LockId T) (seat : K × SeatState T A R) → IsOfLock (slice_index_or locks place lock).1 (slice_index_or seats place seat).1

-- The object of the lock at this place was asked, by the seat there.
pub record HasAskedAt {K Q S T : Type 0} (asked : Asking Q → Request) (told : Replied S → Told) (owes : T → Asking Q → Replied S → Type 0) (place : ℕ)
    (locks : List (K × LockId T)) (old : List (K × SeatState T Request Told)) (before : Option PassState) (ask : Q) (said : S)
    (new : List (K × SeatState T Request Told)) (after : Option PassState) : Type 0 where
  pub lock : K × LockId T
  pub lock_is : lock ≡ slice_index_or locks place lock
  pub seat : K × SeatState T Request Told
  pub seat_is : seat ≡ slice_index_or old place seat
  pub now : SeatState T Request Told
  pub of : IsOfLock lock.1 now
  pub changed : new ≡ slice_set old place (seat.0, now)
  pub made : HasAsked asked told (owes lock.1.key.value) seat.1.known before ask said now.known after
