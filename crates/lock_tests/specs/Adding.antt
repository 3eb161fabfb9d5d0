-- What calls of a number behind a lock have asked for.
use Rattle.std.specs.Prelude.{◌≡◌, ℕ, ◌+◌, List, sum_by}
use Rattle.seat_lock.specs.declared.view.Entry.{Entry}
use Rattle.seat_lock.specs.declared.view.Known.{Known}
use Rattle.seat_lock.specs.Seats.{own}
use Rattle.lock_tests.specs.declared.number.Number.{Number}

-- the sum of all that was asked to be added
abbrev pub asked_for : List (Entry ℕ ℕ) → ℕ
asked_for calls = sum_by (λ (call : Entry ℕ ℕ). call.asked) calls

-- the same seat, through which calls have asked for so much more
pub record SeatHasAsked (old new : Known Number ℕ ℕ) (more : ℕ) : Type 0 where
  pub rank : new.rank ≡ old.rank
  pub joined : new.joined ≡ old.joined
  pub numbers : new.numbers ≡ old.numbers
  pub asked : asked_for (own new) ≡ asked_for (own old) + more
