use Rattle.seat_lock.specs.Seats.{IsOfLock}
use Rattle.lock_tests.specs.Adding.{SeatHasAsked}
use Rattle.lock_tests.proofs.number.add_often.Given as goal

-- each call so far asked for one
abbrev pub invariant-adding : goal.invariant-adding
invariant-adding g l = IsOfLock l.lock l.seat × SeatHasAsked l.initial.seat.known l.seat.known l.made
