use Rattle.std.proofs.Common.{◌∙◌, ap}
use Rattle.seat_lock.specs.Seats.{split_more, new_seat}
use Rattle.lock_tests.proofs.Sums.{added_up}
use Rattle.lock_tests.proofs.number.added_by_two.Goals as goal

pub returns : goal.returns
returns g c =
    let made = c.in_ok-lock.ensures in
    added_up c.in_ok-lock.lock.key _ _ _ _ _ c.args.often c.args.often _ made.2 (c.split-second.ensures.seats.0 ∙ ap split_more made.1) (c.split-second.ensures.seats.1 ∙ ap new_seat made.1) c.split-second.ensures.calls
    c.join-first.ensures.first.1 c.join-first.ensures.second.1 c.join.ensures.joined c.close.ensures.all c.close.ensures.thing.0
