use Rattle.std.proofs.Common.{◌∙◌, ap}
use Rattle.seat_lock.specs.Seats.{split_more, new_seat}
use Rattle.lock_tests.proofs.Sums.{one_call, added_up}
use Rattle.lock_tests.proofs.number.added_in_turn.Goals as goal

pub returns : goal.returns
returns g c =
    let made = c.in_ok-lock.ensures in
    added_up c.in_ok-lock.lock.key _ _ _ _ _ c.args.one c.args.other _ made.2 (c.split-second.ensures.seats.0 ∙ ap split_more made.1) (c.split-second.ensures.seats.1 ∙ ap new_seat made.1) c.split-second.ensures.calls
    (one_call _ _ _ _ _ c.call-early.ensures.calls) (one_call _ _ _ _ _ c.call-late.ensures.calls) c.join.ensures.joined c.close-shut.ensures.all c.close-shut.ensures.thing.0
