use Rattle.seat_lock.proofs.Histories.{each_in_place}
use Rattle.seat_lock.proofs.laws.each_reply_is_in_place.Goals as goal

pub returns : goal.returns
returns g c = each_in_place g.T.Thing.answers
