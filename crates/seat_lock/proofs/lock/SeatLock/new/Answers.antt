use Rattle.std.proofs.Common.{sym}
use Rattle.seat_lock.proofs.Keeping.{first_rule}
use Rattle.seat_lock.proofs.lock.SeatLock.new.Goals as goal

pub new-requires : goal.new-requires
new-requires g c = rw (c.in_default.ensures.items, c.new-slots.ensures.items) (first_rule g.T.Thing.plain g.T.Thing.mark g.T.Thing.answers c.of-start.result _ (sym c.of-start.ensures))
