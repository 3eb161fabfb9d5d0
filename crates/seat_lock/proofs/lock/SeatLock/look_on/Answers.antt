use Rattle.std.proofs.Common.{arith, sym, ◌∙◌, ap}
use Rattle.seat_lock.specs.Turning.{is_live}
use Rattle.seat_lock.proofs.Keeping.{looks, found_at}
use Rattle.seat_lock.proofs.lock.SeatLock.look_on.Goals as goal

pub load-served-requires : goal.load-served-requires
load-served-requires g c =
    let inv = c.loop.invariant in
    let w = c.requires.waits in
    (inv.0 ∙ c.requires.of ∙ sym (ap (λ x. x.table) c.self.view_is), omega (arith, c.self.invariant), looks _ _ _ _ _ _ w.0 _ (ap (λ m. m.0.phase) (inv.1 ∙ w.1)) (ap (λ m. is_live m.0.known.rank) inv.1 ∙ w.3))

pub returns-then-served-turn-clause-found : goal.returns-then-served-turn-clause-found
returns-then-served-turn-clause-found g c =
    let t = g.T.Thing in
    found_at t.plain t.mark t.answers _ _ _ _ _ c.loop.invariant.1 c.if-served-turn.true c.load-served.ensures.2
