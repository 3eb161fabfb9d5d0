use Rattle.std.proofs.Common.{arith, refl, sym, ◌∙◌, ap, subst}
use Rattle.seat_lock.specs.Turning.{WaitsFor}
use Rattle.seat_lock.proofs.Keeping.{looks, not_yet, found_at}
use Rattle.seat_lock.proofs.lock.SeatLock.await_turn.Goals as goal

pub load-served-requires : goal.load-served-requires
load-served-requires g c =
    let w = c.requires.waits in
    (c.requires.of ∙ sym (ap (λ x. x.table) c.self.view_is), omega (arith, c.self.invariant), looks _ _ _ _ _ _ w.0 _ (ap (λ m. m.0.phase) w.1) w.3)

pub look_on-requires-clause-waits : goal.look_on-requires-clause-waits
look_on-requires-clause-waits g c =
    let w = c.requires.waits in
    let t = g.T.Thing in
    subst (WaitsFor c.args.turn) (sym (not_yet t.plain t.mark t.answers _ _ _ _ _ c.load-served.ensures.2 (ap (λ m. m.0.phase) w.1) w.2 c.if-served-turn.true)) w

pub returns-then-served-turn-clause-found : goal.returns-then-served-turn-clause-found
returns-then-served-turn-clause-found g c =
    let w = c.requires.waits in
    let t = g.T.Thing in
    found_at t.plain t.mark t.answers _ _ _ _ _ (not_yet t.plain t.mark t.answers _ _ _ _ _ c.load-served.ensures.2 (ap (λ m. m.0.phase) w.1) w.2 c.if-served-turn.true) refl c.look_on.ensures.found

pub returns-else-served-turn-clause-found : goal.returns-else-served-turn-clause-found
returns-else-served-turn-clause-found g c =
    let t = g.T.Thing in
    found_at t.plain t.mark t.answers _ _ _ _ _ refl c.if-served-turn.false c.load-served.ensures.2
