use Rattle.std.proofs.Common.{◌≡◌, true, None, arith, sym, ◌∙◌, ap}
use Rattle.seat_lock.specs.declared.view.Phase.TheVariants.{Idle}
use Rattle.seat_lock.specs.Turning.{is_live}
use Rattle.seat_lock.proofs.Keeping.{draws, waits_for, drawn_from, has_thing, has_called, looked_at}
use Rattle.seat_lock.proofs.lock.SeatLock.call.Goals as goal

pub fetch_add-turn-requires : goal.fetch_add-turn-requires
fetch_add-turn-requires g c =
    let own = ap (λ x. x.table) c.seat.view_is ∙ c.requires.of.0 ∙ sym (ap (λ x. x.table) c.self.view_is) in
    (own, omega (arith, c.self.invariant), draws _ _ _ _ _ _ _ c.seat.invariant.1 c.seat.invariant.2)

pub await_turn-requires-clause-waits : goal.await_turn-requires-clause-waits
await_turn-requires-clause-waits g c =
    let d = c.fetch_add-turn.ensures.2 in
    waits_for _ d.0 c.seat.inside.inner.me _ d.1 c.seat.invariant.0 d.2 c.seat.invariant.2

pub serve_in_turn-requires-clause-turn : goal.serve_in_turn-requires-clause-turn
serve_in_turn-requires-clause-turn g c =
    let d = c.fetch_add-turn.ensures.2 in
    let t = g.T.Thing in
    let live : is_live c.args.seat.now.known.rank ≡ true = ap (λ x. is_live x.known.rank) (sym c.seat.view_is) ∙ c.seat.invariant.2 in
    let drew = drawn_from c.args.seat.now.known d.0 c.seat.inside.inner.me _ d.1 (ap (λ x. x.known) c.seat.view_is) c.seat.invariant.0 c.seat.invariant.3 in
    has_thing t.plain t.mark t.answers c.args.self.now.key d.0 _ (record { known = c.args.seat.now.known; phase = Idle; parts = None }) _
    (looked_at t.plain t.mark t.answers _ _ _ _ drew c.await_turn.ensures.found) d.2 c.requires.of.1 live

pub returns-clause-calls : goal.returns-clause-calls
returns-clause-calls g c =
    let d = c.fetch_add-turn.ensures.2 in
    let t = g.T.Thing in
    let live : is_live c.args.seat.now.known.rank ≡ true = ap (λ x. is_live x.known.rank) (sym c.seat.view_is) ∙ c.seat.invariant.2 in
    let drew = drawn_from c.args.seat.now.known d.0 c.seat.inside.inner.me _ d.1 (ap (λ x. x.known) c.seat.view_is) c.seat.invariant.0 c.seat.invariant.3 in
    has_called t.plain t.mark t.answers c.args.self.now.key d.0 _ (record { known = c.args.seat.now.known; phase = Idle; parts = None }) _
    (looked_at t.plain t.mark t.answers _ _ _ _ drew c.await_turn.ensures.found) d.2 c.requires.of.1 live
    _ _ _ c.serve_in_turn.ensures.view c.serve_in_turn.ensures.run
