use Rattle.std.proofs.Common.{[], ◌∷◌, ◌++◌, arith, sym, ◌∙◌, ap, subst}
use Rattle.seat_lock.specs.History.{HistoryLeaves}
use Rattle.seat_lock.specs.Seats.{call_of}
use Rattle.seat_lock.proofs.Keeping.{passes, after_it}
use Rattle.seat_lock.proofs.lock.SeatLock.pass_on.Goals as goal

pub fetch_add-served-requires : goal.fetch_add-served-requires
fetch_add-served-requires g c =
    let h = c.requires.turn in
    let t = g.T.Thing in (
      c.requires.of ∙ sym (ap (λ x. x.table) c.self.view_is),
      omega (arith, c.self.invariant),
      passes t.plain t.mark t.answers c.self.inside.table.shared.key _ _ _ c.requires.pick _ _ h.0 _ h.1 h.2 h.4 h.3
          (subst (λ x. HistoryLeaves t.plain t.mark t.answers x.key.value (c.args.inner.now.me.0.known.seen ++ call_of c.args.inner.now.me.0.known (t.asked c.args.asked.value) (t.told c.args.told.value) ∷ []) h.1) (sym c.self.view_is) h.5),
    )

pub returns-clause-view : goal.returns-clause-view
returns-clause-view g c =
    let h = c.requires.turn in
    let t = g.T.Thing in
    c.fetch_add-served.ensures.2 h.1 h.3 ∙ ap (λ v. (v, [])) (after_it t.plain t.mark t.answers c.args.self.now.key _ _ _ c.requires.pick c.args.inner.now.me.0)
