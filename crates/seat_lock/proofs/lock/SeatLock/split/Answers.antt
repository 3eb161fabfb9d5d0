use Rattle.std.proofs.Common.{◌<◌, arith, sym, ◌∙◌, ap, subst}
use Rattle.seat_lock.specs.Seats.{is_first, split_of}
use Rattle.seat_lock.proofs.Closing.{splits, learns}
use Rattle.seat_lock.proofs.lock.SeatLock.split.Goals as goal

pub split_seat-inner-requires : goal.split_seat-inner-requires
split_seat-inner-requires g c =
    let own = ap (λ x. x.table) c.seat.view_is ∙ c.requires.of.0 ∙ sym (ap (λ x. x.table) c.self.view_is) in
    let t = g.T.Thing in (
      own,
      omega (arith, c.self.invariant),
      λ s r e. splits t.plain t.mark t.answers c.self.inside.table.shared.key s _ _
          (ap (λ x. is_first x.known.rank) c.seat.view_is ∙ c.requires.first.0) c.seat.invariant.1 (subst (λ x. split_of x.known.rank < 65535) (sym c.seat.view_is) c.requires.first.1) r e,
    )

pub load-requires : goal.load-requires
load-requires g c =
    let own = ap (λ x. x.table) c.seat.view_is ∙ c.requires.of.0 ∙ sym (ap (λ x. x.table) c.self.view_is) in
    let t = g.T.Thing in
    (c.split_seat-inner.ensures.3 ∙ own, omega (arith, c.self.invariant), learns t.plain t.mark t.answers c.self.inside.table.shared.key _ _ _ (ap (λ m. m.0.phase) c.split_seat-inner.ensures.4))
