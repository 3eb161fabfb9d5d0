use Rattle.std.proofs.Common.{arith, sym, ◌∙◌, ap}
use Rattle.seat_lock.specs.Seats.{is_first}
use Rattle.seat_lock.proofs.Closing.{joins, learns}
use Rattle.seat_lock.proofs.lock.SeatLock.join.Goals as goal

pub join_seat-requires : goal.join_seat-requires
join_seat-requires g c =
    let here = sym (ap (λ x. x.table) c.self.view_is) in
    let own = ap (λ x. x.table) c.seat.view_is ∙ c.requires.of.0.0 ∙ here in
    let theirs = c.into_inner-theirs.ensures in
    let t = g.T.Thing in (
      own,
      theirs.0 ∙ c.requires.of.1.0 ∙ here,
      theirs.2.0,
      omega (arith, c.self.invariant),
      λ s r e ne e'. joins t.plain t.mark t.answers c.self.inside.table.shared.key s _ _ _ _ c.seat.invariant.1 c.seat.invariant.2 theirs.2.1 (ap (λ v. is_first v.rank) theirs.1 ∙ c.requires.other) theirs.2.2 r e ne e',
    )

pub load-requires : goal.load-requires
load-requires g c =
    let own = ap (λ x. x.table) c.seat.view_is ∙ c.requires.of.0.0 ∙ sym (ap (λ x. x.table) c.self.view_is) in
    let t = g.T.Thing in
    (c.join_seat.ensures.0 ∙ own, omega (arith, c.self.invariant), learns t.plain t.mark t.answers c.self.inside.table.shared.key _ _ _ (ap (λ m. m.0.phase) c.join_seat.ensures.2 ∙ c.seat.invariant.1))
