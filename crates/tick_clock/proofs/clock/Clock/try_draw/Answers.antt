use Rattle.std.proofs.Common.{◌+◌, max, arith, sym, ap, ◌∙◌}
use Rattle.tick_clock.proofs.Steps.{draws}
use Rattle.tick_clock.proofs.clock.Clock.try_draw.Goals as goal

pub compare_exchange_with-found-requires : goal.compare_exchange_with-found-requires
compare_exchange_with-found-requires c =
    let own = ap (λ p. p.clock) c.pass.view_is ∙ c.requires.own ∙ sym c.self.view_is in
    let known = sym (ap (λ p. p.known) c.pass.view_is) ∙ c.pass.invariant.found in
    let next = c.requires.next ∙ ap (λ k. max k c.args.seen + 1) known in
    (own, omega (arith, c.self.invariant), draws _ _ _ _ _ _ c.pass.invariant.live next (omega (arith, c.ranges.ticket.fits)))
