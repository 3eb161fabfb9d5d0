use Rattle.std.proofs.Common.{arith, sym, ap, ◌∙◌}
use Rattle.tick_clock.specs.Tickets.{is_first_pass}
use Rattle.tick_clock.proofs.Steps.{splits}
use Rattle.tick_clock.proofs.clock.Clock.split.Goals as goal

pub split_seat-seat-requires : goal.split_seat-seat-requires
split_seat-seat-requires c =
    let own = ap (λ p. p.clock) c.pass.view_is ∙ c.requires.own ∙ sym c.self.view_is in
    (own, omega (arith, c.self.invariant), splits _ _ (ap (λ p. is_first_pass p.rank) c.pass.view_is ∙ c.requires.first))
