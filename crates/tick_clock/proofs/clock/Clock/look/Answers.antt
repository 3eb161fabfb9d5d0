use Rattle.std.proofs.Common.{arith, sym, ap, ◌∙◌}
use Rattle.tick_clock.proofs.Steps.{looks}
use Rattle.tick_clock.proofs.clock.Clock.look.Goals as goal

pub load-pass-inside-requires : goal.load-pass-inside-requires
load-pass-inside-requires c =
    let own = ap (λ p. p.clock) c.pass.view_is ∙ c.requires ∙ sym c.self.view_is in
    (own, omega (arith, c.self.invariant), looks _ _ _ c.pass.invariant.live)
