use Rattle.std.proofs.Common.{arith, sym, ap, ◌∙◌}
use Rattle.tick_clock.specs.Tickets.{is_first_pass}
use Rattle.tick_clock.proofs.Rows.{pass_once}
use Rattle.tick_clock.proofs.Steps.{joins}
use Rattle.tick_clock.proofs.clock.Clock.join.Goals as goal

pub join_seat-requires : goal.join_seat-requires
join_seat-requires c =
    let own = ap (λ p. p.clock) c.pass.view_is ∙ c.requires.own.0 ∙ sym c.self.view_is in
    let theirs = ap (λ p. p.clock) c.other.view_is ∙ c.requires.own.1 ∙ sym c.self.view_is in
    let plain = ap (λ p. is_first_pass p.rank) c.other.view_is ∙ c.requires.other in
    (own, theirs, c.other.invariant.empty, omega (arith, c.self.invariant), joins _ _ _ _ c.pass.invariant.live plain c.other.invariant.live)

pub returns-clause-apart : goal.returns-clause-apart
returns-clause-apart c = (pass_once c.look.new.pass c.look.ensures.shows).0
