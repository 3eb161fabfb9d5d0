use Rattle.std.proofs.Common.{sym, ap, subst}
use Rattle.tick_clock.specs.Tickets.{AreApart}
use Rattle.tick_clock.proofs.Rows.{pass_once}
use Rattle.tick_clock.proofs.clock.Clock.draw.Goals as goal

pub returns-then-try_draw-clause-apart : goal.returns-then-try_draw-clause-apart
returns-then-try_draw-clause-apart c =
    subst AreApart (sym (ap (λ p. p.drawn) c.pass-in-loop-last.view_is)) (pass_once c.try_draw.new.pass c.try_draw.ensures.shows).0

pub returns-clause-apart : goal.returns-clause-apart
returns-clause-apart c = (pass_once c.look.new.pass c.look.ensures.shows).0
