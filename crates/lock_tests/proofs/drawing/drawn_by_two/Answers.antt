use Rattle.std.proofs.Common.{◌∙◌, ap, subst}
use Rattle.tick_clock.specs.Tickets.{AreApart}
use Rattle.lock_tests.proofs.Differing.{differ, all_drawn, of_ok}
use Rattle.lock_tests.proofs.drawing.drawn_by_two.Goals as goal

pub returns : goal.returns
returns g c =
    let mine = of_ok _ _ _ c.in_ok-first.was c.join-mine.ensures.first in
    let theirs = of_ok _ _ _ c.in_ok-second.was c.join-mine.ensures.second in
    differ c.in_ok-first.first.drawn c.in_ok-second.second.drawn c.in_ok-first.mine.items c.in_ok-second.theirs.items
    (all_drawn _ _ _ mine (ap (λ p. p.drawn) c.split-second.ensures.counted ∙ ap (λ p. p.drawn) c.in_ok-clock.ensures))
    (all_drawn _ _ _ theirs (ap (λ p. p.drawn) c.split-second.ensures.fresh))
    (subst AreApart (ap (λ p. p.drawn) c.join.ensures.both) c.join.ensures.apart)
