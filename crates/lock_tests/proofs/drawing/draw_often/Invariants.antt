use Rattle.lock_tests.specs.Drawing.{PassHasDrawn}
use Rattle.lock_tests.proofs.drawing.draw_often.Given as goal

-- the tickets so far were drawn with the pass
abbrev pub invariant-drawing : goal.invariant-drawing
invariant-drawing l = PassHasDrawn l.initial.pass l.pass l.tickets.items
