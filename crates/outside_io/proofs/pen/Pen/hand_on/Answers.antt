-- What is pending is put, unless the pen has failed before.
use Rattle.std.proofs.Common.{◌≡◌, ◌∙◌, sym, ap}
use Rattle.outside_io.proofs.SaysLemmas.{says_put, says_dropped}
use Rattle.outside_io.proofs.pen.Pen.hand_on.Goals.{then-not-self, else-not-self}
use Rattle.outside_io.proofs.pen.Pen.hand_on.Goals as goal

pub returns-clause-says : goal.returns-clause-says
returns-clause-says g c =
    let was = ap (λ pen. pen.failed) (sym c.self.view_is) in
    elim c.if-not-self.branch [
      | then-not-self w ↦
          let text : w.as_slice.result.now ≡ c.args.self.now.pending = w.as_slice.ensures.value ∙ ap (λ pen. pen.pending) c.self.view_is in
          rw w.sink-is
          (says_put w.put_all.result (was ∙ w.if-not-self.true) (ap (λ inside. inside.failed) w.self-inside-is ∙ w.is_err-self-inside.ensures.value)
          c.clear.ensures (rw text at w.put_all.ensures))
      | else-not-self w ↦ rw w.sink-is
          (says_dropped (was ∙ w.if-not-self.false) (ap (λ inside. inside.failed) w.self-inside-is ∙ w.if-not-self.false))
    ]
