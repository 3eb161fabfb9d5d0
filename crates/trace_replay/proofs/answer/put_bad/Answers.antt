-- Where no line is bad, nothing is said.
use Rattle.std.proofs.Common.{ℕ, Option, sym, subst}
use Rattle.outside_io.specs.Saying.{Says}
use Rattle.outside_io.proofs.SaysLemmas.{says_silence}
use Rattle.trace_replay.specs.Answer.{bad_line}
use Rattle.trace_replay.proofs.answer.put_bad.Goals as goal

pub returns-in_default : goal.returns-in_default
returns-in_default g c =
    subst (λ (bad : Option ℕ). Says g.K.Sink c.args.out.now c.args.pen.now c.args.out.now c.args.pen.now (bad_line bad))
    (sym c.in_default.is) (says_silence g.K.Sink c.args.out.now c.args.pen.now)
