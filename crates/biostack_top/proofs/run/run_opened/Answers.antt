-- Where there is to be a trace, its lines are written, and else nothing is.
use Rattle.std.proofs.Common.{List, ℕ, ap, sym, subst}
use Rattle.std.specs.Prelude.{Ok}
use Rattle.outside_io.specs.declared.source.Failed.{Failed}
use Rattle.outside_io.specs.Saying.{Writes}
use Rattle.biostack_top.specs.Tracing.{traced}
use Rattle.biostack_top.proofs.TraceLemmas.{nothing_written}
use Rattle.biostack_top.proofs.run.run_opened.Goals as goal

pub returns-then-trace : goal.returns-then-trace
returns-then-trace g c =
    let by = c.run_traced.ensures in (
      by.0,
      by.1,
      subst
          (λ (text : List ℕ). Writes g.K.Sink c.args.out.now c.run_traced.new.out c.run_traced.result.1 text)
          (ap (λ trace. traced trace c.args.stack.now by.0) (sym c.if-trace.true)) by.2,
    )

pub returns-else-trace : goal.returns-else-trace
returns-else-trace g c =
    let by = c.run_quiet.ensures in (
      by.0,
      by.1,
      subst (λ (text : List ℕ). Writes {E = Failed} g.K.Sink c.args.out.now c.args.out.now (Ok tt) text)
          (ap (λ trace. traced trace c.args.stack.now by.0) (sym c.if-trace.false))
          (nothing_written g.K.Sink c.args.out.now),
    )
