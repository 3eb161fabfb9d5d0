-- Where nothing was kept there is to be no trace. Where something was, it is all events.
use Rattle.std.proofs.Common.{◌≡◌, ◌∙◌, Bool, false, ap, is_some, sym, subst}
use Rattle.std.specs.Prelude.{Ok}
use Rattle.outside_io.specs.declared.source.Failed.{Failed}
use Rattle.outside_io.specs.Saying.{Writes}
use Rattle.biostack_top.specs.Tracing.{traced}
use Rattle.biostack_top.proofs.TraceLemmas.{nothing_written}
use Rattle.biostack_top.proofs.trace.write_trace.Goals as goal

pub returns-in-None-clause-written : goal.returns-in-None-clause-written
returns-in-None-clause-written g c trace events is =
    let none : trace ≡ false = sym is.0 ∙ ap is_some c.in-None.is in
    subst (λ (b : Bool). Writes {E = Failed} g.K.Sink c.args.out.now c.args.out.now (Ok tt) (traced b c.args.stack.now events))
    (sym none) (nothing_written g.K.Sink c.args.out.now)
