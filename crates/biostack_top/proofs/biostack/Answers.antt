-- An order for threads is for few. Where the words give no order, the output is as it was.
use Rattle.std.proofs.Common.{◌≡◌, ◌∙◌, Some, map, refl, subst, sym}
use Rattle.std.proofs.KnownBytes.{Keeps-refl}
use Rattle.std.specs.String.{string_bytes}
use Rattle.biostack_words.specs.Grammar.{order_meant}
use Rattle.biostack_words.specs.declared.order.Order.{Order}
use Rattle.biostack_words.specs.declared.order.Order.TheVariants.{Workers}
use Rattle.biostack_top.proofs.OrderLemmas.{few_workers, is_workers}
use Rattle.biostack_top.proofs.biostack.Goals as goal

pub serve_shared-requires-clause-workers : goal.serve_shared-requires-clause-workers
serve_shared-requires-clause-workers g c κs within =
    few_workers (map string_bytes c.args.words.now) c.in-Ok.order c.in-Some.workers c.in-Some.trace c.in-Ok.ensures (sym c.workers_in.ensures ∙ c.in-Some.is)

pub returns-in-Some-clause-refused : goal.returns-in-Some-clause-refused
returns-in-Some-clause-refused g c = λ is.
    let order = is_workers c.in-Ok.order c.in-Some.workers c.in-Some.trace (sym c.workers_in.ensures ∙ c.in-Some.is) in (
      Workers c.in-Some.workers c.in-Some.trace,
      subst (λ (o : Order). order_meant (map string_bytes c.args.words.now) ≡ Some o) order c.in-Ok.ensures,
      c.serve_shared.ensures.refused is,
    )

pub returns-in-Some-clause-shown : goal.returns-in-Some-clause-shown
returns-in-Some-clause-shown g c = λ is.
    let order = is_workers c.in-Ok.order c.in-Some.workers c.in-Some.trace (sym c.workers_in.ensures ∙ c.in-Some.is) in (
      c.in-Some.workers,
      c.in-Some.trace,
      subst (λ (o : Order). order_meant (map string_bytes c.args.words.now) ≡ Some o) order c.in-Ok.ensures,
      c.serve_shared.ensures.shown is,
    )

pub returns-in-None-clause-refused : goal.returns-in-None-clause-refused
returns-in-None-clause-refused g c = λ is. (c.in-Ok.order, c.in-Ok.ensures, c.serve_alone.ensures.refused is)

pub returns-in-Err-clause-stops : goal.returns-in-Err-clause-stops
returns-in-Err-clause-stops g c = (c.args.out.now, refl, Keeps-refl (g.K.Sink.held c.args.out.now))
