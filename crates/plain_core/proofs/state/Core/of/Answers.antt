use Rattle.std.proofs.Common.{ap, sym, ◌∙◌, List, map, subst}
use Rattle.std.specs.Prelude.{All}
use Rattle.task_core.specs.opened.OfOne.{scenario_in, states}
use Rattle.task_steps.specs.TaskViews.{TaskOf}
use Rattle.task_steps.specs.Routed.{Routing}
use Rattle.plain_core.specs.opening.Opening.{core_objects_of}
use Rattle.plain_core.specs.opening.Seen.{HasNotBegun, Rises}
use Rattle.plain_core.specs.steps.Views.{task_of_plain}
use Rattle.plain_core.proofs.opening_lemmas.SeenCores.{seen_first, seen_is_core, seen_rises, seen_so}
use Rattle.plain_core.proofs.state.Core.of.Goals as goal

pub objects_seen-requires-clause-routes : goal.objects_seen-requires-clause-routes
objects_seen-requires-clause-routes c = c.deref.ensures ∙ c.in_ok-routes.ensures ∙ c.requires.routes

pub tasks_seen-requires-clause-first : goal.tasks_seen-requires-clause-first
tasks_seen-requires-clause-first c = subst (λ (ts : List TaskOf). All HasNotBegun (states ts)) (sym c.deref-2.ensures.value) (seen_first c.args.opened.now c.requires)

pub tasks_seen-requires-clause-rising : goal.tasks_seen-requires-clause-rising
tasks_seen-requires-clause-rising c = subst (λ (ts : List TaskOf). Rises 0 (states ts) 73) (sym c.deref-2.ensures.value) (seen_rises c.args.opened.now c.requires)

pub invariant_of-result : goal.invariant_of-result
invariant_of-result c =
    let o = c.args.opened.now in
    seen_is_core o c.requires c.in_ok-routes.routes.value c.in_ok-objects.objects (map task_of_plain c.in_ok-tasks.tasks.items) c.in_ok-tasks.places.items
    (c.in_ok-routes.ensures ∙ c.requires.routes)
    (c.in_ok-objects.ensures ∙ ap (λ (r : Routing). core_objects_of (scenario_in o) r.places) c.deref.ensures)
    (c.in_ok-tasks.ensures.0 ∙ ap states c.deref-2.ensures.value) c.in_ok-tasks.ensures.1

pub returns : goal.returns
returns c =
    let o = c.args.opened.now in
    seen_so o c.requires (record { routing = c.in_ok-routes.routes.value; objects = c.in_ok-objects.objects; tasks = map task_of_plain c.in_ok-tasks.tasks.items })
    (c.in_ok-routes.ensures ∙ c.requires.routes)
    (c.in_ok-objects.ensures ∙ ap (λ (r : Routing). core_objects_of (scenario_in o) r.places) c.deref.ensures)
    (c.in_ok-tasks.ensures.0 ∙ ap states c.deref-2.ensures.value)
