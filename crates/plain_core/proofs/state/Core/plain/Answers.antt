use Rattle.std.proofs.Common.{◌≡◌, ◌∙◌, ap, length, map, arith}
use Rattle.task_steps.specs.Routed.{Routing}
use Rattle.task_core.proofs.opened.Setups.{places_are}
use Rattle.task_core.proofs.opened.WritesSharedOut.{few_rounds}
use Rattle.run_machine.specs.Opened.{new_tally}
use Rattle.plain_core.specs.opening.Opening.{new_core_objects}
use Rattle.plain_core.specs.objects.Plain.{CoreObjects}
use Rattle.plain_core.specs.steps.Views.{task_of_plain}
use Rattle.plain_core.proofs.opening_lemmas.Opened.{is_core, round_count, opened_so, shared}
use Rattle.plain_core.proofs.opening_lemmas.SlotsRise.{shown_are, shown_first, shown_rises}
use Rattle.plain_core.proofs.state.Core.plain.Goals as goal

pub open_tasks-requires-clause-shared : goal.open_tasks-requires-clause-shared
open_tasks-requires-clause-shared c = shared c.args.stack.now c.args.scripts.now c.args.work.now c.requires

pub tasks_seen-seen-requires-clause-first : goal.tasks_seen-seen-requires-clause-first
tasks_seen-seen-requires-clause-first c =
    shown_first c.args.stack.now c.args.scripts.now c.args.work.now c.requires c.in_ok-routes.routes.value c.in_ok-routes.opened.items _
    c.in_ok-routes.left.items c.in_ok-routes.ensures c.deref.ensures.value

pub tasks_seen-seen-requires-clause-rising : goal.tasks_seen-seen-requires-clause-rising
tasks_seen-seen-requires-clause-rising c =
    shown_rises c.args.stack.now c.args.scripts.now c.args.work.now c.requires c.in_ok-routes.routes.value c.in_ok-routes.opened.items _
    c.in_ok-routes.left.items c.in_ok-routes.ensures c.deref.ensures.value

pub open_objects-requires-clause-same : goal.open_objects-requires-clause-same
open_objects-requires-clause-same c = ap (λ (r : Routing). r.stack) c.deref-2.ensures ∙ c.in_ok-routes.ensures.stack

pub open_objects-requires-clause-some : goal.open_objects-requires-clause-some
open_objects-requires-clause-some c = let long = round_count c.args.work.now.rounds.items c.in_ok-routes.left.items c.in_ok-routes.ensures.left in omega (arith, long)

pub open_objects-requires-clause-few : goal.open_objects-requires-clause-few
open_objects-requires-clause-few c =
    let long = round_count c.args.work.now.rounds.items c.in_ok-routes.left.items c.in_ok-routes.ensures.left in
    let short = c.in_ok-routes.ensures.short in
    omega (arith, long, short)

pub open_objects-requires-clause-unfinished : goal.open_objects-requires-clause-unfinished
open_objects-requires-clause-unfinished c =
    let stack = c.args.stack.now in
    let work = c.args.work.now in
    let all = c.in_ok-routes.ensures.all in
    let few = few_rounds stack work.rounds.items work.writes.items (shared stack c.args.scripts.now work c.requires) in
    omega (arith, all, few)

pub invariant_of-result : goal.invariant_of-result
invariant_of-result c =
    let stack = c.args.stack.now in
    let scripts = c.args.scripts.now in
    let work = c.args.work.now in
    let are = shown_are stack scripts work c.requires c.in_ok-routes.routes.value c.in_ok-routes.opened.items _ c.in_ok-routes.left.items c.in_ok-routes.ensures c.deref.ensures.value in
    is_core stack scripts work c.requires c.in_ok-routes.routes.value c.in_ok-objects.objects (map task_of_plain c.in_ok-tasks.tasks.items) c.in_ok-tasks.places.items
    c.in_ok-routes.ensures.stack (ap (λ (o : CoreObjects). o.stack) c.in_ok-objects.ensures) (c.in_ok-tasks.ensures.0 ∙ are) c.in_ok-tasks.ensures.1

pub returns : goal.returns
returns c =
    let stack = c.args.stack.now in
    let scripts = c.args.scripts.now in
    let work = c.args.work.now in
    let routing = c.in_ok-routes.routes.value in
    let are = shown_are stack scripts work c.requires routing c.in_ok-routes.opened.items _ c.in_ok-routes.left.items c.in_ok-routes.ensures c.deref.ensures.value in
    let written : c.len.result ≡ length work.writes.items = omega (arith, c.len.ensures, work.writes.ok.0) in
    let left = c.in_ok-routes.ensures.left in
    let kept = ap (λ (r : Routing). r.places) c.deref-2.ensures in
    let placed =
    places_are stack scripts work (shared stack scripts work c.requires) routing c.in_ok-routes.opened.items c.in_ok-routes.left.items c.in_ok-routes.ensures in
    opened_so stack scripts work c.requires routing.places placed
    (record { routing = routing; objects = c.in_ok-objects.objects; tasks = map task_of_plain c.in_ok-tasks.tasks.items })
    (λ k. record { stack = c.in_ok-routes.ensures.stack k; places = routing.places })
    (c.in_ok-objects.ensures ∙ (λ k. new_core_objects stack scripts (kept k) (new_tally (left k) (written k))))
    (c.in_ok-tasks.ensures.0 ∙ are)
