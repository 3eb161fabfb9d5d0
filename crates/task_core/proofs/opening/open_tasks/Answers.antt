use Rattle.std.proofs.Common.{◌<◌, ◌≤◌, ◌^◌, ◌++◌, ◌∙◌, ℕ, List, ap, length, subst, sym}
use Rattle.std.specs.List.{range_with_len}
use Rattle.run_machine.specs.Opened.{left_in, rounds_in, writers_of}
use Rattle.task_core.specs.opened.NewTasks.{others_in, shown_tasks, with_routing}
use Rattle.task_core.specs.opened.OpenTasks.{AreTasksOf}
use Rattle.task_steps.specs.Routed.{Routing, routing_setup}
use Rattle.task_core.proofs.opened.WritesSharedOut.{few_rounds}
use Rattle.task_core.proofs.opening.open_tasks.Goals as goal

pub left_of-requires : goal.left_of-requires
left_of-requires c =
    let work = c.args.work.now in
    record {
      few = subst (λ (rounds : List ℕ). length rounds < 2 ^ 32) (sym c.deref.ensures.value)
          (few_rounds c.args.stack.now work.rounds.items work.writes.items c.requires.shared);
    }

pub open_others-requires-clause-few : goal.open_others-requires-clause-few
open_others-requires-clause-few c =
    let work = c.args.work.now in few_rounds c.args.stack.now work.rounds.items work.writes.items c.requires.shared

pub returns : goal.returns
returns c =
    let work = c.args.work.now in
    let routing = c.in_ok-routes.routes in
    let same = c.in_ok-routes-2.ensures.ok in
    let writers = writers_of work.rounds.items work.writes.items (range_with_len 0 8) in
    let others = others_in (routing_setup routing) work in
    let kinds = c.in_ok-open_others.ensures ∙ ap (λ tasks. tasks ++ others) (c.in_ok-routes.ensures.kinds ∙ ap (λ kinds. shown_tasks kinds ++ writers) c.new-kinds.ensures.items) in
    subst (λ (r : Routing). AreTasksOf c.args.stack.now work r c.in_ok-tasks.tasks.items c.in_ok-left.left.items) (sym same) (record {
      stack = c.in_ok-routes.ensures.routes.0;
      placed = c.in_ok-routes.ensures.routes.1;
      tasks = c.in_ok-tasks.ensures ∙ ap (λ r. with_routing r (shown_tasks c.open_others.new.kinds.items)) same ∙ ap (with_routing routing) kinds;
      left = c.in_ok-left.ensures.left ∙ ap left_in c.deref.ensures.value;
      all = c.in_ok-left.ensures.all ∙ ap length c.deref.ensures.value;
      short = subst (λ (rounds : List ℕ). rounds_in rounds ≤ 2 ^ 32) c.deref.ensures.value c.in_ok-left.ensures.short;
    })
