use Rattle.std.proofs.Common.{◌≡◌}
use Rattle.task_core.specs.opened.NewTasks.{shown_tasks, with_routing}
use Rattle.task_core.proofs.opening.tasks.tasks_of.Given as goal

abbrev pub invariant-sharing : goal.invariant-sharing
invariant-sharing l = l.tasks.items ≡ with_routing l.routes.value (shown_tasks l.yielded)
