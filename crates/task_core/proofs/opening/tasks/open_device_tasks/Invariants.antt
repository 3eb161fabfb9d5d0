use Rattle.std.specs.List.{range_with_len}
use Rattle.task_core.specs.opened.NewTasks.{device_tasks, AddsTasks}
use Rattle.task_steps.specs.Routed.{routing_setup}
use Rattle.task_core.proofs.opening.tasks.open_device_tasks.Given as goal

abbrev pub invariant-opening : goal.invariant-opening
invariant-opening l = AddsTasks l.initial.kinds.items (device_tasks l.which (routing_setup l.routes) (range_with_len 0 l.number)) l.kinds.items
