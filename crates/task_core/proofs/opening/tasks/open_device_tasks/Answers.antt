use Rattle.task_core.specs.opened.NewTasks.{device_tasks}
use Rattle.task_steps.specs.Routed.{routing_setup}
use Rattle.task_core.proofs.opened.WritesSharedOut.{adds_more, device_split}
use Rattle.task_core.proofs.opening.tasks.open_device_tasks.Goals as goal

pub opening-preserved : goal.opening-preserved
opening-preserved c =
    let setup = routing_setup c.args.routes.now in
    adds_more (device_tasks c.args.which setup) c.opening.number c.args.kinds.now.items c.opening.kinds.items c.add_device_task.new.kinds.items
    (device_split c.args.which setup c.opening.number) c.opening.invariant c.in_ok-add_device_task.ensures
