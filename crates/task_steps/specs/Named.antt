-- What is told of a task names what the stack has.
use Rattle.std.specs.Prelude.{◌≡◌, Some}
use Rattle.stack_base.specs.Stack.{IsStack}
use Rattle.run_machine.specs.declared.event.Event.{Event}
use Rattle.run_machine.specs.Requests.{Reply}
use Rattle.run_machine.specs.Tasks.{TaskState, request}
use Rattle.run_machine.specs.Events.{id_of, what_of}
use Rattle.run_machine.specs.Named.{IsEventOf}
use Rattle.task_steps.specs.Homes.{IsTaskOf}
use Rattle.task_steps.specs.Routed.{routing_setup}
use Rattle.task_steps.specs.Stage.{Stage}

-- whatever event is told of a task that a stage's objects have, whatever was replied, it names devices, disks and pools of their stack
abbrev pub TasksNameTheStack : Type 0
TasksNameTheStack = (stage : Stage) (task : TaskState) (reply : Reply) (event : Event) → IsStack stage.routing.stack → IsTaskOf stage task
    → event.task ≡ id_of task → what_of (request (routing_setup stage.routing) task) reply ≡ Some event.what → IsEventOf stage.routing.stack event
