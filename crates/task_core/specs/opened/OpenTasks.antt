-- The tasks that are opened of work over a stack.
use Rattle.std.specs.Prelude.{◌≡◌, ◌≤◌, ◌^◌, ◌++◌, ℕ, List, length, sum}
use Rattle.stack_base.specs.declared.stack.Stack.{Stack}
use Rattle.work_text.specs.declared.Work.{Work}
use Rattle.run_machine.specs.Opened.{left_in, rounds_in, most_writers}
use Rattle.task_steps.specs.Routed.{Routing, routing_setup}
use Rattle.task_steps.specs.TaskViews.{TaskOf}
use Rattle.task_core.specs.opened.NewTasks.{others_in, with_routing, writers_in, ArePlaced}

-- Writers first and then the tasks of devices and the keeper, each with what all know of devices: the stack, and the places of the writers'
-- books. Beside them stands how many writes each round has.
pub record AreTasksOf (over : Stack) (work : Work) (routing : Routing) (opened : List TaskOf) (counts : List ℕ) : Type 0 where
  pub stack : routing.stack ≡ over
  pub placed : ArePlaced over work.rounds.items work.writes.items most_writers routing.places
  pub tasks : opened ≡ with_routing routing (writers_in work ++ others_in (routing_setup routing) work)
  pub left : counts ≡ left_in work.rounds.items
  pub all : sum counts ≡ length work.rounds.items
  pub short : rounds_in work.rounds.items ≤ 2 ^ 32
