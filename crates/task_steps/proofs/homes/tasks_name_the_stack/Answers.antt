use Rattle.task_steps.proofs.Named.{tasks_name_the_stack}
use Rattle.task_steps.proofs.homes.tasks_name_the_stack.Goals as goal

pub returns : goal.returns
returns c = tasks_name_the_stack
