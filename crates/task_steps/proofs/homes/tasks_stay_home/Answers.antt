use Rattle.task_steps.proofs.TaskHomes.{tasks_stay_home}
use Rattle.task_steps.proofs.homes.tasks_stay_home.Goals as goal

-- src/homes.rt
pub returns : goal.returns
returns c = tasks_stay_home
