use Rattle.task_steps.proofs.TaskStays.{tasks_stay_within}
use Rattle.task_steps.proofs.within.tasks_stay_within.Goals as goal

-- src/within.rt
pub returns : goal.returns
returns c = tasks_stay_within
