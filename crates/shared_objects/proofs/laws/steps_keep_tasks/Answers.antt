use Rattle.shared_objects.proofs.logs.RanHolds.{steps_keep_tasks}
use Rattle.shared_objects.proofs.laws.steps_keep_tasks.Goals as goal

-- src/laws.rt
pub returns : goal.returns
returns c = steps_keep_tasks
