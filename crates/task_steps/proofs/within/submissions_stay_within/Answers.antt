use Rattle.task_steps.proofs.StaysWithin.{submissions_stay_within}
use Rattle.task_steps.proofs.within.submissions_stay_within.Goals as goal

-- src/within.rt
pub returns : goal.returns
returns c = submissions_stay_within
