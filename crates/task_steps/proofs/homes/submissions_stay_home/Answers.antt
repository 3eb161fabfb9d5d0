use Rattle.task_steps.proofs.SubmissionHomes.{submissions_stay_home}
use Rattle.task_steps.proofs.homes.submissions_stay_home.Goals as goal

-- src/homes.rt
pub returns : goal.returns
returns c = submissions_stay_home
