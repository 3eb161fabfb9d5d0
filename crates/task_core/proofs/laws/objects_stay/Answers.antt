use Rattle.task_core.proofs.laws.objects_stay.Goals as goal
use Rattle.task_core.proofs.Keeping.{objects_stay, objects_owe}

pub returns : goal.returns
returns c = λ stage old new request reply numbered fits all serves. (
  objects_stay stage old new request reply fits all serves,
  objects_owe stage old new request reply numbered fits all serves,
)
