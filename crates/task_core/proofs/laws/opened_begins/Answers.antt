use Rattle.task_core.proofs.opened.Begins.{opened_begins}
use Rattle.task_core.proofs.laws.opened_begins.Goals as goal

pub returns : goal.returns
returns c = opened_begins
