use Rattle.block_core.proofs.unrefused.AnswersInRuns.{replies_are_events}
use Rattle.block_core.proofs.unrefused.Unbroken.{no_task_breaks}
use Rattle.block_core.proofs.laws.no_task_breaks.Goals as goal

-- src/laws.rt
pub returns-clause-unrefused : goal.returns-clause-unrefused
returns-clause-unrefused c = no_task_breaks

pub returns-clause-replies : goal.returns-clause-replies
returns-clause-replies c = replies_are_events
