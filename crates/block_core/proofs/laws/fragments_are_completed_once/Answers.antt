use Rattle.block_core.proofs.images.Completed.{fragments_add_up}
use Rattle.block_core.proofs.images.PlannedOnce.{none_is_completed_twice, no_other_is_completed, each_is_completed_once}
use Rattle.block_core.proofs.laws.fragments_are_completed_once.Goals as goal

-- src/laws.rt
pub returns-clause-all : goal.returns-clause-all
returns-clause-all c = fragments_add_up

pub returns-clause-once : goal.returns-clause-once
returns-clause-once c = none_is_completed_twice

pub returns-clause-others : goal.returns-clause-others
returns-clause-others c = no_other_is_completed

pub returns-clause-ended : goal.returns-clause-ended
returns-clause-ended c = each_is_completed_once
