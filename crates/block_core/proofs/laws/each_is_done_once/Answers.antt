use Rattle.block_core.proofs.sound.WritesToldDone.{none_left_undone, tally_has_statuses, unfinished_until_done}
use Rattle.block_core.proofs.sound.EveryRun.{each_is_done_once}
use Rattle.block_core.proofs.laws.each_is_done_once.Goals as goal

-- src/laws.rt
pub returns-clause-once : goal.returns-clause-once
returns-clause-once c = each_is_done_once

pub returns-clause-unfinished : goal.returns-clause-unfinished
returns-clause-unfinished c = unfinished_until_done

pub returns-clause-statuses : goal.returns-clause-statuses
returns-clause-statuses c = tally_has_statuses

pub returns-clause-ended : goal.returns-clause-ended
returns-clause-ended c = none_left_undone
