use Rattle.block_core.proofs.sound.LargestCounts.{outs_are_within_what_writes_need, ends_are_within_places_and_tasks, no_counter_is_full}
use Rattle.block_core.proofs.laws.no_counter_is_full.Goals as goal

-- src/laws.rt
pub returns-clause-outs : goal.returns-clause-outs
returns-clause-outs c = outs_are_within_what_writes_need

pub returns-clause-ends : goal.returns-clause-ends
returns-clause-ends c = ends_are_within_places_and_tasks

pub returns-clause-counters : goal.returns-clause-counters
returns-clause-counters c = no_counter_is_full
