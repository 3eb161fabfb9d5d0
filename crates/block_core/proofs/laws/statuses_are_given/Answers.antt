use Rattle.block_core.proofs.status.Statuses.{nodes_are_valued, statuses_are_given, ended_statuses_are_given}
use Rattle.block_core.proofs.laws.statuses_are_given.Goals as goal

-- src/laws.rt
pub returns-clause-kept : goal.returns-clause-kept
returns-clause-kept c = nodes_are_valued

pub returns-clause-done : goal.returns-clause-done
returns-clause-done c = statuses_are_given

pub returns-clause-ended : goal.returns-clause-ended
returns-clause-ended c = ended_statuses_are_given
