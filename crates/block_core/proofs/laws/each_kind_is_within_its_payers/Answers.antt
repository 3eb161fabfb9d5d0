use Rattle.block_core.proofs.bound.KindTimes.{each_kind_is_within_its_payers}
use Rattle.block_core.proofs.bound.PayerCounts.{payers_are_counted}
use Rattle.block_core.proofs.laws.each_kind_is_within_its_payers.Goals as goal

-- src/laws.rt
pub returns-clause-counted : goal.returns-clause-counted
returns-clause-counted c = payers_are_counted

pub returns-clause-kinds : goal.returns-clause-kinds
returns-clause-kinds c = each_kind_is_within_its_payers
