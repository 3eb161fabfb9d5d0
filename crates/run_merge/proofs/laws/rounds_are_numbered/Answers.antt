use Rattle.run_merge.proofs.products.RoundOrder.{rounds_are_numbered}
use Rattle.run_merge.proofs.laws.rounds_are_numbered.Goals as goal

-- src/laws.rt
pub returns : goal.returns
returns c = rounds_are_numbered
