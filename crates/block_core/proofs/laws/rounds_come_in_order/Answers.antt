use Rattle.block_core.proofs.images.RoundByRound.{rounds_come_in_order}
use Rattle.block_core.proofs.laws.rounds_come_in_order.Goals as goal

-- src/laws.rt
pub returns : goal.returns
returns c = rounds_come_in_order
