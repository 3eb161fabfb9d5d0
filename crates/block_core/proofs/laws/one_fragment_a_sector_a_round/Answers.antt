use Rattle.block_core.proofs.images.ImagesLaid.{one_fragment_a_sector_a_round}
use Rattle.block_core.proofs.laws.one_fragment_a_sector_a_round.Goals as goal

-- src/laws.rt
pub returns : goal.returns
returns c = one_fragment_a_sector_a_round
