use Rattle.block_core.proofs.sound.OfOneWrite.{all_of_one_write}
use Rattle.block_core.proofs.laws.nodes_are_of_one_write.Goals as goal

-- src/laws.rt
pub returns : goal.returns
returns c = all_of_one_write
