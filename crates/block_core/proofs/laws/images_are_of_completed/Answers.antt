use Rattle.block_core.proofs.images.ImageData.{images_are_of_completed}
use Rattle.block_core.proofs.laws.images_are_of_completed.Goals as goal

-- src/laws.rt
pub returns : goal.returns
returns c = images_are_of_completed
