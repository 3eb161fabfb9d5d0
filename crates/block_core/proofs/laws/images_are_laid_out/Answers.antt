use Rattle.block_core.proofs.images.ImagesLaid.{images_are_laid_out}
use Rattle.block_core.proofs.laws.images_are_laid_out.Goals as goal

-- src/laws.rt
pub returns : goal.returns
returns c = images_are_laid_out
