use Rattle.std.proofs.Common.{refl}
use Rattle.stack_base.specs.Words.{zero_sector}
use Rattle.model_disks.proofs.pages.zeros.Goals as goal

pub returns : goal.returns
unfolding zero_sector
returns c = refl
