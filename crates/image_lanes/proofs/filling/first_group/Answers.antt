use Rattle.std.proofs.Common.{refl}
use Rattle.image_lanes.specs.Lanes.{counting}
use Rattle.image_lanes.proofs.filling.first_group.Goals as goal

pub returns : goal.returns
unfolding counting
returns c = refl
