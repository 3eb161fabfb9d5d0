use Rattle.image_lanes.proofs.LaneLemmas.{mask_decides}
use Rattle.image_lanes.proofs.comparing.same_group.Goals as goal

pub returns : goal.returns
returns c = mask_decides c.args.one c.args.other c.requires.0 c.requires.1
