use Rattle.image_lanes.proofs.LaneLemmas.{sum_of_all}
use Rattle.image_lanes.proofs.adding.sum_of_lanes.Goals as goal

pub returns : goal.returns
returns c = sum_of_all c.args.lanes
