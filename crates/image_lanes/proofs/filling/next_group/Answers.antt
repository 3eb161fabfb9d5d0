use Rattle.std.proofs.Common.{◌∙◌, replicate, ap}
use Rattle.std.specs.Simd.Lanes.{zip2}
use Rattle.image_lanes.proofs.LaneLemmas.{add_mod, counting_next}
use Rattle.image_lanes.proofs.filling.next_group.Goals as goal

pub returns : goal.returns
returns c = λ first is. ap (λ lanes. zip2 add_mod lanes (replicate 8 8)) is ∙ counting_next first
