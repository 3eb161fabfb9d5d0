use Rattle.std.proofs.Common.{◌≡◌, ◌+◌, ◌*◌, ◌-◌, not, ap, arith}
use Rattle.image_lanes.proofs.SectorLemmas.{tells_same}
use Rattle.image_lanes.proofs.comparing.is_unlike.Goals as goal

pub returns : goal.returns
returns c =
    let size : 64 * c.args.place + 64 - 64 * c.args.place ≡ 64 = omega arith in
    ap not (tells_same c.same.result _ _ (rw size at c.same.ensures))
