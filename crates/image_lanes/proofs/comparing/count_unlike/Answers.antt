-- One more sector, which differs or not.
use Rattle.std.proofs.Common.{refl, arith}
use Rattle.image_lanes.specs.Lanes.{sectors, unlike_of}
use Rattle.image_lanes.proofs.SectorLemmas.{unlike_more, byte_is}
use Rattle.image_lanes.proofs.comparing.count_unlike.Goals as goal

pub counting-init : goal.counting-init
unfolding unlike_of sectors
counting-init c = record { count = refl; fits = omega arith }

pub counting-preserved : goal.counting-preserved
counting-preserved c =
    let kept = c.counting.invariant in
    let one = byte_is c.is_unlike.result _ c.is_unlike.ensures in
    record {
      count = omega (arith, kept.count, c.from-count.ensures, one.0, unlike_more c.counting.place c.args.a.now c.args.b.now);
      fits = omega (arith, kept.fits, c.from-count.ensures, one.1);
    }
