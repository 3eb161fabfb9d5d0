-- The parts of a bio that is split.
use Rattle.std.proofs.Common.{refl, arith}
use Rattle.bio_records.proofs.RunLemmas.{front_and_rest_are_the_run}
use Rattle.bio_split.specs.Split.{PartsAreTheWhole}

-- they are all of it
pub parts_are_the_whole : PartsAreTheWhole
parts_are_the_whole whole into n set node some fewer = record {
  run = front_and_rest_are_the_run whole.bio n (omega arith);
  meet = (refl, refl);
  lengths = omega arith;
  front_between = (some, fewer);
  rest_between = (omega arith, omega arith);
  write = (refl, refl);
  writer = (refl, refl);
  dev = (refl, refl);
}
