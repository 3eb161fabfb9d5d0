-- What was passed over has no written sector.
use Rattle.std.proofs.Common.{inl, inr, arith}
use Rattle.std.proofs.lemmas.Bool.{cases_lt}
use Rattle.model_disks.proofs.flags.first_written.Goals as goal

pub returns : goal.returns
returns c = record {
  behind = omega (arith, c.behind_unwritten.ensures.behind, c.first_place.ensures.behind);
  within = c.first_place.ensures.within;
  others = λ x le lt. elim (cases_lt x c.behind_unwritten.result) [
    | inl before ↦ c.behind_unwritten.ensures.none x le before
    | inr past ↦ c.first_place.ensures.others x past lt
  ];
  here = c.first_place.ensures.here;
}
