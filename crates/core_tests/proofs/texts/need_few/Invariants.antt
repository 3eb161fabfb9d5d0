use Rattle.std.proofs.Common.{◌≡◌, ◌≤◌, take}
use Rattle.layout_model.specs.Bound.{all_elements, most_elements}
use Rattle.core_tests.proofs.texts.need_few.Given as goal

abbrev pub invariant-adding : goal.invariant-adding
invariant-adding l = record {
  added : l.total ≡ all_elements l.stack (take l.write-index l.writes);
  few : l.total ≤ most_elements;
}
