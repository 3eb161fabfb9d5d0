use Rattle.std.proofs.Common.{◌≡◌, ◌≤◌, take}
use Rattle.layout_model.specs.Bound.{most_elements, all_elements, all_fragments}
use Rattle.layout_model.proofs.totals.bound.Given as goal

abbrev pub invariant-loop-number : goal.invariant-loop-number
invariant-loop-number l = record {
  elements : l.e ≡ all_elements l.stack (take l.number l.writes);
  allowed : l.e ≤ most_elements;
  fragments : l.g ≡ all_fragments l.stack (take l.number l.writes);
  fewer : l.g ≤ l.e;
  -- each write so far needs its own bio
  counted : l.number ≤ l.e;
}
