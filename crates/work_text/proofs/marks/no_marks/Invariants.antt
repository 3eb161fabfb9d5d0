use Rattle.std.proofs.Common.{◌≡◌, ℕ, [], List, Some, length}
use Rattle.std.specs.Prelude.{slice_get}
use Rattle.work_text.specs.Marks.{IsRow}
use Rattle.work_text.proofs.marks.no_marks.Given as goal

abbrev pub invariant-loop-place : goal.invariant-loop-place
invariant-loop-place l = record {
  count : length l.all.items ≡ l.place;
  each : (dev : ℕ) (row : List ℕ) → slice_get l.all.items dev ≡ Some row → IsRow l.stack 1 [] dev row;
}
