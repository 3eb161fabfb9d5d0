use Rattle.std.proofs.Common.{◌≡◌, ◌≤◌}
use Rattle.std.specs.Prelude.{vec_capacity}
use Rattle.std.specs.List.{range_with_len}
use Rattle.model_disks.proofs.pages.in_turn.Given as goal

abbrev pub invariant-numbering : goal.invariant-numbering
invariant-numbering l = record {
  made : l.numbers.items ≡ range_with_len 0 l.number;
  room : l.count ≤ vec_capacity l.numbers;
}
