use Rattle.std.proofs.Common.{◌≡◌, map, take}
use Rattle.std.specs.Prelude.{sum}
use Rattle.std.specs.List.{range_with_len}
use Rattle.run_machine.specs.Opened.{in_round, rounds_in}
use Rattle.task_core.proofs.opening.rounds.left_of.Given as goal

abbrev pub invariant-counting : goal.invariant-counting
invariant-counting l = record {
  left : l.left.items ≡ map (in_round (take l.i l.rounds)) (range_with_len 0 (rounds_in l.rounds));
  all : sum l.left.items ≡ l.i;
}
