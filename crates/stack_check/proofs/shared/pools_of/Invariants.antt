use Rattle.std.proofs.Common.{◌≡◌, ◌≤◌, ◌++◌, length, take}
use Rattle.decl_text.specs.Accepting.{pools}
use Rattle.stack_check.proofs.PoolLemmas.{falling}
use Rattle.stack_check.proofs.shared.pools_of.Given as goal

abbrev pub invariant-loop-number : goal.invariant-loop-number
invariant-loop-number l = record {
  within : l.number ≤ length l.placed;
  rest : l.pools.items ++ falling (take l.number l.placed) ≡ pools l.placed;
}

abbrev pub decreases-loop-number : goal.decreases-loop-number
decreases-loop-number l = l.number
