use Rattle.std.proofs.Common.{◌++◌, ◌+◌, ◌≤◌, IsPermutation, length}
use Rattle.bio_workers.specs.declared.few.TheConstants.{MOST_TASKS}
use Rattle.bio_workers.proofs.hand.join.Given as goal

-- those that were moved and those that were not are all, and there is room
abbrev pub invariant-loop-task : goal.invariant-loop-task
invariant-loop-task g l = IsPermutation (l.fn.others ++ l.fn.tasks) (l.others ++ l.tasks) × (length l.tasks + length l.others ≤ MOST_TASKS)

abbrev pub decreases-loop-task : goal.decreases-loop-task
decreases-loop-task g l = length l.others
