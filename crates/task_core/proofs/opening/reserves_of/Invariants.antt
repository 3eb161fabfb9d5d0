use Rattle.std.proofs.Common.{◌≡◌, take}
use Rattle.task_core.specs.opened.NewTasks.{reserves_in}
use Rattle.task_core.proofs.opening.reserves_of.Given as goal

abbrev pub invariant-reserving : goal.invariant-reserving
invariant-reserving l = l.reserves.items ≡ reserves_in (take l.i l.resizes)
