use Rattle.std.proofs.Common.{◌≡◌, take}
use Rattle.run_machine.specs.Opened.{nodes_of}
use Rattle.task_core.proofs.opening.writers.nodes_of.Given as goal

abbrev pub invariant-counting : goal.invariant-counting
invariant-counting l = l.nodes ≡ nodes_of l.stack (take l.number l.todos)
