use Rattle.std.proofs.Common.{◌≡◌, filter, take}
use Rattle.run_machine.specs.Opened.{is_by, numbered}
use Rattle.task_core.proofs.opening.writers.todos_by.Given as goal

abbrev pub invariant-sharing : goal.invariant-sharing
invariant-sharing l = l.todos.items ≡ filter (is_by l.writer) (take l.number (numbered l.work.rounds.items l.work.writes.items))
