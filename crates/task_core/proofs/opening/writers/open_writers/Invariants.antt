use Rattle.std.specs.List.{range_with_len}
use Rattle.run_machine.specs.Opened.{writers_of}
use Rattle.task_core.specs.opened.NewTasks.{AddsTasks, ArePlaced}
use Rattle.task_core.proofs.opening.writers.open_writers.Given as goal

abbrev pub invariant-opening : goal.invariant-opening
invariant-opening l = record {
  kinds : AddsTasks l.initial.kinds.items (writers_of l.work.rounds.items l.work.writes.items (range_with_len 0 l.writer)) l.kinds.items;
  places : ArePlaced l.stack l.work.rounds.items l.work.writes.items l.writer l.places;
}
