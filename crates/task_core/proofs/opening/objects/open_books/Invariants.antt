use Rattle.std.proofs.Common.{◌≡◌, length}
use Rattle.task_core.specs.opened.Openings.{AreBooks}
use Rattle.task_core.proofs.opening.objects.open_books.Given as goal

abbrev pub invariant-opening : goal.invariant-opening
invariant-opening l = record {
  opened : AreBooks l.routes l.writer l.books.items l.table;
  long : length l.table ≡ 8;
}
