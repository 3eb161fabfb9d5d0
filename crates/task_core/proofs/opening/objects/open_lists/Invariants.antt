use Rattle.std.proofs.Common.{◌≡◌, length}
use Rattle.task_core.specs.opened.Openings.{AreLists}
use Rattle.task_core.proofs.opening.objects.open_lists.Given as goal

abbrev pub invariant-opening : goal.invariant-opening
invariant-opening l = record {
  opened : AreLists l.routes l.number l.lists.items l.table;
  long : length l.table ≡ 32;
}
