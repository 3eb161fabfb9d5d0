use Rattle.std.proofs.Common.{◌≡◌, length}
use Rattle.task_core.specs.opened.Openings.{AreDisks}
use Rattle.task_core.proofs.opening.objects.open_disks.Given as goal

abbrev pub invariant-opening : goal.invariant-opening
invariant-opening l = record {
  opened : AreDisks l.routes l.number l.disks.items l.table;
  long : length l.table ≡ 32;
}
