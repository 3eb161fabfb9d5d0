use Rattle.std.proofs.Common.{◌≡◌, suc, length}
use Rattle.task_core.specs.opened.Openings.{AreSets}
use Rattle.task_core.proofs.opening.pools.open_sets.Given as goal

abbrev pub invariant-opening : goal.invariant-opening
invariant-opening l = record {
  opened : AreSets l.routes l.scripts l.reserves (suc l.number) l.bios.items l.table;
  long : length l.table ≡ 66;
}
