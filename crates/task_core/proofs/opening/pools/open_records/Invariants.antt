use Rattle.std.proofs.Common.{◌≡◌, length}
use Rattle.task_core.specs.opened.Openings.{AreRecords}
use Rattle.task_core.proofs.opening.pools.open_records.Given as goal

abbrev pub invariant-opening : goal.invariant-opening
invariant-opening l = record {
  opened : AreRecords l.routes l.scripts l.reserves l.number l.records.items l.table;
  long : length l.table ≡ 66;
}
