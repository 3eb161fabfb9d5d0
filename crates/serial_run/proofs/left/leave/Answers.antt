use Rattle.std.proofs.Common.{◌∙◌, refl, ap}
use Rattle.task_core.specs.Plains.{objects_of}
use Rattle.serial_run.proofs.Disks.{disks_in_order}
use Rattle.serial_run.proofs.Pools.{all_pools}
use Rattle.serial_run.proofs.left.leave.Goals as goal

-- src/left.rt
pub returns : goal.returns
returns c = record {
  statuses = ap (λ kept. kept.0.items) c.leaves-statuses.ensures;
  disks = ap (λ kept. kept.1.items) c.leaves-statuses.ensures ∙ disks_in_order c.args.objects c.requires.one.holds;
  pools =
      all_pools (objects_of c.args.objects) c.args.objects.stage.value.stack c.args.room.pools.items c.add.new.pools.items c.add-2.new.pools.items
      c.add_all.new.pools.items c.requires.room.pools.0 c.add.ensures.added c.add-2.ensures.added c.add_all.ensures;
  steps = refl;
}
