use Rattle.std.proofs.Common.{length}
use Rattle.task_core.specs.Plains.{objects_of}
use Rattle.serial_run.proofs.Pools.{begins, no_devices}
use Rattle.serial_run.proofs.left.add_all.Goals as goal

-- src/left.rt
pub returns-in-None : goal.returns-in-None
returns-in-None c =
    begins (objects_of c.args.objects.now) c.args.objects.now.stage.value.stack c.requires.one.holds.stack_is c.args.pools.now.items 0
    (no_devices c.args.tasks.now (length c.args.objects.now.stage.value.stack.devices.items) c.requires.some c.in-None.ensures.value)
