use Rattle.stack_check.proofs.DeviceTallies.{none_kept}
use Rattle.stack_check.proofs.devices.Devices.new.Goals as goal

pub invariant_of-result : goal.invariant_of-result
invariant_of-result c = none_kept c.new.result.items c.new-2.result.items c.new.ensures.items c.new-2.ensures
