use Rattle.std.proofs.Common.{◌-◌}
use Rattle.task_core.specs.opened.OfOne.{scenario_in}
use Rattle.block_core.specs.Bounded.{most_steps}
use Rattle.serial_run.proofs.UnderWay.{IsUnderWay}
use Rattle.serial_run.proofs.run.run_serial.Given as goal

abbrev pub invariant-turns : goal.invariant-turns
invariant-turns g l = IsUnderWay g.V.Events.happens l.fn.opened l.fn.schedule l.fn.events l.objects l.tasks l.schedule l.events l.steps

abbrev pub decreases-turns : goal.decreases-turns
decreases-turns g l = most_steps (scenario_in l.fn.opened) - l.steps
