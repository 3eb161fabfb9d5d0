use Rattle.std.proofs.Common.{◌∙◌}
use Rattle.stack_base.specs.Tree.{tree}
use Rattle.task_steps.specs.Routed.{routing_setup}
use Rattle.task_steps.proofs.Devices.{is_manner, driver_manner}
use Rattle.task_steps.proofs.routes.Routes.manner.Goals as goal

-- the driver is that of the device
pub returns : goal.returns
returns c =
    let of = c.route.ensures in
    is_manner (routing_setup c.args.self.now) c.args.dev (tree c.args.self.now.stack c.args.dev.0) _ (
    c.manner.ensures ∙ driver_manner c.args.self.now.stack of.stack_is c.args.dev.0 of.device of.found c.route.result.now.driver of.is.driver
    )
