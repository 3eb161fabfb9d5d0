use Rattle.std.proofs.Common.{◌∙◌}
use Rattle.task_steps.proofs.Devices.{driver_legs}
use Rattle.task_steps.proofs.routes.Routes.legs.Goals as goal

-- the driver is that of the device
pub returns : goal.returns
returns c =
    let of = c.route.ensures in
    c.legs.ensures ∙ driver_legs c.args.self.now.stack of.stack_is c.args.dev.0 of.device of.found c.route.result.now.driver of.is.driver
