use Rattle.std.proofs.Common.{arith}
use Rattle.task_steps.proofs.Devices.{driver_legs, driver_leg}
use Rattle.task_steps.proofs.routes.Routes.leg.Goals as goal

-- the driver is that of the device
pub leg-requires : goal.leg-requires
leg-requires c =
    let of = c.route.ensures in
    let same = driver_legs c.args.self.now.stack of.stack_is c.args.bio.now.dev.0 of.device of.found c.route.result.now.driver of.is.driver in
    omega (arith, c.requires.leg, same)

pub returns : goal.returns
returns c =
    let of = c.route.ensures in
    driver_leg c.args.self.now.stack of.stack_is c.args.bio.now of.device of.found c.route.result.now.driver of.is.driver c.requires.within
    c.args.leg c.args.node c.leg.result c.leg.ensures
