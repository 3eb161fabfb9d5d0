use Rattle.std.proofs.Common.{◌<◌, length, sym, subst}
use Rattle.task_steps.specs.Routed.{Routing, IsRouteOf}
use Rattle.task_steps.proofs.RouteOf.{route_at}
use Rattle.task_steps.proofs.routes.Routes.route.Goals as goal

pub returns : goal.returns
returns c =
    let d = c.index.result.now in
    rw (← c.self.view_is) (
    subst (IsRouteOf c.self.inside.stack.value c.args.dev.0) (sym c.index.ensures)
    (route_at c.self.inside.stack.value c.self.inside.routes.items c.self.invariant c.args.dev.0 d
    (subst (λ (r : Routing). c.args.dev.0 < length r.stack.devices.items) (sym c.self.view_is) c.requires)))
