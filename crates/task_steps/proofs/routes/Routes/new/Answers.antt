use Rattle.std.proofs.Common.{◌≡◌, length, length-append, sym, ap, subst, Some, arith}
use Rattle.std.specs.Prelude.{slice_get}
use Rattle.task_steps.specs.declared.routes.Route.{Route}
use Rattle.std.specs.Prelude.{List}
use Rattle.task_steps.specs.Routed.{AreRoutes}
use Rattle.task_steps.proofs.RoutesMade.{more_routes}
use Rattle.task_steps.proofs.routes.Routes.new.Goals as goal

-- the next device has its route too
pub routing-preserved : goal.routing-preserved
routing-preserved c =
    let stack = c.args.stack.now in
    let routes = c.routing.routes.items in
    let P : List Route → Type 0 = AreRoutes stack in
    record {
      each = subst P (sym c.in_ok-push.ensures.items) (more_routes stack routes c.route_of.result c.routing.invariant.each (λ device found.
          c.route_of.ensures device (subst (λ n. slice_get stack.devices.items n ≡ Some device) c.routing.invariant.all found)));
      all = omega (arith, simp length-append at (ap length c.in_ok-push.ensures.items), c.routing.invariant.all);
    }
