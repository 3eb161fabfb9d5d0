use Rattle.std.proofs.Common.{◌≡◌, length}
use Rattle.task_steps.specs.Routed.{AreRoutes}
use Rattle.task_steps.proofs.routes.Routes.new.Given as goal

-- the first devices have their routes
abbrev pub invariant-routing : goal.invariant-routing
invariant-routing l = record {
  each : AreRoutes l.stack l.routes.items;
  all : length l.routes.items ≡ l.number;
}
