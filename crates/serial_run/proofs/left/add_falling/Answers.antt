use Rattle.std.proofs.Common.{◌-◌, sym, subst, arith}
use Rattle.stack_base.specs.Stack.{IsStack}
use Rattle.task_core.specs.Plains.{objects_of}
use Rattle.task_steps.specs.Routed.{Routing}
use Rattle.serial_run.proofs.Pools.{begins, has_room, one_more}
use Rattle.serial_run.proofs.left.add_falling.Goals as goal

-- src/left.rt
pub adding-init : goal.adding-init
adding-init c =
    let good : IsStack c.args.routes.now.stack = subst (λ (r : Routing). IsStack r.stack) (sym c.requires.routing) c.requires.holds.stack_is in
    let count = c.count-number.ensures in
    (begins (objects_of c.args.objects.now) c.args.routes.now.stack good c.args.pools.now.items c.count-number.result count, omega arith, omega (arith, count))

pub add_of-requires-clause-room : goal.add_of-requires-clause-room
add_of-requires-clause-room c =
    let good : IsStack c.args.routes.now.stack = subst (λ (r : Routing). IsStack r.stack) (sym c.requires.routing) c.requires.holds.stack_is in
    let inside = c.adding.invariant.2 in
    let some = c.adding-test.true in
    has_room (objects_of c.args.objects.now) c.args.routes.now.stack good c.args.pools.now.items (c.adding.number - 1) c.adding.number _ _ c.adding.pools.items
    (omega (arith, inside, some)) (omega (arith, some)) c.adding.invariant.0 c.requires.room c.adding.invariant.1

pub adding-preserved : goal.adding-preserved
adding-preserved c =
    let good : IsStack c.args.routes.now.stack = subst (λ (r : Routing). IsStack r.stack) (sym c.requires.routing) c.requires.holds.stack_is in
    let inside = c.adding.invariant.2 in
    let some = c.adding-test.true in
    let more = c.add_of.ensures.room in
    let room = c.adding.invariant.1 in (
      one_more (objects_of c.args.objects.now) c.args.routes.now.stack good c.args.pools.now.items (c.adding.number - 1) c.adding.number c.adding.pools.items
          c.add_of.new.pools.items (omega (arith, inside, some)) (omega (arith, some)) c.adding.invariant.0 c.add_of.ensures.added,
      omega (arith, room, more),
      omega (arith, inside),
    )
