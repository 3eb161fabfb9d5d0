use Rattle.std.proofs.Common.{◌+◌, ◌∷◌, ◌∙◌, map, drop, sym, subst}
use Rattle.run_machine.specs.Tasks.{Keeping, Keeps, Keeper, duty_request}
use Rattle.task_steps.specs.Routed.{routing_setup}
use Rattle.task_steps.specs.Stage.{Stage, RequestFits, Owes}
use Rattle.task_steps.specs.Turns.{Asks}
use Rattle.task_steps.specs.Homes.{KeepingFits}
use Rattle.task_steps.specs.KeeperViews.{duty_of, keeping_of}
use Rattle.task_steps.proofs.TaskHomes.{keeper_asks}
use Rattle.task_steps.proofs.KeeperLemmas.{has_next, attends, keeper_waits}
use Rattle.task_steps.proofs.keeper.Keeper.step.Goals as goal

-- src/keeper.rt
pub attend-broken-requires : goal.attend-broken-requires
attend-broken-requires g c =
    let duties = c.self.inside.duties.items in
    let next = c.self.inside.next in
    let duty = c.in-Some-duty_at.duty in
    let stage = g.O.Objects.stage c.args.objects.now in
    let is = has_next duties c.deref.result.now next c.self.inside.broken c.args.self.now duty c.self.view_is c.in_default.is c.deref.ensures.value
    c.in-Some-duty_at.ensures in
    let whole : Keeping = Keeps (duty_of duty ∷ map duty_of (drop (next + 1) duties)) in
    let fits : KeepingFits stage whole = subst (KeepingFits stage) is c.requires.ready.1 in
    record {
      ready = (c.left.ensures.kept.0, subst (λ stage. RequestFits stage (duty_request (duty_of duty))) (sym c.left.ensures.kept.1) (keeper_asks stage whole fits));
    }

pub returns : goal.returns
returns g c =
    let duties = c.self.inside.duties.items in
    let next = c.self.inside.next in
    let duty = c.in-Some-duty_at.duty in
    let rest = map duty_of (drop (next + 1) duties) in
    let stage = g.O.Objects.stage c.args.objects.now in
    let is = has_next duties c.deref.result.now next c.self.inside.broken c.args.self.now duty c.self.view_is c.in_default.is c.deref.ensures.value
    c.in-Some-duty_at.ensures in
    let known = routing_setup stage.routing in
    let attended = c.attend-broken.ensures.does rest in
    record {
      does = record {
        came = attends g.O.Objects.serves (Owes stage) (routing_setup stage.routing) c.args.self.now duty rest is c.args.objects.now c.left.new.self
            c.left.result c.left.ensures.serves c.attend-broken.result.0 c.attend-broken.new.objects c.attend-broken.result.1
            (c.if-left-later.false ∙ c.later.ensures)
            (subst (λ (stage : Stage). Asks g.O.Objects.serves (Owes stage) known (Keeper (Keeps (duty_of duty ∷ rest))) c.left.new.self
            (Keeper (keeping_of c.attend-broken.result.0 rest)) c.attend-broken.new.objects c.attend-broken.result.1)
            c.left.ensures.kept.1 (attended.came known));
        held = attended.held;
        same = attended.same ∙ c.left.ensures.kept.1;
      };
    }

pub returns-then-left-later : goal.returns-then-left-later
returns-then-left-later g c =
    let duties = c.self.inside.duties.items in
    let next = c.self.inside.next in
    let duty = c.in-Some-duty_at.duty in
    let stage = g.O.Objects.stage c.args.objects.now in
    let is = has_next duties c.deref.result.now next c.self.inside.broken c.args.self.now duty c.self.view_is c.in_default.is c.deref.ensures.value
    c.in-Some-duty_at.ensures in
    record {
      does = record {
        came = keeper_waits g.O.Objects.serves (Owes stage) (routing_setup stage.routing) c.args.self.now duty (map duty_of (drop (next + 1) duties)) is
            c.args.objects.now c.left.new.self c.left.result c.left.ensures.serves (λ e. c.if-left-later.true (e ∙ sym c.later.ensures));
        held = c.left.ensures.kept.0;
        same = c.left.ensures.kept.1;
      };
    }
