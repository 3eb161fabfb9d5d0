use Rattle.std.proofs.Common.{◌∙◌, sym, subst}
use Rattle.task_steps.specs.Routed.{routing_setup}
use Rattle.task_steps.specs.Stage.{Owes}
use Rattle.task_steps.specs.Turns.{Turns}
use Rattle.task_steps.specs.RescuerViews.{RescuerState, rescuer_task}
use Rattle.task_steps.proofs.TurnLemmas.{submission_turns_rescuer}
use Rattle.task_steps.proofs.rescuer.Rescuer.step.Goals as goal

-- the step of its submission is its own
pub returns-then-asks : goal.returns-then-asks
returns-then-asks g c =
    let serves = g.O.Objects.serves in
    let owes = Owes (g.O.Objects.stage c.args.objects.now) in
    let known = routing_setup c.args.routes.now in
    let dev = c.self.inside.dev in
    let next = c.step.new.self in
    record {
      does = record {
        came = subst (λ (r : RescuerState). Turns serves owes known (rescuer_task r) c.args.objects.now (rescuer_task (record { dev = dev; submission = next })) c.step.new.objects c.step.result)
            c.self.view_is
            (submission_turns_rescuer serves owes known dev c.self.inside.submission next c.args.objects.now c.step.new.objects c.step.result
            (sym c.asks.ensures ∙ c.if-asks.true) c.step.ensures.does.came);
        held = c.step.ensures.does.held;
        same = c.step.ensures.does.same;
      };
    }
