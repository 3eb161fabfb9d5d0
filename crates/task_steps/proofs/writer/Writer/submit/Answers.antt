use Rattle.std.proofs.Common.{◌≡◌, true, sym, subst}
use Rattle.task_steps.specs.Routed.{routing_setup}
use Rattle.task_steps.specs.Stage.{Owes}
use Rattle.task_steps.specs.Turns.{Turns}
use Rattle.task_steps.specs.SubmissionViews.{is_asking}
use Rattle.task_steps.specs.WriterViews.{WriterState, writer_task, gathered_of}
use Rattle.task_steps.proofs.TurnLemmas.{submission_turns_writer}
use Rattle.task_steps.proofs.writer.Writer.submit.Goals as goal

-- the step of its submission is its own
pub returns : goal.returns
returns g c =
    let serves = g.O.Objects.serves in
    let owes = Owes (g.O.Objects.stage c.args.objects.now) in
    let known = routing_setup c.args.routes.now in
    let w = c.self.inside in
    let next = c.step.new.self in
    let after : WriterState = record { number = w.number; todo = w.todo; taken = gathered_of w.taken; submission = next } in
    record {
      does = record {
        came = subst (λ (s : WriterState). Turns serves owes known (writer_task s) c.args.objects.now (writer_task after) c.step.new.objects c.step.result) c.self.view_is
            (submission_turns_writer serves owes known w.number w.todo (gathered_of w.taken) w.submission next c.args.objects.now c.step.new.objects c.step.result
            (subst (λ (s : WriterState). is_asking s.submission.doing ≡ true) (sym c.self.view_is) c.requires.asks) c.step.ensures.does.came);
        held = c.step.ensures.does.held;
        same = c.step.ensures.does.same;
      };
    }
