use Rattle.std.proofs.Common.{sym, subst, rules}
use Rattle.run_machine.specs.declared.event.Breach.TheVariants as breach
use Rattle.task_steps.specs.declared.step.Step.TheVariants.{Broken}
use Rattle.run_machine.specs.Submissions.{Submission}
use Rattle.task_steps.specs.Routed.{routing_setup}
use Rattle.task_steps.specs.Stage.{Owes}
use Rattle.task_steps.specs.Answers.{AnswersSubmission}
use Rattle.task_steps.proofs.Attempting.{attempt_spent}
use Rattle.task_steps.proofs.submission.Submission.attempt.Goals as goal

pub returns-in-Err : goal.returns-in-Err
returns-in-Err g c = record {
  does = λ routing.
      let serves = g.O.Objects.serves in
      let owes = Owes (g.O.Objects.stage c.args.objects.now) in
      let known = routing_setup routing in
      let submission = c.args.self.now in
      let old = c.args.objects.now in
      let new = c.attempt.new.objects in
      record {
        came = subst (λ (next : Submission). AnswersSubmission serves owes known c.args.task submission.doing submission.lists old next new (Broken breach.Spent)) (sym c.spend.ensures)
            (attempt_spent serves owes known c.args.task submission.doing submission.lists c.args.dev c.args.waits old new c.requires.attempts c.in-Err.ensures.does.came.0);
        held = search rules;
        same = search rules;
      };
}
