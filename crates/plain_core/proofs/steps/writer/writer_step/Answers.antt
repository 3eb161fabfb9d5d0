use Rattle.plain_core.specs.steps.Views.{gathered_of_plain, submission_of_plain}
use Rattle.plain_core.proofs.step_lemmas.Tasks.{writer_submission}
use Rattle.plain_core.proofs.steps.writer.writer_step.Goals as goal

pub returns-then-not-rests : goal.returns-then-not-rests
returns-then-not-rests c =
    let w = c.args.writer.now in
    writer_submission c.args.routes.now c.args.objects.now c.submission_step.new.objects w.number w.todo (gathered_of_plain w.taken) (submission_of_plain w.submission) (submission_of_plain c.submission_step.new.submission) c.args.what.now c.submission_step.result
    c.if-not-rests.ensures c.submission_step.ensures
