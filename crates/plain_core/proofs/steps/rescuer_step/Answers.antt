use Rattle.std.proofs.Common.{subst}
use Rattle.stack_base.specs.declared.stack.Stack.{Stack}
use Rattle.task_steps.specs.Within.{IsWithinDevice}
use Rattle.plain_core.specs.objects.Lists.{lists_of}
use Rattle.plain_core.specs.objects.Plain.{core_rescue_at}
use Rattle.plain_core.specs.steps.Views.{submission_of_plain, doing_of_plain}
use Rattle.plain_core.proofs.object_lemmas.Places.{head_within}
use Rattle.plain_core.proofs.step_lemmas.Tasks.{rescuer_submission, rescuer_popped}
use Rattle.plain_core.proofs.steps.rescuer_step.Goals as goal

pub returns-then-not-rests : goal.returns-then-not-rests
returns-then-not-rests c =
    let l = c.args.rescuer.now.submission in
    rescuer_submission c.args.routes.now c.args.objects.now c.submission_step.new.objects c.args.rescuer.now.dev (doing_of_plain l.doing) (lists_of l.lists) (submission_of_plain c.submission_step.new.submission) c.args.what.now c.submission_step.result
    c.if-not-rests.ensures c.submission_step.ensures

pub start-requires : goal.start-requires
start-requires c =
    subst (λ (s : Stack). IsWithinDevice s c.in-Ok.part.bio) c.requires.stack
    (head_within c.args.objects.now.stack (core_rescue_at c.args.objects.now c.args.rescuer.now.dev.0) _ c.in-Ok.part (c.known.ensures.within c.args.rescuer.now.dev.0) c.in-Ok.ensures.serves.0)

pub returns-in-Ok : goal.returns-in-Ok
returns-in-Ok c =
    rescuer_popped c.args.routes.now c.args.objects.now c.pop.new.objects c.args.rescuer.now.dev (submission_of_plain c.args.rescuer.now.submission) (submission_of_plain c.start.new.submission) c.args.what.now c.in-Ok.part
    c.if-not-rests.ensures c.in-Ok.ensures c.start.ensures
