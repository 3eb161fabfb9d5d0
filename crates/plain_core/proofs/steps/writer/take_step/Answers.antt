use Rattle.std.proofs.Common.{true, subst, ap, ◌∙◌, Ok}
use Rattle.stack_base.specs.declared.ids.SetId.TheVariants.{Fs}
use Rattle.plain_core.specs.steps.Views.{gathered_of_plain, submission_of_plain}
use Rattle.plain_core.specs.steps.Takes.{TakesPart}
use Rattle.plain_core.proofs.step_lemmas.Tasks.{bio_taken, bio_missed, come_by}
use Rattle.plain_core.proofs.steps.writer.take_step.Goals as goal

pub returns-in-Ok-None : goal.returns-in-Ok-None
returns-in-Ok-None c = λ r next later is same.
    let w = c.args.writer.now in
    bio_missed r c.args.objects.now c.take_part.new.objects w.number w.todo later next (gathered_of_plain w.taken) (submission_of_plain w.submission) c.args.what.now
    c.requires.rests c.requires.taken is (come_by next.round c.args.round c.round.result c.args.objects.now.tally.round same c.round.ensures c.if-round.false)
    (subst (λ q. TakesPart c.args.objects.now Fs true c.args.what.now q c.take_part.new.objects) (c.in-Ok-None.is ∙ ap Ok c.in-Ok-None.field-0-is) c.take_part.ensures)

pub returns-in-Ok-Some : goal.returns-in-Ok-Some
returns-in-Ok-Some c = λ r next later is same.
    let w = c.args.writer.now in
    bio_taken r c.args.objects.now c.take_part.new.objects w.number w.todo later next (gathered_of_plain w.taken) (submission_of_plain w.submission) c.args.what.now c.in-Ok-Some.hand
    c.requires.rests c.requires.taken is (come_by next.round c.args.round c.round.result c.args.objects.now.tally.round same c.round.ensures c.if-round.false)
    (subst (λ q. TakesPart c.args.objects.now Fs true c.args.what.now q c.take_part.new.objects) (c.in-Ok-Some.is ∙ ap Ok c.in-Ok-Some.field-0-is) c.take_part.ensures)
