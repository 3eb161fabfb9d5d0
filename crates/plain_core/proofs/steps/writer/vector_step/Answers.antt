use Rattle.std.proofs.Common.{sym, subst, ap, ◌∙◌, Ok}
use Rattle.bio_records.specs.declared.bio.Pad.{Pad}
use Rattle.bio_records.specs.Items.{Item}
use Rattle.run_machine.specs.Tasks as task
use Rattle.plain_core.specs.steps.Views.{gathered_of_plain, submission_of_plain, writer_of}
use Rattle.plain_core.specs.steps.Takes.{TakesVector}
use Rattle.plain_core.specs.steps.Moves.{TaskMoves}
use Rattle.plain_core.proofs.step_lemmas.Tasks.{vector_taken, vector_missed}
use Rattle.plain_core.proofs.steps.writer.vector_step.Goals as goal

pub returns-in-Ok-None : goal.returns-in-Ok-None
returns-in-Ok-None c = λ r next later is needs.
    let w = c.args.writer.now in
    vector_missed r c.args.objects.now c.take_vector.new.objects w.number w.todo later next (gathered_of_plain w.taken) (submission_of_plain w.submission) c.args.what.now c.requires.rests is
    c.args.hand.now c.requires.taken needs
    (subst (λ q. TakesVector c.args.objects.now c.args.what.now q c.take_vector.new.objects) (c.in-Ok-None.is ∙ ap Ok c.in-Ok-None.field-0-is) c.take_vector.ensures)

pub returns-in-Ok-Some : goal.returns-in-Ok-Some
returns-in-Ok-Some c = λ r next later is needs.
    let w = c.args.writer.now in
    subst (λ (p : Item Pad). TaskMoves r c.args.objects.now (writer_of w) c.args.what.now (Ok (tt {0})) c.take_vector.new.objects (task.Writer w.number w.todo (task.HasBoth p c.in-Ok-Some.vector) (submission_of_plain w.submission)))
    (sym c.again.ensures)
    (vector_taken r c.args.objects.now c.take_vector.new.objects w.number w.todo later next (gathered_of_plain w.taken) (submission_of_plain w.submission) c.args.what.now c.requires.rests is
    c.args.hand.now c.in-Ok-Some.vector c.requires.taken needs
    (subst (λ q. TakesVector c.args.objects.now c.args.what.now q c.take_vector.new.objects) (c.in-Ok-Some.is ∙ ap Ok c.in-Ok-Some.field-0-is) c.take_vector.ensures))
