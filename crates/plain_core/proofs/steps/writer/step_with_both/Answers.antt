use Rattle.std.proofs.Common.{◌≡◌, drop, subst, ◌∙◌, Some}
use Rattle.bio_records.specs.Segments.{segments_of}
use Rattle.bio_books.specs.Links.{Made}
use Rattle.run_machine.specs.Requests.{Link, Write, LinkedTo}
use Rattle.run_machine.specs.Tasks.{Todo, filled, filled_vector}
use Rattle.plain_core.specs.steps.Views.{gathered_of_plain, submission_of_plain, writer_of}
use Rattle.plain_core.specs.steps.Answers.{IsAnswer}
use Rattle.plain_core.proofs.step_lemmas.Tasks.{long_begun}
use Rattle.plain_core.proofs.steps.writer.step_with_both.Goals as goal

pub returns-in-Ok : goal.returns-in-Ok
returns-in-Ok c =
    let w = c.args.writer.now in
    let part = c.args.hand.now in
    let vector = c.args.vector.now in
    let full : c.filled-full.result ≡ filled_vector c.args.next.now vector =
    c.filled-full.ensures
    ∙ (λ k. record vector { segments = segments_of (c.data_of.ensures k).first (c.data_of.ensures k).count })
    ∙ (λ k. record vector { segments = segments_of (c.next.view_is k).write.tag (c.next.view_is k).write.count }) in
    let filled_is : c.with.result ≡ filled w.number c.args.next.now c.in-Ok.node part =
    c.with.ensures ∙ (λ k. record part { pad = record { leg = 0 }; bio = c.first_bio-bio.ensures k }) in
    long_begun c.args.routes.now c.args.objects.now c.open_write.new.objects w.number w.todo (drop 1 w.todo) c.args.next.now (gathered_of_plain w.taken) (submission_of_plain w.submission) c.args.what.now
    c.requires.rests c.requires.next part c.with.result vector c.filled-full.result c.in-Ok.node (writer_of c.begin.new.writer) c.requires.taken full filled_is c.begin.ensures
    (subst (λ (t : Todo). IsAnswer c.args.objects.now (Link w.number (Write t.number (Some c.filled-full.result))) c.args.what.now (LinkedTo (Made c.in-Ok.node)) c.open_write.new.objects) c.next.view_is c.in-Ok.ensures)
