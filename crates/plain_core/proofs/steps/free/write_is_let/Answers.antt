use Rattle.std.proofs.Common.{drop, ap, sym, ◌∙◌, nat_le}
use Rattle.run_machine.specs.Tasks.{Todo}
use Rattle.plain_core.specs.steps.Views.{gathered_of_plain, submission_of_plain}
use Rattle.plain_core.proofs.step_lemmas.Needed.{writer_let}
use Rattle.plain_core.proofs.steps.free.write_is_let.Goals as goal

pub returns-in-NoBio : goal.returns-in-NoBio
returns-in-NoBio c =
    let w = c.args.writer.now in
    let next = c.in-Some.next in
    writer_let c.args.objects.now w.number w.todo next (drop 1 w.todo) (gathered_of_plain w.taken) (submission_of_plain w.submission) _ c.in-Some.ensures
    (ap gathered_of_plain c.in-NoBio.is) c.requires
    (ap (nat_le next.round) (sym c.round.ensures) ∙ ap (λ (t : Todo). nat_le t.round c.round.result) (sym c.next.view_is))
