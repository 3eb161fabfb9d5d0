use Rattle.std.proofs.Common.{ap, sym, ◌∙◌}
use Rattle.plain_core.specs.steps.Free.{need_of}
use Rattle.plain_core.specs.steps.Views.{doing_of_plain, submission_of_plain, gathered_of_plain}
use Rattle.plain_core.proofs.step_lemmas.Needed.{busy_writer}
use Rattle.plain_core.proofs.steps.need.writer_need.Goals as goal

pub returns-else-rests : goal.returns-else-rests
returns-else-rests c = λ s.
    let w = c.args.writer.now in
    c.submission_need.ensures s
    ∙ ap need_of (sym (busy_writer s w.number w.todo (gathered_of_plain w.taken) (doing_of_plain w.submission.doing) (submission_of_plain w.submission) c.if-rests.ensures))
