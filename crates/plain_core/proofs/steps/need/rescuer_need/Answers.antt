use Rattle.std.proofs.Common.{ap, sym, ◌∙◌}
use Rattle.plain_core.specs.steps.Free.{need_of}
use Rattle.plain_core.specs.steps.Views.{doing_of_plain, submission_of_plain}
use Rattle.plain_core.proofs.step_lemmas.Needed.{busy_rescuer}
use Rattle.plain_core.proofs.steps.need.rescuer_need.Goals as goal

pub returns-else-rests : goal.returns-else-rests
returns-else-rests c = λ s.
    let r = c.args.rescuer.now in
    c.submission_need.ensures s ∙ ap need_of (sym (busy_rescuer s r.dev (doing_of_plain r.submission.doing) (submission_of_plain r.submission) c.if-rests.ensures))
