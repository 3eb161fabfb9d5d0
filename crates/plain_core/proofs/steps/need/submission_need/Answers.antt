use Rattle.plain_core.specs.objects.Lists.{lists_of}
use Rattle.plain_core.proofs.steps.need.submission_need.Goals as goal

pub returns-in-Copies : goal.returns-in-Copies
returns-in-Copies c = λ s. rw (c.in-Copies.is) (c.copy_need.ensures s (lists_of c.args.submission.now.lists))
