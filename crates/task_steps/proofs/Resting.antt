-- A submission that is over is at nothing.
use Rattle.std.proofs.Common.{◌≡◌, true, refl, sym, ap}
use Rattle.std.proofs.Common.{true≢false}
use Rattle.task_steps.specs.declared.submission.Doing.{Doing as RealDoing}
use Rattle.task_steps.specs.declared.submission.Doing.TheVariants as doing
use Rattle.run_machine.specs.Submissions.{Rests}
use Rattle.task_steps.specs.SubmissionViews.{doing_of, is_over}

pub rests_alone : (at : RealDoing) → doing_of at ≡ Rests → at ≡ doing.Rests
rests_alone doing.Rests rests = refl
rests_alone (doing.Drives bio ask) rests = absurd (true≢false (sym (ap is_over rests)))
rests_alone (doing.Copies bio master leg want) rests = absurd (true≢false (sym (ap is_over rests)))
rests_alone (doing.Breaks breach kept) rests = absurd (true≢false (sym (ap is_over rests)))
