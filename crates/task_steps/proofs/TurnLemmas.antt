-- How a step of a submission, or of a writer outside of one, is a step of its task.
use Rattle.std.proofs.Common.{◌≡◌, ◌≢◌, ℕ, Bool, true, false, List, [], ◌∷◌, None, Some, refl, sym, ap, ◌∙◌, subst}
use Rattle.std.proofs.Common.{true≢false, nat_le}
use Rattle.stack_base.specs.declared.ids.DevId.{DevId}
use Rattle.stack_base.specs.declared.ids.SetId.TheVariants.{Fs}
use Rattle.bio_records.specs.declared.tasks.TaskLists.{TaskLists}
use Rattle.run_machine.specs.declared.event.TaskId.TheVariants as id
use Rattle.task_steps.specs.declared.step.Step.{Step}
use Rattle.task_steps.specs.declared.step.Step.TheVariants.{Waiting}
use Rattle.task_steps.specs.declared.writer.begin.Attempt.{Attempt}
use Rattle.run_machine.specs.Scene.{Setup}
use Rattle.run_machine.specs.Requests.{Reply, TakeBio, LookRound, Present}
use Rattle.run_machine.specs.Submissions.{Takes, WantsPunt, Links, ToPush, ToCut, ToRecord, ToMaster, Doing, Rests, Drives, Copies, Breaks, Submission, submission_request, submission_answered}
use Rattle.run_machine.specs.Tasks.{Todo, Gathered, NoBio, HasBio, HasBoth, TaskState, Writer, Rescuer, needs_vector, with_bio, write_request, writer_request, writer_look, lets, rescuer_request, writer_answered, rescuer_answered}
use Rattle.task_steps.specs.Service.{Service, Owing}
use Rattle.task_steps.specs.Turns.{Asks, Turns, Waited, Asked, Saw}
use Rattle.task_steps.specs.SubmissionViews.{is_asking, is_over}
use Rattle.task_steps.specs.Answers.{AnswersSubmission}
use Rattle.task_steps.specs.WriterViews.{WriteAnswers, is_taken, tried}
use Rattle.task_steps.proofs.Asking.{asks_any, asks_once}

module _ {S : Type 0} (serves : Service S) (owes : Owing) (setup : Setup) where
  -- a submission that has something to ask for
  submission_asks_any : (doing : Doing) (lists : TaskLists) → is_asking doing ≡ true → asks_any (submission_request setup doing lists) ≡ true
  submission_asks_any Rests lists asking = asking
  submission_asks_any (Breaks breach kept) lists asking = asking
  submission_asks_any (Drives bio ToPush) lists asking = refl
  submission_asks_any (Drives bio (ToCut (Takes waits))) lists asking = refl
  submission_asks_any (Drives bio (ToCut WantsPunt)) lists asking = refl
  submission_asks_any (Drives bio (ToCut (Links hand))) lists asking = refl
  submission_asks_any (Drives bio ToRecord) lists asking = refl
  submission_asks_any (Drives bio (ToMaster slip)) lists asking = refl
  submission_asks_any (Copies bio master leg (Takes waits)) lists asking = refl
  submission_asks_any (Copies bio master leg WantsPunt) lists asking = refl
  submission_asks_any (Copies bio master leg (Links hand)) lists asking = refl

  asking_is : (doing : Doing) → is_asking doing ≡ true → is_over doing ≡ false
  asking_is Rests asking = sym asking
  asking_is (Breaks breach kept) asking = refl
  asking_is (Drives bio ask) asking = refl
  asking_is (Copies bio master leg want) asking = refl

  -- such a writer, or one that has broken off, asks for what its submission does, and looks at nothing
  no_look : (todo : List Todo) (taken : Gathered) (doing : Doing) → is_over doing ≡ false → writer_look todo taken doing ≡ None
  no_look [] taken doing over = refl
  no_look (todo ∷ later) (HasBio bio) doing over = refl
  no_look (todo ∷ later) (HasBoth bio vector) doing over = refl
  no_look (todo ∷ later) NoBio Rests over = absurd (true≢false over)
  no_look (todo ∷ later) NoBio (Breaks breach kept) over = refl
  no_look (todo ∷ later) NoBio (Drives bio ask) over = refl
  no_look (todo ∷ later) NoBio (Copies bio master leg want) over = refl

  writer_asks : (number : ℕ) (todo : List Todo) (taken : Gathered) (doing : Doing) (submission : Submission) → is_over doing ≡ false
      → writer_request setup number todo taken doing submission ≡ submission_request setup doing submission.lists
  writer_asks number todo taken Rests submission over = absurd (true≢false over)
  writer_asks number todo taken (Breaks breach kept) submission over = refl
  writer_asks number todo taken (Drives bio ask) submission over = refl
  writer_asks number todo taken (Copies bio master leg want) submission over = refl

  writer_goes_on : (number : ℕ) (todo : List Todo) (taken : Gathered) (doing : Doing) (submission : Submission) (reply : Reply) → is_over doing ≡ false
      → Writer number todo taken (submission_answered setup doing submission.lists reply) ≡ writer_answered setup number todo taken doing submission reply
  writer_goes_on number todo taken Rests submission reply over = absurd (true≢false over)
  writer_goes_on number todo taken (Breaks breach kept) submission reply over = refl
  writer_goes_on number todo taken (Drives bio ask) submission reply over = refl
  writer_goes_on number todo taken (Copies bio master leg want) submission reply over = refl

  -- a step of its submission is a writer's
  pub submission_turns_writer : (number : ℕ) (todo : List Todo) (taken : Gathered) (submission next : Submission) (old new : S) (step : Step) → is_asking submission.doing ≡ true
      → AnswersSubmission serves owes setup (id.Writer number) submission.doing submission.lists old next new step
      → Turns serves owes setup (Writer number todo taken submission) old (Writer number todo taken next) new step
  submission_turns_writer number todo taken submission next old new step asking answers =
      let over = asking_is submission.doing asking in
      Asked (no_look todo taken submission.doing over)
      (asks_once serves owes setup (Writer number todo taken submission) (submission_request setup submission.doing submission.lists) old (Writer number todo taken next) new step answers.reply
      (writer_asks number todo taken submission.doing submission over) (submission_asks_any submission.doing submission.lists asking) answers.replied answers.owed answers.found
      (ap (λ (l : Submission). Writer number todo taken l) answers.goes_on ∙ writer_goes_on number todo taken submission.doing submission answers.reply over) answers.tells)

  -- what a writer does for its next write
  with_bio_any : (number : ℕ) (needs : Bool) (todo : Todo) → asks_any (with_bio number needs todo) ≡ true
  with_bio_any number true todo = refl
  with_bio_any number false todo = refl

  write_asks_any : (number : ℕ) (todo : Todo) (later : List Todo) (taken : Gathered) → asks_any (write_request number (todo ∷ later) taken) ≡ true
  write_asks_any number todo later NoBio = refl
  write_asks_any number todo later (HasBio bio) = with_bio_any number (needs_vector todo.write) todo
  write_asks_any number todo later (HasBoth bio vector) = refl

  pub write_asks : (number : ℕ) (todos : List Todo) (taken : Gathered) (submission : Submission) (todo : Todo) (later : List Todo) (old : S) (next : TaskState) (new : S)
      (step : Step) → submission.doing ≡ Rests → todos ≡ todo ∷ later
      → WriteAnswers serves owes setup number (write_request number (todo ∷ later) taken) (todo ∷ later) taken submission old next new step
      → Asks serves owes setup (Writer number todos taken submission) old next new step
  write_asks number todos taken submission todo later old next new step rests first answers =
      subst (λ (ts : List Todo). Asks serves owes setup (Writer number ts taken submission) old next new step) (sym first)
      (asks_once serves owes setup (Writer number (todo ∷ later) taken submission) (write_request number (todo ∷ later) taken) old next new step answers.reply
      (ap (λ (doing : Doing). writer_request setup number (todo ∷ later) taken doing submission) rests) (write_asks_any number todo later taken)
      answers.replied answers.owed answers.found
      (answers.goes_on ∙ ap (λ (doing : Doing). writer_answered setup number (todo ∷ later) taken doing submission answers.reply) (sym rests)) answers.tells)

  -- a writer without a bio for its next write asks for one
  pub bio_asks : (number : ℕ) (todos : List Todo) (taken : Gathered) (submission : Submission) (came : Attempt) (old new : S) (step : Step) → submission.doing ≡ Rests
      → taken ≡ NoBio → todos ≢ []
      → ((todo : Todo) (later : List Todo) → WriteAnswers serves owes setup number (TakeBio Fs true) (todo ∷ later) NoBio submission old (tried came number (todo ∷ later) submission) new step)
      → Asks serves owes setup (Writer number todos taken submission) old (tried came number todos submission) new step
  bio_asks number [] taken submission came old new step rests none some answers = absurd (some refl)
  bio_asks number (todo ∷ later) taken submission came old new step rests none some answers =
      subst (λ (taken : Gathered). Asks serves owes setup (Writer number (todo ∷ later) taken submission) old (tried came number (todo ∷ later) submission) new step) (sym none)
      (write_asks number (todo ∷ later) NoBio submission todo later old (tried came number (todo ∷ later) submission) new step rests refl (answers todo later))

  -- with a bio it looks at nothing
  taken_look : (todos : List Todo) (taken : Gathered) (doing : Doing) → is_taken taken ≡ true → writer_look todos taken doing ≡ None
  taken_look [] taken doing has = refl
  taken_look (todo ∷ later) NoBio doing has = absurd (true≢false (sym has))
  taken_look (todo ∷ later) (HasBio bio) doing has = refl
  taken_look (todo ∷ later) (HasBoth bio vector) doing has = refl

  pub taken_turns : (number : ℕ) (todos : List Todo) (taken : Gathered) (submission : Submission) (old : S) (next : TaskState) (new : S) (step : Step)
      → is_taken taken ≡ true → Asks serves owes setup (Writer number todos taken submission) old next new step
      → Turns serves owes setup (Writer number todos taken submission) old next new step
  taken_turns number todos taken submission old next new step has asks = Asked (taken_look todos taken submission.doing has) asks

  -- without one it looks at the round
  no_taken : (taken : Gathered) → is_taken taken ≡ false → taken ≡ NoBio
  no_taken NoBio has = refl
  no_taken (HasBio bio) has = absurd (true≢false has)
  no_taken (HasBoth bio vector) has = absurd (true≢false has)

  looks : (todos : List Todo) (taken : Gathered) (doing : Doing) (todo : Todo) (later : List Todo) → doing ≡ Rests → taken ≡ NoBio → todos ≡ todo ∷ later
      → writer_look todos taken doing ≡ Some LookRound
  looks todos taken doing todo later rests none first = λ k. writer_look (first k) (none k) (rests k)

  pub look_waits : (number : ℕ) (todos : List Todo) (taken : Gathered) (submission : Submission) (todo : Todo) (later : List Todo) (old : S) (round : ℕ) (new : S)
      → submission.doing ≡ Rests → is_taken taken ≡ false → todos ≡ todo ∷ later → serves old LookRound (Present round) new → nat_le todo.round round ≡ false
      → Turns serves owes setup (Writer number todos taken submission) old (Writer number todos taken submission) new Waiting
  look_waits number todos taken submission todo later old round new rests has first served early =
      Waited LookRound (Present round) (looks todos taken submission.doing todo later rests (no_taken taken has) first) served
      (ap (λ (ts : List Todo). lets (Writer number ts taken submission) (Present round)) first ∙ early) refl refl

  pub look_asks : (number : ℕ) (todos : List Todo) (taken : Gathered) (submission : Submission) (todo : Todo) (later : List Todo) (old : S) (round : ℕ) (between : S)
      (next : TaskState) (new : S) (step : Step) → submission.doing ≡ Rests → is_taken taken ≡ false → todos ≡ todo ∷ later
      → serves old LookRound (Present round) between → nat_le todo.round round ≡ true
      → Asks serves owes setup (Writer number todos taken submission) between next new step
      → Turns serves owes setup (Writer number todos taken submission) old next new step
  look_asks number todos taken submission todo later old round between next new step rests has first served due asks =
      Saw LookRound (Present round) between (looks todos taken submission.doing todo later rests (no_taken taken has) first) served
      (ap (λ (ts : List Todo). lets (Writer number ts taken submission) (Present round)) first ∙ due) asks

  -- the same of rescuers
  rescuer_asks : (dev : DevId) (doing : Doing) (submission : Submission) → is_over doing ≡ false → rescuer_request setup dev doing submission ≡ submission_request setup doing submission.lists
  rescuer_asks dev Rests submission over = absurd (true≢false over)
  rescuer_asks dev (Breaks breach kept) submission over = refl
  rescuer_asks dev (Drives bio ask) submission over = refl
  rescuer_asks dev (Copies bio master leg want) submission over = refl

  rescuer_goes_on : (dev : DevId) (doing : Doing) (submission : Submission) (reply : Reply) → is_over doing ≡ false
      → Rescuer dev (submission_answered setup doing submission.lists reply) ≡ rescuer_answered setup dev doing submission reply
  rescuer_goes_on dev Rests submission reply over = absurd (true≢false over)
  rescuer_goes_on dev (Breaks breach kept) submission reply over = refl
  rescuer_goes_on dev (Drives bio ask) submission reply over = refl
  rescuer_goes_on dev (Copies bio master leg want) submission reply over = refl

  pub submission_turns_rescuer : (dev : DevId) (submission next : Submission) (old new : S) (step : Step) → is_asking submission.doing ≡ true
      → AnswersSubmission serves owes setup (id.Rescuer dev) submission.doing submission.lists old next new step
      → Turns serves owes setup (Rescuer dev submission) old (Rescuer dev next) new step
  submission_turns_rescuer dev submission next old new step asking answers =
      let over = asking_is submission.doing asking in
      Asked refl
      (asks_once serves owes setup (Rescuer dev submission) (submission_request setup submission.doing submission.lists) old (Rescuer dev next) new step answers.reply
      (rescuer_asks dev submission.doing submission over) (submission_asks_any submission.doing submission.lists asking) answers.replied answers.owed answers.found
      (ap (λ (l : Submission). Rescuer dev l) answers.goes_on ∙ rescuer_goes_on dev submission.doing submission answers.reply over) answers.tells)
