-- Tasks of bios within their devices stay so.
use Rattle.std.proofs.Common.{ℕ, Bool, true, false, List, [], ◌∷◌, All, Option, None, Some}
use Rattle.std.proofs.lemmas.List.Elements.{All-head, All-tail, All-nil, All-cons}
use Rattle.stack_base.specs.declared.ids.DevId.{DevId}
use Rattle.stack_base.specs.declared.stack.Stack.{Stack}
use Rattle.stack_base.specs.Stack.{IsStack}
use Rattle.layout_model.specs.Writes.{IsWrite}
use Rattle.bio_records.specs.declared.bio.Pad.{Pad}
use Rattle.bio_records.specs.Items.{Item}
use Rattle.bio_books.specs.Books.{VectorItem, SlipItem}
use Rattle.bio_books.specs.Drops.{Closed}
use Rattle.bio_books.specs.Links.{Linked, Made, NoRoom, Stray}
use Rattle.run_machine.specs.Scene.{setup_of}
use Rattle.run_machine.specs.Submissions.{Doing, Rests, Submission}
use Rattle.run_machine.specs.Tasks.{Todo, Gathered, NoBio, HasBio, HasBoth, Carried, Empty, Brings, Carries, Fails, Duty, Resizes, Starts, Keeping, Keeps, Stops, TaskState, Writer, Rescuer, Completer, Keeper, needs_vector, filled, filled_short, with_bio, write_request, writer_request, rescuer_request, closed_request, carried_request, keeper_request, duty_request, request, begins, write_answered, writer_answered, rescuer_answered, answered}
use Rattle.run_machine.specs.Requests.{Reply, HadBio, HadVec, Popped, LinkedTo, NoTicket}
use Rattle.task_steps.specs.Within.{IsWithinDevice, IsItemWithin, SubmissionIsWithin, DoingFits, TaskIsWithin, AskedFits, ReplyFits, TasksStayWithin}
use Rattle.task_steps.proofs.StaysWithin.{settled_fits, submission_fits, submission_asks}

-- the writes of a task
abbrev IsTodo : Stack → Todo → Type 0
IsTodo stack todo = IsWrite stack todo.write

module _ (stack : Stack) (good : IsStack stack) (places : ℕ → ℕ) where
  -- a write begins
  pub begins_fits : (writer : ℕ) (later : List Todo) (bio : ℕ → Item Pad) (taken : Gathered) (todo : Todo) (submission : Submission) (answer : Linked)
      → ((node : ℕ) → IsWithinDevice stack (bio node).bio) → All (IsTodo stack) (todo ∷ later) → SubmissionIsWithin stack submission
      → TaskIsWithin stack (begins (setup_of stack places) writer later bio taken todo submission answer)
  begins_fits writer later bio taken todo submission (Made node) within all fits = (
    All-tail (IsTodo stack) todo later all,
    settled_fits stack good places (bio node ∷ []) (All-cons (IsItemWithin stack) (bio node) [] (within node) (All-nil (IsItemWithin stack))),
  )
  begins_fits writer later bio taken todo submission (NoRoom back) within all fits = (all, record { doing = tt; lists = fits.lists })
  begins_fits writer later bio taken todo submission (Stray back) within all fits = (all, record { doing = tt; lists = fits.lists })

  write_fits : (writer : ℕ) (todos : List Todo) (taken : Gathered) (submission : Submission) (reply : Reply) → All (IsTodo stack) todos → SubmissionIsWithin stack submission
      → TaskIsWithin stack (write_answered (setup_of stack places) writer todos taken submission reply)
  write_fits writer todos taken submission NoTicket all fits = (all, record { doing = tt; lists = fits.lists })
  write_fits writer (todo ∷ later) NoBio submission (HadBio got bio) all fits = (all, fits)
  write_fits writer (todo ∷ later) (HasBio bio) submission (HadVec got vector) all fits = (all, fits)
  write_fits writer (todo ∷ later) (HasBio bio) submission (LinkedTo answer) all fits =
      let is = All-head (IsTodo stack) todo later all in
      begins_fits writer later (λ node. filled_short writer todo node bio) (HasBio bio) todo submission answer
      (λ node. record { device = is.known; some = is.some; within = is.within }) all fits
  write_fits writer (todo ∷ later) (HasBoth bio vector) submission (LinkedTo answer) all fits =
      let is = All-head (IsTodo stack) todo later all in
      begins_fits writer later (λ node. filled writer todo node bio) (HasBoth bio vector) todo submission answer
      (λ node. record { device = is.known; some = is.some; within = is.within }) all fits
  write_fits writer todos taken submission _ all fits = (all, fits)

  writer_fits : (writer : ℕ) (todos : List Todo) (taken : Gathered) (doing : Doing) (submission : Submission) (reply : Reply) → All (IsTodo stack) todos
      → DoingFits stack doing → SubmissionIsWithin stack submission
      → TaskIsWithin stack (writer_answered (setup_of stack places) writer todos taken doing submission reply)
  writer_fits writer todos taken Rests submission reply all doing_fits fits = write_fits writer todos taken submission reply all fits
  writer_fits writer todos taken doing submission reply all doing_fits fits =
      (all, submission_fits stack good places doing submission.lists reply doing_fits fits.lists)

  rescuer_fits : (dev : DevId) (doing : Doing) (submission : Submission) (reply : Reply) → DoingFits stack doing → SubmissionIsWithin stack submission → ReplyFits stack reply
      → TaskIsWithin stack (rescuer_answered (setup_of stack places) dev doing submission reply)
  rescuer_fits dev Rests submission (Popped bio) doing_fits fits within =
      settled_fits stack good places (bio ∷ []) (All-cons (IsItemWithin stack) bio [] within (All-nil (IsItemWithin stack)))
  rescuer_fits dev Rests submission NoTicket doing_fits fits within = record { doing = tt; lists = fits.lists }
  rescuer_fits dev Rests submission _ doing_fits fits within = fits
  rescuer_fits dev doing submission reply doing_fits fits within = submission_fits stack good places doing submission.lists reply doing_fits fits.lists

  task_fits : (task : TaskState) (reply : Reply) → TaskIsWithin stack task → ReplyFits stack reply
      → TaskIsWithin stack (answered (setup_of stack places) task reply)
  task_fits (Writer number todo taken submission) reply fits within = writer_fits number todo taken submission.doing submission reply fits.0 fits.1.doing fits.1
  task_fits (Rescuer dev submission) reply fits within = rescuer_fits dev submission.doing submission reply fits.doing fits within
  task_fits (Completer disk carried) reply fits within = tt
  task_fits (Keeper keeping) reply fits within = tt

-- what is asked outside of a submission
with_bio_asks : (stack : Stack) (writer : ℕ) (needs : Bool) (todo : Todo) → AskedFits stack (with_bio writer needs todo)
with_bio_asks stack writer true todo = tt
with_bio_asks stack writer false todo = tt

write_asks : (stack : Stack) (writer : ℕ) (todos : List Todo) (taken : Gathered) → AskedFits stack (write_request writer todos taken)
write_asks stack writer [] taken = tt
write_asks stack writer (todo ∷ later) NoBio = tt
write_asks stack writer (todo ∷ later) (HasBio bio) = with_bio_asks stack writer (needs_vector todo.write) todo
write_asks stack writer (todo ∷ later) (HasBoth bio vector) = tt

writer_asks : (stack : Stack) (places : ℕ → ℕ) (writer : ℕ) (todos : List Todo) (taken : Gathered) (doing : Doing) (submission : Submission) → SubmissionIsWithin stack submission
    → AskedFits stack (writer_request (setup_of stack places) writer todos taken doing submission)
writer_asks stack places writer todos taken Rests submission fits = write_asks stack writer todos taken
writer_asks stack places writer todos taken doing submission fits = submission_asks stack places doing submission.lists fits.lists

rescuer_asks : (stack : Stack) (places : ℕ → ℕ) (dev : DevId) (doing : Doing) (submission : Submission) → SubmissionIsWithin stack submission
    → AskedFits stack (rescuer_request (setup_of stack places) dev doing submission)
rescuer_asks stack places dev Rests submission fits = tt
rescuer_asks stack places dev doing submission fits = submission_asks stack places doing submission.lists fits.lists

closed_asks : (stack : Stack) (writer : ℕ) (closed : Closed) (vector : Option VectorItem) (bio : Option (Item Pad)) (slip : Option SlipItem) (parent : Option ℕ)
    → AskedFits stack (closed_request writer closed vector bio slip parent)
closed_asks stack writer closed (Some vector) bio slip parent = tt
closed_asks stack writer closed None (Some bio) slip parent = tt
closed_asks stack writer closed None None (Some slip) parent = tt
closed_asks stack writer closed None None None (Some parent) = tt
closed_asks stack writer closed None None None None = tt

carried_asks : (stack : Stack) (disk : DevId) (carried : Carried) → AskedFits stack (carried_request disk carried)
carried_asks stack disk Empty = tt
carried_asks stack disk (Brings bio status) = tt
carried_asks stack disk (Carries writer closed) =
    closed_asks stack writer closed closed.held.vector closed.held.bio closed.held.slip closed.parent
carried_asks stack disk (Fails breach kept) = tt

duty_asks : (stack : Stack) (duty : Duty) → AskedFits stack (duty_request duty)
duty_asks stack (Resizes pool min later) = tt
duty_asks stack (Starts round later) = tt

keeper_asks : (stack : Stack) (keeping : Keeping) → AskedFits stack (keeper_request keeping)
keeper_asks stack (Keeps []) = tt
keeper_asks stack (Keeps (duty ∷ duties)) = duty_asks stack duty
keeper_asks stack (Stops breach) = tt

task_asks : (stack : Stack) (places : ℕ → ℕ) (task : TaskState) → TaskIsWithin stack task → AskedFits stack (request (setup_of stack places) task)
task_asks stack places (Writer number todo taken submission) fits = writer_asks stack places number todo taken submission.doing submission fits.1
task_asks stack places (Rescuer dev submission) fits = rescuer_asks stack places dev submission.doing submission fits
task_asks stack places (Completer disk carried) fits = carried_asks stack disk carried
task_asks stack places (Keeper keeping) fits = keeper_asks stack keeping

pub tasks_stay_within : TasksStayWithin
tasks_stay_within = record {
  goes_on = λ stack places task reply good fits within. task_fits stack good places task reply fits within;
  asks = task_asks;
}
