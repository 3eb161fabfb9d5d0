-- What a step of a submission makes of it, of the lists and of the objects.
use Rattle.std.specs.Prelude.{◌≡◌, ◌+◌, ◌<◌, ℕ, length, Result, Ok, Err}
use Rattle.stack_base.specs.declared.stack.Stack.{Stack}
use Rattle.stack_base.specs.Tree.{tree}
use Rattle.bio_records.specs.declared.bio.Pad.{Pad}
use Rattle.bio_records.specs.declared.tasks.TaskLists.{TaskLists}
use Rattle.bio_records.specs.Items.{Item}
use Rattle.run_machine.specs.declared.event.What.{What}
use Rattle.run_machine.specs.Requests.{Reply}
use Rattle.run_machine.specs.Submissions as submission
use Rattle.run_machine.specs.Scene.{Setup}
use Rattle.task_steps.specs.Routed.{Routing, routing_setup}
use Rattle.task_steps.specs.Within.{ListsAreWithin}
use Rattle.plain_core.specs.declared.objects.lists.Lists.{Lists}
use Rattle.plain_core.specs.declared.steps.submission.Continuation.{Continuation}
use Rattle.plain_core.specs.declared.steps.submission.Continuation.TheVariants as next
use Rattle.plain_core.specs.declared.steps.task.DriverAsk.{DriverAsk}
use Rattle.plain_core.specs.declared.steps.task.Copying.{Copying}
use Rattle.plain_core.specs.declared.steps.task.PlainDoing.{PlainDoing}
use Rattle.plain_core.specs.declared.steps.task.PlainSubmission.{PlainSubmission}
use Rattle.plain_core.specs.declared.steps.task.PlainWant.{PlainWant}
use Rattle.plain_core.specs.objects.Plain.{CoreObjects}
use Rattle.plain_core.specs.objects.Lists.{ListsHaveCapacity, lists_of}
use Rattle.plain_core.specs.steps.Views.{ask_of_plain, doing_of_plain, submission_of_plain, want_of_plain}
use Rattle.plain_core.specs.steps.Answers.{IsAnswer, Refuses, HasAnswer}
use Rattle.plain_core.specs.declared.fault.CoreFault.{CoreFault}
use Rattle.plain_core.specs.declared.fault.CoreFault.TheVariants as fault

-- what comes behind an answer makes this of a submission
abbrev pub turned : Setup → submission.Doing → TaskLists → Continuation → submission.Submission
turned setup doing lists next.Stays = record { doing = doing; lists = lists }
turned setup doing lists (next.Returns dev) = submission.goes_on setup dev lists
turned setup doing lists (next.Copies bio master) = submission.copies setup lists bio master 0

-- the same of a plain submission, by its routes
abbrev pub turned_by : Routing → PlainSubmission → Continuation → submission.Submission
turned_by r before next = turned (routing_setup r) (doing_of_plain before.doing) (lists_of before.lists) next

-- the lists of one that is not to stay can be gone through
abbrev pub CanTurn : Stack → Lists → Continuation → Type 0
CanTurn stack lists next.Stays = Unit {0}
CanTurn stack lists (next.Returns dev) = ListsHaveCapacity 0 lists × ListsAreWithin stack (lists_of lists)
CanTurn stack lists (next.Copies bio master) = ListsHaveCapacity 0 lists × ListsAreWithin stack (lists_of lists) × (bio.dev.0 < length stack.devices.items)

-- a submission has an answer to what it asks for, and this comes next; it lacks memory only where there is an answer
abbrev pub SubmissionSteps : Routing → CoreObjects → submission.Doing → TaskLists → What → Result Continuation CoreFault → CoreObjects → submission.Doing → TaskLists → Type 0
SubmissionSteps r old doing lists what (Ok next) new after rest =
    (reply : Reply)
    × IsAnswer old (submission.submission_request (routing_setup r) doing lists) what reply new
    × (submission.submission_answered (routing_setup r) doing lists reply ≡ turned (routing_setup r) after rest next)
SubmissionSteps r old doing lists what (Err fault.NotEnabled) new after rest =
    (new ≡ old) × (after ≡ doing) × (rest ≡ lists) × Refuses old (submission.submission_request (routing_setup r) doing lists) what
SubmissionSteps r old doing lists what (Err fault.Memory) new after rest =
    (new ≡ old) × (after ≡ doing) × (rest ≡ lists) × HasAnswer old (submission.submission_request (routing_setup r) doing lists) what

-- a driver that has a bio, one that cuts it, and a mirror that copies it
abbrev pub drives_for : Item Pad → submission.Driving → submission.Doing
drives_for part ask = submission.Drives part ask

abbrev pub cuts_for : Item Pad → submission.Want → submission.Doing
cuts_for part want = submission.Drives part (submission.ToCut want)

abbrev pub copies_for : Copying → submission.Want → submission.Doing
copies_for copying want = submission.Copies copying.bio copying.master copying.leg want

-- the same for a submission as a whole
abbrev pub SubmissionMoves : Routing → CoreObjects → submission.Submission → What → Result (Unit {0}) CoreFault → CoreObjects → submission.Submission → Type 0
SubmissionMoves r old before what (Ok done) new after =
    (reply : Reply)
    × IsAnswer old (submission.submission_request (routing_setup r) before.doing before.lists) what reply new
    × (after ≡ submission.submission_answered (routing_setup r) before.doing before.lists reply)
SubmissionMoves r old before what (Err fault.NotEnabled) new after =
    (new ≡ old) × (after ≡ before) × Refuses old (submission.submission_request (routing_setup r) before.doing before.lists) what
SubmissionMoves r old before what (Err fault.Memory) new after =
    (new ≡ old) × (after ≡ before) × HasAnswer old (submission.submission_request (routing_setup r) before.doing before.lists) what

abbrev pub PlainSubmissionMoves : Routing → CoreObjects → PlainSubmission → What → Result (Unit {0}) CoreFault → CoreObjects → PlainSubmission → Type 0
PlainSubmissionMoves r old before what result new after =
    SubmissionMoves r old (submission_of_plain before) what result new (submission_of_plain after)

-- a submission is under way
abbrev pub IsSubmitting : submission.Doing → Type 0
IsSubmitting submission.Rests = ⊥
IsSubmitting doing = Unit {0}

-- a bio was split, with this bio for its first piece and the node at this place
abbrev pub CutsInto : Routing → TaskLists → Item Pad → Item Pad → ℕ → TaskLists → Type 0
CutsInto r lists part hand node rest =
    submission.cut_at (routing_setup r) lists part hand node (tree r.stack part.bio.dev.0) ≡ submission.goes_on (routing_setup r) part.bio.dev rest

-- the leg that is made next, in this bio
abbrev pub next_leg : Routing → Copying → Item Pad → ℕ → Item Pad
next_leg r copying hand node = submission.leg_at copying.bio hand copying.leg node (tree r.stack copying.bio.dev.0)

-- the leg that was made next is there: the copying goes on so
abbrev pub CopiesOn : Routing → TaskLists → Copying → Copying → submission.Want → Continuation → Type 0
CopiesOn r lists before after want next =
    submission.copies (routing_setup r) lists before.bio before.master (before.leg + 1) ≡ turned (routing_setup r) (copies_for after want) lists next

-- steps of a submission, by what it does
abbrev pub DoingSteps : Routing → CoreObjects → PlainDoing → Lists → What → Result Continuation CoreFault → CoreObjects → PlainDoing → Lists → Type 0
DoingSteps r old doing lists what result new after rest =
    SubmissionSteps r old (doing_of_plain doing) (lists_of lists) what result new (doing_of_plain after) (lists_of rest)

abbrev pub DriveSteps : Routing → CoreObjects → Item Pad → DriverAsk → Lists → What → Result Continuation CoreFault → CoreObjects → DriverAsk → Lists → Type 0
DriveSteps r old part ask lists what result new after rest =
    SubmissionSteps r old (drives_for part (ask_of_plain ask)) (lists_of lists) what result new (drives_for part (ask_of_plain after)) (lists_of rest)

abbrev pub CutSteps : Routing → CoreObjects → Item Pad → PlainWant → Lists → What → Result Continuation CoreFault → CoreObjects → PlainWant → Lists → Type 0
CutSteps r old part want lists what result new after rest =
    SubmissionSteps r old (cuts_for part (want_of_plain want)) (lists_of lists) what result new (cuts_for part (want_of_plain after)) (lists_of rest)

abbrev pub CopySteps : Routing → CoreObjects → Copying → PlainWant → Lists → What → Result Continuation CoreFault → CoreObjects → Copying → PlainWant → Lists → Type 0
CopySteps r old copying want lists what result new after wants rest =
    SubmissionSteps r old (copies_for copying (want_of_plain want)) (lists_of lists) what result new (copies_for after (want_of_plain wants)) (lists_of rest)
