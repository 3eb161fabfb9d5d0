-- What a step of a task makes of it and of the objects, and where there is none.
use Rattle.std.specs.Prelude.{◌≡◌, true, List, [], ◌∷◌, drop, Result, Ok, Err}
use Rattle.bio_records.specs.declared.bio.Pad.{Pad}
use Rattle.bio_records.specs.Items.{Item}
use Rattle.run_machine.specs.declared.event.What.{What}
use Rattle.run_machine.specs.Requests.{Reply, Did, OutIs}
use Rattle.run_machine.specs.Submissions as submission
use Rattle.run_machine.specs.Tasks as task
use Rattle.run_machine.specs.Tasks.{TaskState, request, answered, look_of}
use Rattle.run_machine.specs.Runs.{IsLet}
use Rattle.task_steps.specs.Routed.{Routing, routing_setup}
use Rattle.plain_core.specs.declared.steps.task.Completer.{Completer}
use Rattle.plain_core.specs.declared.steps.task.Rescuer.{Rescuer}
use Rattle.plain_core.specs.declared.steps.task.Task.{Task}
use Rattle.plain_core.specs.declared.steps.task.Writer.{Writer}
use Rattle.plain_core.specs.objects.Ledgers.{ledger_of}
use Rattle.plain_core.specs.objects.Plain.{CoreObjects, objects_of_core}
use Rattle.plain_core.specs.steps.Views.{completer_of, rescuer_of, task_of_plain, writer_of}
use Rattle.plain_core.specs.steps.Answers.{AnswersRequest, IsAnswer, Refuses, HasAnswer}
use Rattle.plain_core.specs.steps.Submissions.{IsSubmitting}
use Rattle.plain_core.specs.declared.fault.CoreFault.{CoreFault}
use Rattle.plain_core.specs.declared.fault.CoreFault.TheVariants as fault

-- a writer or a rescuer with a submission under way: these alone take memory
abbrev pub Submits : TaskState → Type 0
Submits (task.Writer number todo taken l) = IsSubmitting l.doing
Submits (task.Rescuer dev l) = IsSubmitting l.doing
Submits state = ⊥

-- A task goes on with an answer to what it asks for, where what it looks at lets it ask; it lacks memory only where it could go on so. An `Err`
-- leaves the objects and the task as they were.
abbrev pub TaskMoves : Routing → CoreObjects → TaskState → What → Result (Unit {0}) CoreFault → CoreObjects → TaskState → Type 0
TaskMoves r old before what (Ok done) new after =
    (reply : Reply)
    × IsLet ledger_of (objects_of_core old) before (look_of before)
    × IsAnswer old (request (routing_setup r) before) what reply new
    × (after ≡ answered (routing_setup r) before reply)
TaskMoves r old before what (Err fault.NotEnabled) new after =
    (new ≡ old) × (after ≡ before) × (IsLet ledger_of (objects_of_core old) before (look_of before) → Refuses old (request (routing_setup r) before) what)
TaskMoves r old before what (Err fault.Memory) new after =
    (new ≡ old)
    × (after ≡ before)
    × Submits before
    × IsLet ledger_of (objects_of_core old) before (look_of before)
    × HasAnswer old (request (routing_setup r) before) what

-- the same of plain tasks, and of one that goes on so whatever is known of the devices
abbrev pub PlainTaskMoves : Routing → CoreObjects → Task → What → Result (Unit {0}) CoreFault → CoreObjects → Task → Type 0
PlainTaskMoves r old before what result new after = TaskMoves r old (task_of_plain before) what result new (task_of_plain after)

abbrev pub AlwaysMoves : CoreObjects → TaskState → What → Result (Unit {0}) CoreFault → CoreObjects → TaskState → Type 0
AlwaysMoves old before what result new after = (r : Routing) → TaskMoves r old before what result new after

-- what the keeper's duty is answered with
abbrev pub duty_reply : task.Duty → Reply
duty_reply (task.Resizes pool min later) = OutIs 0
duty_reply (task.Starts round later) = Did

-- an object answers so for the duty
abbrev pub AnswersDuty : CoreObjects → task.Duty → What → Result (Unit {0}) CoreFault → CoreObjects → Type 0
AnswersDuty old duty what result new = AnswersRequest old (task.duty_request duty) what (λ done. duty_reply duty) result new

-- a writer that has begun its next write with this bio
abbrev pub begun_with : Routing → Writer → Item Pad → TaskState
begun_with r writer part =
    task.Writer writer.number (drop 1 writer.todo) task.NoBio (submission.settled (routing_setup r) (part ∷ []))

-- a writer goes on as `TaskMoves` says, by what is known of the devices, and so does a rescuer
abbrev pub WriterMoves : Routing → CoreObjects → Writer → What → Result (Unit {0}) CoreFault → CoreObjects → Writer → Type 0
WriterMoves r old before what result new after = TaskMoves r old (writer_of before) what result new (writer_of after)

abbrev pub RescuerMoves : Routing → CoreObjects → Rescuer → What → Result (Unit {0}) CoreFault → CoreObjects → Rescuer → Type 0
RescuerMoves r old before what result new after = TaskMoves r old (rescuer_of before) what result new (rescuer_of after)

-- a completer goes on so whatever is known of them
abbrev pub CompleterMoves : CoreObjects → Completer → What → Result (Unit {0}) CoreFault → CoreObjects → Completer → Type 0
CompleterMoves old before what result new after = (r : Routing) → TaskMoves r old (completer_of before) what result new (completer_of after)

-- a write needs a vector
abbrev pub NeedsVector : task.Todo → Type 0
NeedsVector next = task.needs_vector next.write ≡ true

-- a writer goes on so where its next write is such a one
abbrev pub WriterMovesFor : (task.Todo → Type 0) → CoreObjects → Writer → What → Result (Unit {0}) CoreFault → CoreObjects → Writer → Type 0
WriterMovesFor IsSo old before what result new after =
    (r : Routing) (next : task.Todo) (later : List task.Todo) → before.todo ≡ next ∷ later → IsSo next → WriterMoves r old before what result new after
