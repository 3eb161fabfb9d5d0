-- A step of a task over any objects: what it asks of them, and what it does.
use Rattle.std.specs.Prelude.{◌≡◌, ℕ, ◌∷◌, List, Option, None, Some}
use Rattle.stack_base.specs.declared.ids.DevId.{DevId}
use Rattle.stack_base.specs.declared.ids.Status.{Status}
use Rattle.bio_records.specs.declared.bio.Pad.{Pad}
use Rattle.bio_records.specs.Items.{Item}
use Rattle.bio_books.specs.Drops.{DropOutcome}
use Rattle.run_machine.specs.declared.event.Breach.{Breach}
use Rattle.run_machine.specs.declared.event.TaskId.TheVariants as id
use Rattle.task_steps.specs.declared.objects.Objects.{Ghosts}
use Rattle.task_steps.specs.declared.step.Step.{Step}
use Rattle.run_machine.specs.Requests.{Drop, DroppedTo}
use Rattle.run_machine.specs.Scene.{Setup}
use Rattle.run_machine.specs.Submissions.{Submission}
use Rattle.run_machine.specs.Tasks.{TaskState, Carried, Completer, Duty, Keeper, Keeping, Keeps}
use Rattle.task_steps.specs.Answers.{ComesTo}
use Rattle.task_steps.specs.CarriedViews.{given_back}
use Rattle.task_steps.specs.Homes.{IsSubmissionOf, IsTaskOf}
use Rattle.task_steps.specs.KeeperViews.{keeping_of}
use Rattle.task_steps.specs.Routed.{Routing, routing_setup}
use Rattle.task_steps.specs.Stage.{Owes}
use Rattle.task_steps.specs.Turns.{Asks, Turns, step_of}
use Rattle.task_steps.specs.WriterViews.{WriterState, writer_task}
use Rattle.task_steps.specs.RescuerViews.{RescuerState, rescuer_task}

-- objects that hold together, with a task that is one of theirs
abbrev pub HoldsTask : {S : Type 0} → Ghosts S → S → TaskState → Type 0
HoldsTask words objects task = words.holds objects × IsTaskOf (words.stage objects) task

-- the same of a task's submission
abbrev pub HoldsSubmission : {S : Type 0} → Ghosts S → S → Submission → Type 0
HoldsSubmission words objects submission = words.holds objects × IsSubmissionOf (words.stage objects) submission

-- a step of a task over these objects
abbrev pub TaskTurns : {S : Type 0} → Ghosts S → Setup → TaskState → S → TaskState → S → Step → Type 0
TaskTurns words setup task old next new step = ComesTo words old (Turns words.serves (Owes (words.stage old)) setup task old next new step) new

-- the same of a task by what its routes know of the devices
abbrev pub TaskDoes : {S : Type 0} → Ghosts S → Routing → TaskState → S → TaskState → S → Step → Type 0
TaskDoes words routing task old next new step = TaskTurns words (routing_setup routing) task old next new step

-- a step of a writer, and of a rescuer
abbrev pub WriterDoes : {S : Type 0} → Ghosts S → Routing → WriterState → S → WriterState → S → Step → Type 0
WriterDoes words routing writer old next new step = TaskDoes words routing (writer_task writer) old (writer_task next) new step

abbrev pub RescuerDoes : {S : Type 0} → Ghosts S → Routing → RescuerState → S → RescuerState → S → Step → Type 0
RescuerDoes words routing rescuer old next new step = TaskDoes words routing (rescuer_task rescuer) old (rescuer_task next) new step

-- a step of a writer, whatever is known of the devices
abbrev pub WriterTurns : {S : Type 0} → Ghosts S → WriterState → S → WriterState → S → Step → Type 0
WriterTurns words writer old next new step = (setup : Setup) → TaskTurns words setup (writer_task writer) old (writer_task next) new step

-- a task that has nothing to look at any more has asked for what it asks for next, whatever is known of the devices
abbrev pub TaskAsks : {S : Type 0} → Ghosts S → TaskState → S → TaskState → S → Step → Type 0
TaskAsks words task old next new step = ComesTo words old ((setup : Setup) → Asks words.serves (Owes (words.stage old)) setup task old next new step) new

-- a step of the completer of a disk, which carries this
abbrev pub CompleterDoes : {S : Type 0} → Ghosts S → DevId → Carried → S → Carried × Step → S → Type 0
CompleterDoes words disk carried old done new = TaskDoes words (words.stage old).routing (Completer disk carried) old (Completer disk done.0) new done.1

-- a step of one that carries what is left of a closed node: it tells the node's parent, or tells the write done
abbrev pub TellsParent : {S : Type 0} → Ghosts S → DevId → ℕ → ℕ → ℕ → Status → S → Carried × Step → S → Type 0
TellsParent words disk writer parent write status old done new = CompleterDoes words disk (given_back writer (Some parent) write status) old done new

abbrev pub TellsDone : {S : Type 0} → Ghosts S → DevId → ℕ → ℕ → Status → S → Carried × Step → S → Type 0
TellsDone words disk writer write status old done new = CompleterDoes words disk (given_back writer None write status) old done new

-- the step of a completer that told a node of an end: the event of that, or that it broke off, as the book answered
abbrev pub TellsDrop : DevId → ℕ → ℕ → Status → DropOutcome → Step → Type 0
TellsDrop disk writer node status ended step =
    (part : Option (Item Pad)) → (s : Setup) → step ≡ step_of s (id.Completer disk) (Drop writer node status part) (DroppedTo ended)

-- a step of the keeper
abbrev pub KeeperDoes : {S : Type 0} → Ghosts S → Keeping → S → Keeping → S → Step → Type 0
KeeperDoes words keeping old next new step = TaskDoes words (words.stage old).routing (Keeper keeping) old (Keeper next) new step

-- the keeper has asked for what this duty is, whatever duties there are behind it
abbrev pub KeeperAsks : {S : Type 0} → Ghosts S → Duty → S → Option Breach × Step → S → Type 0
KeeperAsks words duty old done new =
    (duties : List Duty) → TaskAsks words (Keeper (Keeps (duty ∷ duties))) old (Keeper (keeping_of done.0 duties)) new done.1
