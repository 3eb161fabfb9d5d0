-- Tasks without their boxes.
use Rattle.std.specs.Prelude.{◌≡◌, ℕ, Option}
use Rattle.stack_base.specs.declared.ids.DevId.{DevId}
use Rattle.task_steps.specs.declared.step.Step.{Step}
use Rattle.task_steps.specs.declared.task.Kind.{Kind}
use Rattle.task_steps.specs.declared.task.Kind.TheVariants as kind
use Rattle.run_machine.specs.Tasks.{TaskState, Writer, Rescuer, Completer, Keeper}
use Rattle.task_steps.specs.Routed.{Routing}
use Rattle.task_steps.specs.Turns.{Chosen}
use Rattle.task_steps.specs.WriterViews.{writer_task}
use Rattle.task_steps.specs.RescuerViews.{rescuer_task}

-- a task, with what it knows of devices
pub record TaskOf : Type 0 where
  pub routing : Routing
  pub state : TaskState

abbrev pub task_of : Kind → TaskState
task_of (kind.Writer writer) = writer_task writer
task_of (kind.Rescuer rescuer) = rescuer_task rescuer
task_of (kind.Completer disk carried) = Completer disk carried
task_of (kind.Keeper keeper) = Keeper keeper

-- the completer of a disk asks its chooser, and no other task does
abbrev pub ChosenBy : {S C : Type 0} → TaskState → (C → ℕ → ℕ → C → Type 0) → (S → DevId → ℕ → ℕ → Option ℕ → Type 0) → S → C → Step → C → Type 0
ChosenBy (Writer number todo taken submission) chooses picks now old step new = new ≡ old
ChosenBy (Rescuer dev submission) chooses picks now old step new = new ≡ old
ChosenBy (Completer disk carried) chooses picks now old step new = Chosen chooses picks now disk old step new
ChosenBy (Keeper keeping) chooses picks now old step new = new ≡ old
