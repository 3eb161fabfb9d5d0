-- A plain core: what tasks know of a stack, the objects, and the tasks in their order; and the state of the machine that it is.
use Rattle.std.specs.Prelude.{◌≡◌, ◌+◌, ◌*◌, ◌<◌, ℕ, List, length, map, slice_get, slice_set, slice_index_or, All, MatchOption, Option, Some, Result, Ok, Err}
use Rattle.run_machine.specs.declared.event.TaskId.{TaskId}
use Rattle.run_machine.specs.declared.event.TaskId.TheVariants as id
use Rattle.run_machine.specs.declared.event.Event.{Event}
use Rattle.run_machine.specs.Scene.{Scene}
use Rattle.run_machine.specs.Tasks.{TaskState}
use Rattle.run_machine.specs.Events.{id_of}
use Rattle.run_machine.specs.Runs.{State, Happens, IsEnabled}
use Rattle.run_machine.specs.Opened.{most_writers, no_task}
use Rattle.task_steps.specs.Routed.{Routing, routing_setup}
use Rattle.task_steps.specs.Within.{TaskIsWithin}
use Rattle.run_machine.specs.declared.event.What.{What}
use Rattle.plain_core.specs.declared.steps.task.Task.{Task}
use Rattle.plain_core.specs.steps.Moves.{Submits, PlainTaskMoves}
use Rattle.plain_core.specs.steps.Views.{task_of_plain}
use Rattle.plain_core.specs.objects.Ledgers.{ledger_of}
use Rattle.plain_core.specs.objects.Plain.{CoreObjects, most_devices, objects_of_core}
use Rattle.plain_core.specs.declared.fault.CoreFault.{CoreFault}
use Rattle.plain_core.specs.declared.fault.CoreFault.TheVariants as fault

pub record CoreState : Type 0 where
  pub routing : Routing
  pub objects : CoreObjects
  pub tasks : List TaskState

abbrev pub task_at : List TaskState → ℕ → TaskState
task_at tasks place = slice_index_or tasks place no_task

abbrev pub state_of_core : CoreState → State
state_of_core c = record { objects = objects_of_core c.objects; task = task_at c.tasks }

-- no event names a ledger, so any names serve that tell the pools
abbrev pub scene_of_core : CoreState → Scene
scene_of_core c = record {
  setup = routing_setup c.routing;
  tasks = length c.tasks;
  books = most_writers;
  writes = length c.objects.tally.statuses;
  ledger = ledger_of;
}

-- Where the place of a task is kept. Slots rise as the tasks of a core do: writers, rescuers, completers and the keeper.
abbrev pub slot_of : TaskId → ℕ
slot_of (id.Writer number) = number
slot_of (id.Rescuer dev) = most_writers + dev.0
slot_of (id.Completer disk) = most_writers + most_devices + disk.0
slot_of id.Keeper = most_writers + 2 * most_devices

-- how many there are: one for each writer, two for each device and the keeper's
abbrev pub most_slots : ℕ
most_slots = most_writers + 2 * most_devices + 1

-- each task is found by its name
abbrev pub AreFound : List ℕ → List TaskState → Type 0
AreFound places tasks = (place : ℕ) → place < length tasks → slice_get places (slot_of (id_of (task_at tasks place))) ≡ Some place

-- the tasks are those of the objects' stack, each within it, and each is found
pub record IsCore (routing : Routing) (objects : CoreObjects) (tasks : List TaskState) (places : List ℕ) : Type 0 where
  pub stack : objects.stack ≡ routing.stack
  pub fits : All (TaskIsWithin routing.stack) tasks
  pub found : AreFound places tasks

-- the one task of this name
pub record IsPlaceOfTask (tasks : List TaskState) (name : TaskId) (place : ℕ) : Type 0 where
  pub within : place < length tasks
  pub named : name ≡ id_of (task_at tasks place)
  pub only : (other : ℕ) → other < length tasks → name ≡ id_of (task_at tasks other) → other ≡ place

-- no task has it
abbrev pub HasNoTask : List TaskState → TaskId → Type 0
HasNoTask tasks name = (place : ℕ) → place < length tasks → name ≡ id_of (task_at tasks place) → ⊥

-- the place of the task of this name, if there is one
abbrev pub FindsTask : List Task → TaskId → Option ℕ → Type 0
FindsTask tasks name found = MatchOption found (HasNoTask (map task_of_plain tasks) name) (IsPlaceOfTask (map task_of_plain tasks) name)

-- the task of this name has a submission under way
abbrev pub IsOfSubmission : List TaskState → TaskId → Type 0
IsOfSubmission tasks name = (place : ℕ) × IsPlaceOfTask tasks name place × Submits (task_at tasks place)

-- An event was applied: it is a step of the machine to the state afterwards and to no other one, and what no event changes is as before.
pub record IsApplied (old : CoreState) (event : Event) (new : CoreState) : Type 0 where
  pub happens : Happens (scene_of_core old) (state_of_core old) event (state_of_core new)
  pub only : (other : State) → Happens (scene_of_core old) (state_of_core old) event other → other ≡ state_of_core new
  pub scene : scene_of_core new ≡ scene_of_core old
  pub routing : new.routing ≡ old.routing

-- Where an event is no step of the machine, or one for which there is no memory, nothing is changed. A submission alone takes memory.
abbrev pub Applies : CoreState → Event → Result (Unit {0}) CoreFault → CoreState → Type 0
Applies old event (Ok done) new = IsApplied old event new
Applies old event (Err fault.NotEnabled) new = (new ≡ old) × ((next : State) → Happens (scene_of_core old) (state_of_core old) event next → ⊥)
Applies old event (Err fault.Memory) new = (new ≡ old) × IsEnabled (scene_of_core old) (state_of_core old) event × IsOfSubmission old.tasks event.task

-- the task at this place goes on, and all others stay
abbrev pub StepsFrom : Routing → CoreObjects → List Task → ℕ → Option Task → What → Result (Unit {0}) CoreFault → CoreObjects → Option Task → List Task → Type 0
StepsFrom r old tasks place (Some before) what result new (Some after) rest =
    PlainTaskMoves r old before what result new after × (rest ≡ slice_set tasks place after)
StepsFrom r old tasks place before what result new after rest = ⊥

abbrev pub StepsAt : Routing → CoreObjects → List Task → ℕ → What → Result (Unit {0}) CoreFault → CoreObjects → List Task → Type 0
StepsAt r old tasks place what result new rest = StepsFrom r old tasks place (slice_get tasks place) what result new (slice_get rest place) rest
