-- Steps of tasks over the objects of one thread, as events of the machine.
use Rattle.std.specs.Prelude.{◌≡◌, ◌+◌, ◌<◌, ℕ, Bool, true, false, IsTrue, length}
use Rattle.run_machine.specs.declared.event.Event.{Event}
use Rattle.run_machine.specs.declared.event.Got.TheVariants.{Ordinary}
use Rattle.run_machine.specs.declared.event.What.{What}
use Rattle.run_machine.specs.declared.event.What.TheVariants.{Take}
use Rattle.task_core.specs.declared.plain.Plain.{Plain}
use Rattle.task_steps.specs.declared.step.Step.{Step}
use Rattle.task_steps.specs.declared.step.Step.TheVariants.{Stepped, Blocked, Waiting, Ended, Broken}
use Rattle.run_machine.specs.Maps.{upd}
use Rattle.run_machine.specs.Scene.{Scene}
use Rattle.run_machine.specs.Requests.{Request, NextRound}
use Rattle.run_machine.specs.Tasks.{TaskState, request}
use Rattle.run_machine.specs.Objects.{Objects}
use Rattle.run_machine.specs.Opened.{most_writers}
use Rattle.run_machine.specs.Runs.{State, Steps}
use Rattle.task_core.specs.Plains.{objects_of, stage_of, PlainServes}
use Rattle.task_steps.specs.Routed.{routing_setup}
use Rattle.task_steps.specs.Stage.{Owes}
use Rattle.task_steps.specs.Turns.{Turns}

-- the objects and these tasks, as a state of the machine
abbrev pub state_of_objects : Plain → (ℕ → TaskState) → State
state_of_objects plain task = record { objects = objects_of plain; task = task }

abbrev pub scene_of_objects : Plain → ℕ → Scene
scene_of_objects plain tasks = record {
  setup = routing_setup (stage_of plain).routing;
  tasks = tasks;
  books = most_writers;
  writes = (stage_of plain).writes;
  ledger = (stage_of plain).ledger;
}

-- a round that is asked for is there
abbrev pub HasRound : Objects → Request → Type 0
HasRound objects (NextRound round) = objects.tally.round + 1 < length objects.tally.left
HasRound objects request = Unit {0}

-- the task at a place makes a step
abbrev pub TakesStep : Plain → (ℕ → TaskState) → ℕ → TaskState → Plain → Step → Type 0
TakesStep old tasks place next new step =
    Turns PlainServes (Owes (stage_of old)) (routing_setup (stage_of old).routing) (tasks place) old next new step

-- nothing happened, and the task did not break off
abbrev pub IsStill : Step → Type 0
IsStill (Stepped event) = ⊥
IsStill (Blocked pool) = Unit {0}
IsStill Waiting = Unit {0}
IsStill Ended = Unit {0}
IsStill (Broken breach) = ⊥

-- a take that ordinary memory serves
abbrev pub is_ordinary : What → Bool
is_ordinary (Take pool Ordinary) = true
is_ordinary what = false

-- the task has no event there, but such as need ordinary memory
abbrev pub IsPassedOver : Scene → State → ℕ → Type 0
IsPassedOver scene state place = (event : Event) (new : State) → Steps scene state place event new → IsTrue (is_ordinary event.what)

-- A step over the objects of one thread that is told as an event is this event, with both its halves. One that is told as none, where the task
-- does not break off, changes neither the task nor an object, and the task had no event there but such as need ordinary memory.
pub record StepsAreEvents : Type 0 where
  pub stepped : (old new : Plain) (tasks : ℕ → TaskState) (count place : ℕ) (next : TaskState) (event : Event) → place < count
      → HasRound (objects_of old) (request (routing_setup (stage_of old).routing) (tasks place)) → TakesStep old tasks place next new (Stepped event)
      → Steps (scene_of_objects old count) (state_of_objects old tasks) place event (state_of_objects new (upd tasks place next))
  pub still : (old new : Plain) (tasks : ℕ → TaskState) (count place : ℕ) (next : TaskState) (step : Step) → IsStill step
      → TakesStep old tasks place next new step
      → (objects_of new ≡ objects_of old) × (next ≡ tasks place) × IsPassedOver (scene_of_objects old count) (state_of_objects old tasks) place
