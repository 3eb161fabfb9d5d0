-- What the writes and the `resize` lines of a text are to the tasks and the tally, as these are opened.
use Rattle.std.specs.Prelude.{◌≡◌, ◌+◌, ◌-◌, ◌^◌, ◌<◌, ◌++◌, ℕ, List, [], ◌∷◌, All, length, map, sum_by, slice_index_or}
use Rattle.std.specs.List.{range_with_len}
use Rattle.stack_base.specs.declared.ids.DevId.{DevId}
use Rattle.stack_base.specs.declared.ids.PoolId.{PoolId}
use Rattle.stack_base.specs.declared.stack.Stack.{Stack}
use Rattle.layout_model.specs.declared.write.Write.{Write}
use Rattle.layout_model.specs.NeedCounts.{nodes}
use Rattle.layout_model.specs.Writes.{IsWrite}
use Rattle.work_text.specs.declared.Resize.{Resize}
use Rattle.work_text.specs.declared.Work.{Work}
use Rattle.task_steps.specs.declared.keeper.Duty as real
use Rattle.task_steps.specs.declared.task.Kind.{Kind}
use Rattle.task_core.specs.declared.opening.tasks.DeviceTasks.{DeviceTasks}
use Rattle.task_core.specs.declared.opening.tasks.DeviceTasks.TheVariants as of_devices
use Rattle.run_machine.specs.Scene.{Setup}
use Rattle.task_steps.specs.KeeperViews.{duty_of}
use Rattle.task_steps.specs.Routed.{Routing, routing_setup}
use Rattle.task_steps.specs.TaskViews.{TaskOf, task_of}
use Rattle.run_machine.specs.Submissions.{rests}
use Rattle.run_machine.specs.Tasks.{Todo, NoBio, Duty, Starts, TaskState, Writer}
use Rattle.run_machine.specs.Opened.{todos_by, nodes_of, writers_of, rescuers_of, completers_of, rounds_in, changes_at, duties_in, keepers, most_writers}
use Rattle.run_machine.specs.Scenario.{change_of}

-- Writes that a stack can serve, by writers of small numbers, each with its round, which open few nodes together.
pub record AreServableWrites (stack : Stack) (rounds : List ℕ) (writes : List Write) : Type 0 where
  pub served : All (IsWrite stack) writes
  pub writers : All (λ (write : Write). write.task < most_writers) writes
  pub paired : length rounds ≡ length writes
  pub few : sum_by (λ write. nodes stack write) writes < 2 ^ 32

-- the books of the first writers have as many places
pub record ArePlaced (stack : Stack) (rounds : List ℕ) (writes : List Write) (bound : ℕ) (places : List ℕ) : Type 0 where
  pub eight : length places ≡ most_writers
  pub each : (writer : ℕ) → writer < bound → slice_index_or places writer 0 ≡ nodes_of stack (todos_by rounds writes writer)

-- tasks that were added to others
abbrev pub shown_tasks : List Kind → List TaskState
shown_tasks kinds = map task_of kinds

abbrev pub AddsTasks : List Kind → List TaskState → List Kind → Type 0
AddsTasks old tasks new = shown_tasks new ≡ shown_tasks old ++ tasks

-- the writer of these writes, if there is one
abbrev pub writer_with : ℕ → List Todo → List TaskState
writer_with writer [] = []
writer_with writer (todo ∷ todos) = Writer writer (todo ∷ todos) NoBio rests ∷ []

-- the writers of a work among these numbers, and all of them
abbrev pub writers_among : Work → List ℕ → List TaskState
writers_among work numbers = writers_of work.rounds.items work.writes.items numbers

abbrev pub writers_in : Work → List TaskState
writers_in work = writers_among work (range_with_len 0 most_writers)

-- how many places the book of a writer of a work has: its writes open so many nodes
abbrev pub book_places : Stack → Work → ℕ → ℕ
book_places stack work writer = nodes_of stack (todos_by work.rounds.items work.writes.items writer)

-- what tasks know of the devices of a stack, with the places of these books
abbrev pub IsRoutingFor : Stack → Work → Routing → Type 0
IsRoutingFor stack work routing = (routing.stack ≡ stack) × ArePlaced stack work.rounds.items work.writes.items most_writers routing.places

-- the tasks of these devices, of one kind, and those of all devices of a stack
abbrev pub device_tasks : DeviceTasks → Setup → List ℕ → List TaskState
device_tasks of_devices.Rescuers setup numbers = rescuers_of setup numbers
device_tasks of_devices.Completers setup numbers = completers_of setup numbers

abbrev pub device_tasks_in : DeviceTasks → Routing → Stack → List TaskState
device_tasks_in which routing stack = device_tasks which (routing_setup routing) (range_with_len 0 (length stack.devices.items))

-- the tasks that such a function has of one device were added to others
abbrev pub AddsOfDevice : (Setup → List ℕ → List TaskState) → Routing → DevId → List Kind → List Kind → Type 0
AddsOfDevice tasks_of routing dev old new = AddsTasks old (tasks_of (routing_setup routing) (dev.0 ∷ [])) new

-- tasks with what they know of devices
abbrev pub with_routing : Routing → List TaskState → List TaskOf
with_routing routing tasks = map (λ task. record { routing = routing; state = task }) tasks

-- the changes of a round, where so many writes are left when it starts; the same and then its start; and what is done between all rounds
abbrev pub resizes_at : ℕ → ℕ → List Resize → List Duty
resizes_at round later resizes = changes_at round later (map change_of resizes)

abbrev pub duties_at : ℕ → ℕ → List Resize → List Duty
duties_at round later resizes = resizes_at round later resizes ++ Starts round later ∷ []

abbrev pub all_duties : List ℕ → List Resize → List Duty
all_duties rounds resizes = duties_in rounds (map change_of resizes) (rounds_in rounds - 1)

-- duties that were added to others
abbrev pub AddsDuties : List real.Duty → List Duty → List real.Duty → Type 0
AddsDuties old duties new = map duty_of new ≡ map duty_of old ++ duties

-- the keeper of the rounds, if there is something to do between them
abbrev pub keepers_in : List ℕ → List Resize → List TaskState
keepers_in rounds resizes = keepers (all_duties rounds resizes)

-- the tasks behind the writers
abbrev pub others_in : Setup → Work → List TaskState
others_in setup work =
    rescuers_of setup (range_with_len 0 setup.count)
    ++ (completers_of setup (range_with_len 0 setup.count) ++ keepers_in work.rounds.items work.resizes.items)

-- the reserves that pools get
abbrev pub reserves_in : List Resize → List (PoolId × ℕ)
reserves_in resizes = map (λ (resize : Resize). (resize.pool, resize.min)) resizes
