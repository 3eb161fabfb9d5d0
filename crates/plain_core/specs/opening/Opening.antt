-- The state that is opened of a stack, the scripts of its pools and work over it: when it can be, part by part, and as a whole.
use Rattle.std.specs.Prelude.{◌≡◌, ◌+◌, ◌<◌, ◌≤◌, ◌++◌, if◌then◌else◌, ℕ, List, [], ◌∷◌, All, length, map, replicate, Option, None, Some}
use Rattle.std.specs.List.{range_with_len}
use Rattle.fail_script.specs.Script.{Answers}
use Rattle.stack_base.specs.declared.ids.PoolId.{PoolId}
use Rattle.stack_base.specs.declared.stack.Stack.{Stack}
use Rattle.stack_base.specs.PoolId.{IsOfStack}
use Rattle.stack_base.specs.Stack.{IsStack}
use Rattle.stack_base.specs.Tree.{tree}
use Rattle.layout_model.specs.declared.write.Write.{Write}
use Rattle.layout_model.specs.Bound.{all_elements, most_elements}
use Rattle.layout_model.specs.Writes.{IsWrite}
use Rattle.mempool_core.specs.Move.{PoolState, opened}
use Rattle.bio_books.specs.Books.{BookState}
use Rattle.model_disks.specs.Disks.{DiskState}
use Rattle.work_text.specs.declared.Resize.{Resize}
use Rattle.work_text.specs.declared.Work.{Work}
use Rattle.run_machine.specs.Events.{id_of, pool_of}
use Rattle.run_machine.specs.Objects.{TallyState}
use Rattle.run_machine.specs.Opened.{Scenario, most_writers, objects, reserve_of, scene, script_at, start, opened_disk, new_tally}
use Rattle.task_steps.specs.Routed.{places_at}
use Rattle.run_machine.specs.Scene.{keeps_data}
use Rattle.run_machine.specs.Tasks.{TaskState}
use Rattle.plain_core.specs.declared.steps.task.Task.{Task}
use Rattle.plain_core.specs.Cores.{CoreState, most_slots, AreFound, scene_of_core, slot_of, state_of_core}
use Rattle.plain_core.specs.objects.Ledgers.{ledger_of}
use Rattle.plain_core.specs.objects.Plain.{CoreObjects, most_pools}
use Rattle.plain_core.specs.steps.Views.{task_of_plain}

-- Such work a text may have over this stack, and such scripts. That each pool has its script, how the scripts are ordered, that writes are
-- apart and how many lines there are does not matter here.
pub record CanOpen (stack : Stack) (scripts : List (PoolId × Answers)) (work : Work) : Type 0 where
  pub is_stack : IsStack stack
  -- no pool that a stack can't have is named
  pub pools : All (λ (script : PoolId × Answers). IsOfStack script.0) scripts
  pub resizes : All (λ (resize : Resize). IsOfStack resize.pool) work.resizes.items
  -- the stack serves the writes, whose writers have numbers up to 7, and they need no more elements than writes may
  pub served : All (IsWrite stack) work.writes.items
  pub writers : All (λ (write : Write). write.task ≤ 7) work.writes.items
  pub allowed : all_elements stack work.writes.items ≤ most_elements
  -- each write has a round
  pub paired : length work.rounds.items ≡ length work.writes.items

-- the core in which the runs of a scenario begin
pub record IsOpenedCore (s : Scenario) (core : CoreState) : Type 0 where
  pub scene : scene_of_core core ≡ scene s ledger_of
  pub state : state_of_core core ≡ start s

-- pools, the first of all by their numbers: full
abbrev pub new_pool : Stack → List (PoolId × Answers) → ℕ → PoolState
new_pool stack scripts number = opened (reserve_of stack (pool_of number)) (script_at scripts number)

abbrev pub new_pools : Stack → List (PoolId × Answers) → ℕ → List PoolState
new_pools stack scripts count = map (new_pool stack scripts) (range_with_len 0 count)

-- all that a stack may have, and those of a scenario
abbrev pub all_pools : Stack → List (PoolId × Answers) → List PoolState
all_pools stack scripts = new_pools stack scripts most_pools

abbrev pub core_pools_of : Scenario → List PoolState
core_pools_of s = all_pools s.stack s.scripts

-- of the first devices those that are disks: zeros, in which nothing waits
abbrev pub new_disk : Stack → ℕ → Option DiskState
new_disk stack dev = if keeps_data (tree stack dev) then Some (opened_disk stack dev) else None

abbrev pub new_disks : Stack → ℕ → List (Option DiskState)
new_disks stack count = map (new_disk stack) (range_with_len 0 count)

-- of all devices
abbrev pub all_disks : Stack → List (Option DiskState)
all_disks stack = new_disks stack (length stack.devices.items)

-- the books of the first writers, with so many places for each, at which no node is open
abbrev pub new_book : List ℕ → ℕ → BookState
new_book places writer = record { writer = writer; nodes = replicate (places_at places writer) None }

abbrev pub new_books : List ℕ → ℕ → List BookState
new_books places count = map (new_book places) (range_with_len 0 count)

-- of all that a scenario may have
abbrev pub all_books : List ℕ → List BookState
all_books places = new_books places most_writers

-- all objects of a stack, with the places of its routes and a tally, and those of a scenario
abbrev pub new_core_objects : Stack → List (PoolId × Answers) → List ℕ → TallyState → CoreObjects
new_core_objects stack scripts places tally = record {
  stack = stack;
  pools = all_pools stack scripts;
  rescues = replicate (length stack.devices.items) [];
  disks = all_disks stack;
  books = all_books places;
  tally = tally;
}

abbrev pub core_objects_of : Scenario → List ℕ → CoreObjects
core_objects_of s places = new_core_objects s.stack s.scripts places (objects s).tally

-- those of a stack as its runs begin with them, of which so many writes are left in each round, and there are so many in all
abbrev pub begun_objects : Stack → List (PoolId × Answers) → List ℕ → List ℕ → ℕ → CoreObjects
begun_objects stack scripts places left writes = new_core_objects stack scripts places (new_tally left writes)

-- each task is found, and the slots of those still to come are this one and higher ones
pub record AreTasksEntered (tasks : List TaskState) (places : List ℕ) (slot : ℕ) : Type 0 where
  pub found : AreFound places tasks
  pub below : All (λ task. slot_of (id_of task) < slot) tasks
  pub few : length tasks ≤ slot
  pub long : length places ≡ most_slots

-- the slot of a task
abbrev pub task_slot : Task → ℕ
task_slot task = slot_of (id_of (task_of_plain task))

-- these tasks were entered behind the others
abbrev pub EntersTasks : List Task → List TaskState → List Task → List ℕ → ℕ → Type 0
EntersTasks old more new places slot = (map task_of_plain new ≡ map task_of_plain old ++ more) × AreTasksEntered (map task_of_plain new) places slot

-- this task was
abbrev pub EntersTask : List Task → Task → List Task → List ℕ → Type 0
EntersTask old task new places = EntersTasks old (task_of_plain task ∷ []) new places (task_slot task + 1)

-- these tasks are those, and each is found
abbrev pub IsEntering : List Task → List ℕ → List TaskState → Type 0
IsEntering tasks places all = (map task_of_plain tasks ≡ all) × AreFound places (map task_of_plain tasks)
