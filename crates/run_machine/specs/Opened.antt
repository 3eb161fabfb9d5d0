-- The state in which the runs of a scenario begin.
use Rattle.std.specs.Prelude.{◌+◌, ◌-◌, ◌==◌, ◌++◌, ℕ, Bool, true, nat_le, List, [], ◌∷◌, length, map, filter, find, fold, max, zip, replicate, sum_by, slice_get, slice_index_or, None}
use Rattle.std.specs.List.{range_with_len, flat_map, list_any}
use Rattle.std.specs.Option.{option_map_or}
use Rattle.elem_ledger.specs.Ledger.{LedgerId}
use Rattle.fail_script.specs.Script.{Answers, only_tail}
use Rattle.stack_base.specs.declared.ids.DevId.{DevId}
use Rattle.stack_base.specs.declared.ids.PoolId.{PoolId}
use Rattle.stack_base.specs.declared.ids.PoolId.TheVariants.{FsBios, FsVecs, Bios, Records}
use Rattle.stack_base.specs.declared.ids.Status.TheVariants as status
use Rattle.stack_base.specs.declared.stack.Device.{Device}
use Rattle.stack_base.specs.declared.stack.Kind.{Kind}
use Rattle.stack_base.specs.declared.stack.Kind.TheVariants as kind
use Rattle.stack_base.specs.declared.stack.Stack.{Stack}
use Rattle.stack_base.specs.PoolId.{pool_number}
use Rattle.stack_base.specs.Tree.{tree, size}
use Rattle.layout_model.specs.declared.write.Write.{Write}
use Rattle.layout_model.specs.May.{bads_of}
use Rattle.layout_model.specs.NeedCounts.{nodes}
use Rattle.mempool_core.specs.Move.{opened}
use Rattle.model_disks.specs.Moves as disk
pub use Rattle.decl_text.specs.Known.{Change}
use Rattle.run_machine.specs.Scene.{Setup, Scene, setup_of, is_disk}
use Rattle.run_machine.specs.Submissions.{rests}
use Rattle.run_machine.specs.Tasks.{Todo, NoBio, Empty, Duty, Resizes, Starts, Keeps, TaskState, Writer, Rescuer, Completer, Keeper}
use Rattle.run_machine.specs.Objects.{Objects, TallyState}
use Rattle.run_machine.specs.Events.{pool_of}
use Rattle.run_machine.specs.Runs.{State}
use Rattle.model_disks.specs.Disks.{DiskState}

-- what an accepted text means: a stack, the script of each pool, the writes with the round of each, and the changes of reserves, in the order
-- of their lines
pub record Scenario : Type 0 where
  pub stack : Stack
  pub scripts : List (PoolId × Answers)
  pub writes : List Write
  pub rounds : List ℕ
  pub changes : List Change

-- writes, each with its round and its number, the first of which is this
abbrev pub numbered_from : ℕ → List ℕ → List Write → List Todo
numbered_from first rounds writes =
    map (λ x. record { number = x.0; round = x.1.0; write = x.1.1 }) (zip (range_with_len first (length writes)) (zip rounds writes))

abbrev pub numbered : List ℕ → List Write → List Todo
numbered rounds writes = numbered_from 0 rounds writes

abbrev pub todos : Scenario → List Todo
todos s = numbered s.rounds s.writes

abbrev pub is_by : ℕ → Todo → Bool
is_by writer todo = todo.write.task == writer

-- the writes of a writer, in the order of the text
abbrev pub todos_by : List ℕ → List Write → ℕ → List Todo
todos_by rounds writes writer = filter (is_by writer) (numbered rounds writes)

abbrev pub todos_of : Scenario → ℕ → List Todo
todos_of s writer = todos_by s.rounds s.writes writer

-- the numbers of writers are below this, and a writer is there for each number that a write names
abbrev pub most_writers : ℕ
most_writers = 8

abbrev pub is_writer : List ℕ → List Write → ℕ → Bool
is_writer rounds writes writer = list_any (is_by writer) (numbered rounds writes)

abbrev pub writers : Scenario → List ℕ
writers s = filter (is_writer s.rounds s.writes) (range_with_len 0 most_writers)

-- how many nodes such writes open
abbrev pub nodes_of : Stack → List Todo → ℕ
nodes_of stack todos = sum_by (λ (todo : Todo). nodes stack todo.write) todos

-- how many places the book of a writer has: one for each node that its writes open
abbrev pub places_of : Scenario → ℕ → ℕ
places_of s writer = nodes_of s.stack (todos_of s writer)

abbrev pub setup_in : Scenario → Setup
setup_in s = setup_of s.stack (places_of s)

-- how many rounds there are: the last one has a write, but where there is no write at all
abbrev pub rounds_in : List ℕ → ℕ
rounds_in rounds = 1 + fold max 0 rounds

abbrev pub round_count : Scenario → ℕ
round_count s = rounds_in s.rounds

-- how many writes a round has, and how many it has with all behind it
abbrev pub in_round : List ℕ → ℕ → ℕ
in_round rounds round = length (filter (λ r. r == round) rounds)

abbrev pub from_round : List ℕ → ℕ → ℕ
from_round rounds round = length (filter (λ r. nat_le round r) rounds)

abbrev pub writes_in : Scenario → ℕ → ℕ
writes_in s round = in_round s.rounds round

abbrev pub writes_from : Scenario → ℕ → ℕ
writes_from s round = from_round s.rounds round

-- how many writes each round has
abbrev pub left_in : List ℕ → List ℕ
left_in rounds = map (in_round rounds) (range_with_len 0 (rounds_in rounds))

-- whether a change is made before this round
abbrev pub is_at : ℕ → Change → Bool
is_at round change = change.round == round

-- the changes before a round, where so many writes are left when it starts
abbrev pub changes_at : ℕ → ℕ → List Change → List Duty
changes_at round later changes = map (λ (change : Change). Resizes change.pool change.min later) (filter (is_at round) changes)

-- what the keeper does before a round and at its start
abbrev pub starts_at : List ℕ → List Change → ℕ → List Duty
starts_at rounds changes round = changes_at round (from_round rounds round) changes ++ Starts round (from_round rounds round) ∷ []

abbrev pub duties_of : Scenario → ℕ → List Duty
duties_of s round = starts_at s.rounds s.changes round

-- and that of so many rounds behind round 0
abbrev pub duties_in : List ℕ → List Change → ℕ → List Duty
duties_in rounds changes count = flat_map (starts_at rounds changes) (range_with_len 1 count)

abbrev pub duties : Scenario → List Duty
duties s = duties_in s.rounds s.changes (round_count s - 1)

-- there is a keeper where there is more than one round
abbrev pub keepers : List Duty → List TaskState
keepers [] = []
keepers (duty ∷ duties) = Keeper (Keeps (duty ∷ duties)) ∷ []

abbrev pub device_at : ℕ → DevId
device_at dev = record { 0 = dev }

-- the writers of these numbers that have a write, and the rescuers and completers of devices that have one
abbrev pub writers_of : List ℕ → List Write → List ℕ → List TaskState
writers_of rounds writes numbers =
    map (λ writer. Writer writer (todos_by rounds writes writer) NoBio rests) (filter (is_writer rounds writes) numbers)

abbrev pub rescuers_of : Setup → List ℕ → List TaskState
rescuers_of setup numbers = map (λ dev. Rescuer (device_at dev) rests) (filter setup.rescuer numbers)

abbrev pub completers_of : Setup → List ℕ → List TaskState
completers_of setup numbers = map (λ dev. Completer (device_at dev) Empty) (filter (is_disk setup) numbers)

-- the tasks in their order: writers, the rescuers of sets, the completers of disks, and the keeper
abbrev pub opened_tasks : Scenario → List TaskState
opened_tasks s =
    writers_of s.rounds s.writes (range_with_len 0 most_writers)
    ++ (rescuers_of (setup_in s) (range_with_len 0 (setup_in s).count)
    ++ (completers_of (setup_in s) (range_with_len 0 (setup_in s).count) ++ keepers (duties s)))

abbrev pub scene : Scenario → (ℕ → LedgerId) → Scene
scene s ledger = record { setup = setup_in s; tasks = length (opened_tasks s); books = most_writers; writes = length s.writes; ledger = ledger }

-- the reserve of a pool
abbrev pub records_of : Kind → ℕ
records_of (kind.Mirror records) = records
records_of kind = 0

abbrev pub reserve_of : Stack → PoolId → ℕ
reserve_of stack FsBios = stack.fs_bios
reserve_of stack FsVecs = stack.fs_vecs
reserve_of stack (Bios dev) = option_map_or (λ (device : Device). device.reserve) (slice_get stack.devices.items dev.0) 0
reserve_of stack (Records dev) = option_map_or (λ (device : Device). records_of device.kind) (slice_get stack.devices.items dev.0) 0

-- whether a script is that of the pool with this number
abbrev pub is_numbered : ℕ → PoolId × Answers → Bool
is_numbered number script = pool_number script.0 == number

-- the script of a pool, which is told by its number
abbrev pub script_at : List (PoolId × Answers) → ℕ → Answers
script_at scripts number = option_map_or (λ (script : PoolId × Answers). script.1) (find (is_numbered number) scripts) (only_tail true)

-- the tally of so many writes of each round and so many of all, none of which is done
abbrev pub new_tally : List ℕ → ℕ → TallyState
new_tally counts writes = record { round = 0; left = counts; statuses = replicate writes status.Ok }

-- that of these writes, with their rounds
abbrev pub tally_in : List ℕ → List Write → TallyState
tally_in rounds writes = new_tally (left_in rounds) (length writes)

-- a disk of a stack as it is opened
abbrev pub opened_disk : Stack → ℕ → DiskState
opened_disk stack dev = disk.blank_disk (device_at dev) (size (tree stack dev)) (bads_of stack dev)

-- the objects of a stack as they are opened, with so many places in each book and this tally: pools are full, disks are zeros, nothing waits
-- and no node is open
abbrev pub opened_objects : Stack → List (PoolId × Answers) → (ℕ → ℕ) → TallyState → Objects
opened_objects stack scripts places tally = record {
  pool = λ number. opened (reserve_of stack (pool_of number)) (script_at scripts number);
  rescue = λ dev. [];
  disk = opened_disk stack;
  book = λ writer. record { writer = writer; nodes = replicate (places writer) None };
  tally = tally;
}

-- those of a scenario, in which every write is unfinished
abbrev pub objects : Scenario → Objects
objects s = opened_objects s.stack s.scripts (places_of s) (tally_in s.rounds s.writes)

-- no task behind the last
abbrev pub no_task : TaskState
no_task = Keeper (Keeps [])

abbrev pub start : Scenario → State
start s = record { objects = objects s; task = λ place. slice_index_or (opened_tasks s) place no_task }
