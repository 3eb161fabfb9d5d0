-- What runs begin with, written out for examples: it is what the runs of a scenario begin with, where it is so place by place.
use Rattle.std.proofs.Common.{◌≡◌, ◌==◌, if◌then◌else◌, ℕ, Bool, true, false, List, [], ◌∷◌, length, replicate, sum_by, refl, slice_get, slice_index_or, None, subst, arith}
use Rattle.std.proofs.lemmas.List.Sums.{sum_by-cons}
use Rattle.elem_ledger.specs.Ledger.{LedgerId}
use Rattle.fail_script.specs.Script.{Answers}
use Rattle.stack_base.specs.declared.ids.PoolId.{PoolId}
use Rattle.stack_base.specs.declared.ids.PoolId.TheVariants.{FsBios, FsVecs, Bios, Records}
use Rattle.stack_base.specs.declared.ids.Status.TheVariants.{Ok}
use Rattle.stack_base.specs.declared.stack.Stack.{Stack}
use Rattle.stack_base.specs.Tree.{tree, size}
use Rattle.layout_model.specs.May.{bads_of}
use Rattle.layout_model.specs.NeedCounts.{nodes}
use Rattle.mempool_core.specs.Move.{opened}
use Rattle.model_disks.specs.Moves as disk
use Rattle.run_machine.specs.declared.event.Event.{Event}
use Rattle.run_machine.specs.Scene.{Setup, Scene, rescuer_at}
use Rattle.run_machine.specs.Tasks.{Todo, TaskState}
use Rattle.run_machine.specs.Objects.{Objects, TallyState}
use Rattle.run_machine.specs.Events.{pool_of}
use Rattle.run_machine.specs.Opened.{Scenario, device_at, no_task, places_of, reserve_of, script_at}
use Rattle.run_machine.specs.Opened as texts
use Rattle.run_machine.specs.Runs.{State, IsRun}

abbrev pub objects_by : Setup → (PoolId → ℕ) → List (PoolId × Answers) → TallyState → Objects
objects_by setup reserve scripts tally = record {
  pool = λ number. opened (reserve (pool_of number)) (script_at scripts number);
  rescue = λ dev. [];
  disk = λ dev. disk.blank_disk (device_at dev) (size (setup.tree dev)) [];
  book = λ writer. record { writer = writer; nodes = replicate (setup.places writer) None };
  tally = tally;
}

abbrev pub state_by : Objects → List TaskState → State
state_by objects tasks = record { objects = objects; task = λ place. slice_index_or tasks place no_task }

-- the tally of one write, which is not done
abbrev pub one_left : TallyState
one_left = record { round = 0; left = 1 ∷ []; statuses = Ok ∷ [] }

-- a run from what is written out is one of the scenario
pub runs_as : (scene other : Scene) (start first : State) (events : List Event) (end : State) → scene ≡ other → start ≡ first
    → IsRun scene start events end → IsRun other first events end
runs_as scene other start first events end scene_is start_is run =
    subst (λ (x : Scene × State). IsRun x.0 x.1 events end) (λ k. (scene_is k, start_is k)) run

-- reserves are the stack's, where the writers' are, and those of each device
pub reserves_are : (reserve : PoolId → ℕ) (stack : Stack) → reserve FsBios ≡ reserve_of stack FsBios → reserve FsVecs ≡ reserve_of stack FsVecs
    → ((dev : ℕ) → reserve (Bios (device_at dev)) ≡ reserve_of stack (Bios (device_at dev)))
    → ((dev : ℕ) → reserve (Records (device_at dev)) ≡ reserve_of stack (Records (device_at dev)))
    → (pool : PoolId) → reserve pool ≡ reserve_of stack pool
reserves_are reserve stack bios vecs of_sets of_mirrors FsBios = bios
reserves_are reserve stack bios vecs of_sets of_mirrors FsVecs = vecs
reserves_are reserve stack bios vecs of_sets of_mirrors (Bios dev) = of_sets dev.0
reserves_are reserve stack bios vecs of_sets of_mirrors (Records dev) = of_mirrors dev.0

-- where one writer has one write, its book has a place for each node of it, and the other books have none
pub first_places : (stack : Stack) (todo : Todo) (count : ℕ) → count ≡ nodes stack todo.write → (writer : ℕ)
    → (if 0 == writer then count else 0) ≡ sum_by (λ (todo : Todo). nodes stack todo.write) (if 0 == writer then todo ∷ [] else [])
first_places stack todo count is writer = by_test (0 == writer)
  where
    by_test : (own : Bool) → (if own then count else 0) ≡ sum_by (λ (todo : Todo). nodes stack todo.write) (if own then todo ∷ [] else [])
    by_test true = omega (arith, is, sum_by-cons (λ (todo : Todo). nodes stack todo.write) todo [])
    by_test false = refl

module _ (setup : Setup) (reserve : PoolId → ℕ) (tally : TallyState) (s : Scenario) where
  -- the setup, the reserves and the tally are the scenario's, and no disk of it has bad sectors
  pub record IsOfScenario : Type 0 where
    pub count_is : setup.count ≡ length s.stack.devices.items
    pub tree_is : (dev : ℕ) → setup.tree dev ≡ tree s.stack dev
    pub rescuer_is : (dev : ℕ) → setup.rescuer dev ≡ rescuer_at (slice_get s.stack.devices.items dev)
    pub places_are : (writer : ℕ) → setup.places writer ≡ places_of s writer
    pub reserve_is : (pool : PoolId) → reserve pool ≡ reserve_of s.stack pool
    pub bads_are : (dev : ℕ) → [] ≡ bads_of s.stack dev
    pub tally_is : tally ≡ (texts.objects s).tally

  module _ (is : IsOfScenario) where
    pub setup_is : setup ≡ texts.setup_in s
    setup_is = λ k. record {
      count = is.count_is k;
      tree = λ dev. is.tree_is dev k;
      rescuer = λ dev. is.rescuer_is dev k;
      places = λ writer. is.places_are writer k;
    }

    pub objects_are : objects_by setup reserve s.scripts tally ≡ texts.objects s
    objects_are = λ k. record {
      pool = λ number. opened (is.reserve_is (pool_of number) k) (script_at s.scripts number);
      rescue = λ dev. [];
      disk = λ dev. disk.blank_disk (device_at dev) (size (is.tree_is dev k)) (is.bads_are dev k);
      book = λ writer. record { writer = writer; nodes = replicate (is.places_are writer k) None };
      tally = is.tally_is k;
    }

    module _ (tasks : List TaskState) (tasks_are : tasks ≡ texts.opened_tasks s) where
      pub start_is : state_by (objects_by setup reserve s.scripts tally) tasks ≡ texts.start s
      start_is = λ k. record { objects = objects_are k; task = λ place. slice_index_or (tasks_are k) place no_task }

      pub scene_is : (ledger : ℕ → LedgerId)
          → record { setup = setup; tasks = length tasks; books = 8; writes = length s.writes; ledger = ledger } ≡ texts.scene s ledger
      scene_is ledger = λ k. record { setup = setup_is k; tasks = length (tasks_are k); books = 8; writes = length s.writes; ledger = ledger }

      -- so a run from what is written out is one of the scenario
      pub text_runs : (ledger : ℕ → LedgerId) (events : List Event) (end : State)
          → IsRun (record { setup = setup; tasks = length tasks; books = 8; writes = length s.writes; ledger = ledger }) (state_by (objects_by setup reserve s.scripts tally) tasks) events end
          → IsRun (texts.scene s ledger) (texts.start s) events end
      text_runs ledger events end run = runs_as _ _ _ _ events end (scene_is ledger) start_is run
