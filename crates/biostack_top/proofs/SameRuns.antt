-- A run over one of two stacks that the same declarations mean is a run over the other.
use Rattle.std.proofs.Common.{◌≡◌, ◌+◌, ℕ, List, ◌++◌, length, map, filter, slice_index_or, ap, subst}
use Rattle.std.specs.Prelude.{replicate, sum_by, None}
use Rattle.std.specs.List.{range_with_len}
use Rattle.elem_ledger.specs.Ledger.{LedgerId}
use Rattle.fail_script.specs.Script.{Answers}
use Rattle.stack_base.specs.declared.ids.PoolId.{PoolId}
use Rattle.stack_base.specs.declared.stack.Stack.{Stack}
use Rattle.stack_base.specs.Tree.{Tree, size, tree}
use Rattle.layout_model.specs.Need.{needed}
use Rattle.mempool_core.specs.Move.{opened}
use Rattle.model_disks.specs.Moves as disk
use Rattle.decl_text.specs.Accepting.{MeansStack}
use Rattle.decl_text.specs.Known.{Declarations}
use Rattle.run_machine.specs.declared.event.Event.{Event}
use Rattle.run_machine.specs.Events.{pool_of}
use Rattle.run_machine.specs.Submissions.{rests}
use Rattle.run_machine.specs.Opened.{Scenario, device_at, duties, keepers, most_writers, no_task, objects, places_of, scene, script_at, setup_in, start, opened_tasks, todos_of, writers}
use Rattle.run_machine.specs.Runs.{State, IsRun}
use Rattle.run_machine.specs.Scene.{Scene, Setup, is_disk}
use Rattle.run_machine.specs.Tasks.{Todo, NoBio, Empty, TaskState, Writer, Rescuer, Completer}
use Rattle.biostack_top.proofs.SameStacks.{same_bads, same_count, same_rescuer, same_reserve, same_tree}

module _ (known : Declarations) (s : Scenario) (other : Stack) (one_scripts other_scripts : List (PoolId × Answers)) (a : MeansStack known s.stack one_scripts)
    (b : MeansStack known other other_scripts) where
  abbrev over_other : Scenario
  over_other = record s { stack = other }

  trees : tree s.stack ≡ tree other
  trees = same_tree known s.stack other one_scripts other_scripts a b

  same_places : (writer : ℕ) → places_of s writer ≡ places_of over_other writer
  same_places writer =
      ap (λ (trees : ℕ → Tree). sum_by (λ (todo : Todo). 1 + needed (trees todo.write.dev.0) todo.write.start todo.write.count) (todos_of s writer)) trees

  same_setup : setup_in s ≡ setup_in over_other
  same_setup = λ k. record {
    count = same_count known s.stack other one_scripts other_scripts a b k;
    tree = trees k;
    rescuer = λ dev. same_rescuer known s.stack other one_scripts other_scripts a b dev k;
    places = λ writer. same_places writer k;
  }

  abbrev tasks_by : Setup → List TaskState
  tasks_by u =
      map (λ writer. Writer writer (todos_of s writer) NoBio rests) (writers s)
      ++ (map (λ dev. Rescuer (device_at dev) rests) (filter u.rescuer (range_with_len 0 u.count))
      ++ (map (λ dev. Completer (device_at dev) Empty) (filter (is_disk u) (range_with_len 0 u.count))
      ++ keepers (duties s)))

  same_tasks : opened_tasks s ≡ opened_tasks over_other
  same_tasks = ap tasks_by same_setup

  same_scene : (ledger : ℕ → LedgerId) → scene s ledger ≡ scene over_other ledger
  same_scene ledger = λ k. record {
    setup = same_setup k;
    tasks = length (same_tasks k);
    books = most_writers;
    writes = length s.writes;
    ledger = ledger;
  }

  same_objects : objects s ≡ objects over_other
  same_objects = λ k. record {
    pool = λ number. opened (same_reserve known s.stack other one_scripts other_scripts a b (pool_of number) k) (script_at s.scripts number);
    rescue = (objects s).rescue;
    disk = λ dev. disk.blank_disk (device_at dev) (size (trees k dev)) (same_bads known s.stack other one_scripts other_scripts a b dev k);
    book = λ writer. record { writer = writer; nodes = replicate (same_places writer k) None };
    tally = (objects s).tally;
  }

  same_start : start s ≡ start over_other
  same_start = λ k. record { objects = same_objects k; task = λ place. slice_index_or (same_tasks k) place no_task }

  pub runs_too : (ledger : ℕ → LedgerId) (events : List Event) (state : State) → IsRun (scene s ledger) (start s) events state
      → IsRun (scene over_other ledger) (start over_other) events state
  runs_too ledger events state run =
      subst (λ (sc : Scene). IsRun sc (start over_other) events state) (same_scene ledger)
      (subst (λ (st : State). IsRun (scene s ledger) st events state) same_start run)
