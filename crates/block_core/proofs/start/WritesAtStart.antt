-- At the start each write is at a device that can serve it, and nothing is submitted.
use Rattle.std.proofs.Common.{◌++◌, ℕ, List, [], ◌∷◌, length, map, filter, inl, inr, sym, subst}
use Rattle.std.proofs.lemmas.List.{get_or_past}
use Rattle.elem_ledger.specs.Ledger.{LedgerId}
use Rattle.run_machine.specs.Submissions.{rests}
use Rattle.run_machine.specs.Tasks.{TaskState, Writer, Rescuer, Completer, Keeper, Keeps, Duty, Todo, NoBio, Empty}
use Rattle.block_core.proofs.moves.Sums.{below_or}
use Rattle.block_core.proofs.sound.Orders.{TodoThere, TaskPlaced, Placed}
use Rattle.std.specs.Prelude.{All}
use Rattle.std.proofs.lemmas.List.Elements.{All-nil, All-cons, All-head, All-tail, All-map, All-append, All-filter, All-get_or}
use Rattle.std.specs.List.{range_with_len}
use Rattle.stack_base.proofs.ListLemmas.{Each}
use Rattle.layout_model.specs.Writes.{IsWrite}
use Rattle.run_machine.specs.Scene.{is_disk}
use Rattle.run_machine.specs.Opened.{Scenario, start, opened_tasks, todos, todos_of, is_by, writers, duties, keepers, no_task, setup_in, device_at}
use Rattle.block_core.specs.Scenarios.{IsScenario}
use Rattle.block_core.proofs.start.InvariantAtStart.{all_map, todos_all}

-- a fact of each element, as a product
pub each_of : {X : Type 0} (P : X → Type 0) (xs : List X) → All P xs → Each P xs
each_of P [] all = tt
each_of P (x ∷ xs) all = (All-head P x xs all, each_of P xs (All-tail P x xs all))

module _ (s : Scenario) (good : IsScenario s) (ledger : ℕ → LedgerId) where
  todo_there : (writer : ℕ) (todo : Todo) → IsWrite s.stack todo.write → TodoThere (setup_in s) writer todo
  todo_there writer todo is key = record { device = is.known; some = is.some; within = is.within }

  writes_there : (writer : ℕ) → Each (TodoThere (setup_in s) writer) (todos_of s writer)
  writes_there writer =
      each_of (TodoThere (setup_in s) writer) (todos_of s writer)
      (All-filter (is_by writer) (TodoThere (setup_in s) writer) (todos s)
      (all_map (λ (todo : Todo). IsWrite s.stack todo.write) (TodoThere (setup_in s) writer) (λ todo is. todo_there writer todo is) (todos s)
      (todos_all s (IsWrite s.stack) good.writes)))

  every : {X : Type 0} (P : X → Type 0) → ((x : X) → P x) → (xs : List X) → All P xs
  every P all [] = All-nil P
  every P all (x ∷ xs) = All-cons P x xs (all x) (every P all xs)

  keeper_placed : (duties : List Duty) → All (TaskPlaced (setup_in s)) (keepers duties)
  keeper_placed [] = All-nil (TaskPlaced (setup_in s))
  keeper_placed (duty ∷ duties) = All-cons (TaskPlaced (setup_in s)) (Keeper (Keeps (duty ∷ duties))) [] tt (All-nil (TaskPlaced (setup_in s)))

  tasks_placed : All (TaskPlaced (setup_in s)) (opened_tasks s)
  tasks_placed =
      let P : TaskState → Type 0 = TaskPlaced (setup_in s) in
      let count = (setup_in s).count in
      let write : ℕ → TaskState = λ writer. Writer writer (todos_of s writer) NoBio rests in
      let rescue : ℕ → TaskState = λ dev. Rescuer (device_at dev) rests in
      let complete : ℕ → TaskState = λ dev. Completer (device_at dev) Empty in
      let ws = map write (writers s) in
      let rs = map rescue (filter (setup_in s).rescuer (range_with_len 0 count)) in
      let cs = map complete (filter (is_disk (setup_in s)) (range_with_len 0 count)) in
      All-append P ws (rs ++ (cs ++ keepers (duties s)))
      (All-map P write (writers s) (every (λ writer. P (write writer)) (λ writer. (writes_there writer, tt, tt)) (writers s)))
      (All-append P rs (cs ++ keepers (duties s))
      (All-map P rescue (filter (setup_in s).rescuer (range_with_len 0 count)) (every (λ dev. P (rescue dev)) (λ dev. tt) (filter (setup_in s).rescuer (range_with_len 0 count))))
      (All-append P cs (keepers (duties s))
      (All-map P complete (filter (is_disk (setup_in s)) (range_with_len 0 count)) (every (λ dev. P (complete dev)) (λ dev. tt) (filter (is_disk (setup_in s)) (range_with_len 0 count))))
      (keeper_placed (duties s))))

  task_placed : (place : ℕ) → TaskPlaced (setup_in s) ((start s).task place)
  task_placed place = elim (below_or place (length (opened_tasks s))) [
    | inl lt ↦ All-get_or (TaskPlaced (setup_in s)) (opened_tasks s) place no_task lt tasks_placed
    | inr ge ↦ subst (TaskPlaced (setup_in s)) (sym (get_or_past (opened_tasks s) place no_task ge)) tt
  ]

  pub start_placed : Placed (setup_in s) (start s)
  start_placed = record { tasks = task_placed; rescued = λ dev. tt }
