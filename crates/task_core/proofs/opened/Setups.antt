-- What opened tasks know of devices is the setup of their scenario, and they are its tasks.
use Rattle.std.proofs.Common.{◌≡◌, inl, inr, ◌<◌, ◌≤◌, ◌==◌, ◌++◌, ℕ, false, List, [], ◌∷◌, get_or, refl, sym, ap, ◌∙◌, arith}
use Rattle.std.specs.Prelude.{sum_by}
use Rattle.std.specs.List.{range_with_len}
use Rattle.std.proofs.lemmas.Bool.Decides.{nat_tests}
use Rattle.std.proofs.lemmas.List.{get_or_past}
use Rattle.std.proofs.lemmas.Bool.{cases_lt}
use Rattle.fail_script.specs.Script.{Answers}
use Rattle.stack_base.specs.declared.ids.PoolId.{PoolId}
use Rattle.stack_base.specs.declared.stack.Stack.{Stack}
use Rattle.layout_model.specs.declared.write.Write.{Write}
use Rattle.layout_model.specs.NeedCounts.{nodes}
use Rattle.work_text.specs.declared.Work.{Work}
use Rattle.run_machine.specs.Opened.{Scenario, is_by, places_of, opened_tasks, todos, writers_of}
use Rattle.run_machine.specs.Opened as opened
use Rattle.run_machine.specs.Scenario.{scenario_by}
use Rattle.run_machine.specs.Scene.{setup_of}
use Rattle.run_machine.specs.Tasks.{TaskState, Todo}
use Rattle.run_machine.proofs.Passing.{none_passing}
use Rattle.task_steps.specs.Routed.{Routing, places_at, routing_setup}
use Rattle.task_steps.specs.TaskViews.{TaskOf}
use Rattle.task_core.specs.opened.NewTasks.{AreServableWrites, others_in, with_routing}
use Rattle.task_core.specs.opened.OfOne.{states}
use Rattle.task_core.specs.opened.OpenTasks.{AreTasksOf}
use Rattle.task_core.proofs.opened.WritesSharedOut.{numbered_all}

is_other : (a b : ℕ) → a < b → (a == b) ≡ false
is_other a b lt = grind (lt, arith, nat_tests)

shown_states : (routing : Routing) (tasks : List TaskState) → states (with_routing routing tasks) ≡ tasks
shown_states routing [] = refl
shown_states routing (task ∷ tasks) = ap (λ more. task ∷ more) (shown_states routing tasks)

module _ (stack : Stack) (scripts : List (PoolId × Answers)) (work : Work) (sharing : AreServableWrites stack work.rounds.items work.writes.items) where
  abbrev s : Scenario
  s = scenario_by stack scripts work

  -- writers have small numbers
  pub no_writer : (writer : ℕ) → 8 ≤ writer → places_of s writer ≡ 0
  no_writer writer le =
      ap (sum_by (λ (todo : Todo). nodes s.stack todo.write))
      (none_passing (is_by writer) (todos s) (λ k d lt.
      let below = numbered_all (λ (write : Write). write.task < 8) 0 s.rounds s.writes sharing.paired sharing.writers k d lt in
      is_other (get_or (todos s) k d).write.task writer (omega (arith, below, le))))

  module _ (routing : Routing) (all : List TaskOf) (counts : List ℕ) (are : AreTasksOf stack work routing all counts) where
    pub places_are : (writer : ℕ) → places_at routing.places writer ≡ places_of s writer
    places_are writer = elim (cases_lt writer 8) [
      | inl lt ↦ are.placed.each writer lt
      | inr le ↦
          let eight = are.placed.eight in
          get_or_past routing.places writer 0 (omega (arith, le, eight)) ∙ sym (no_writer writer le)
    ]

    pub all_places : ◌≡◌ {A = ℕ → ℕ} (places_at routing.places) (places_of s)
    all_places = λ i writer. places_are writer i

    pub setup_is : routing_setup routing ≡ opened.setup_in s
    setup_is = ap (λ (st : Stack). setup_of st (places_at routing.places)) are.stack ∙ ap (setup_of s.stack) all_places

    pub states_are : states all ≡ opened_tasks s
    states_are =
        ap states are.tasks
        ∙ shown_states routing (writers_of s.rounds s.writes (range_with_len 0 8) ++ others_in (routing_setup routing) work)
        ∙ ap (λ su. writers_of s.rounds s.writes (range_with_len 0 8) ++ others_in su work) setup_is
