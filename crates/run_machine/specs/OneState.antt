-- That an event leads to one state, and so do runs.
use Rattle.std.specs.Prelude.{◌≡◌, ◌<◌, ℕ, List, [], ◌∷◌}
use Rattle.elem_ledger.specs.Ledger.{LedgerId}
use Rattle.run_machine.specs.declared.event.Event.{Event}
use Rattle.run_machine.specs.Scene.{Scene}
use Rattle.run_machine.specs.Requests.{Reply}
use Rattle.run_machine.specs.Events.{id_of}
use Rattle.run_machine.specs.Opened.{Scenario, scene, start}
use Rattle.run_machine.specs.Runs.{State, Happens, IsRun}

-- no two tasks have one name
abbrev pub TaskNamesDiffer : Scene → State → Type 0
TaskNamesDiffer scene state = (a b : ℕ) → a < scene.tasks → b < scene.tasks → id_of (state.task a) ≡ id_of (state.task b) → a ≡ b

-- what was replied in a run
abbrev pub replies : (scene : Scene) (old : State) (events : List Event) (new : State) → IsRun scene old events new → List Reply
replies scene old [] new run = []
replies scene old (event ∷ events) new (next, (place, steps), run) = steps.reply ∷ replies scene next events new run

-- An event tells what it leads to, from a state in which no two tasks have one name. That stays so: so two runs of the same events from there
-- end in one state.
pub record EventsLeadToOneState : Type 0 where
  pub one : (scene : Scene) (old new other : State) (event : Event) → TaskNamesDiffer scene old
      → Happens scene old event new → Happens scene old event other → new ≡ other
  pub apart : (scene : Scene) (old new : State) (event : Event) → TaskNamesDiffer scene old → Happens scene old event new → TaskNamesDiffer scene new
  pub runs : (scene : Scene) (old new other : State) (events : List Event) → TaskNamesDiffer scene old
      → IsRun scene old events new → IsRun scene old events other → new ≡ other
  -- and the same was replied in both
  pub same : (scene : Scene) (old new other : State) (events : List Event) → TaskNamesDiffer scene old
      → (run : IsRun scene old events new) (again : IsRun scene old events other)
      → replies scene old events new run ≡ replies scene old events other again
  pub stay : (scene : Scene) (old new : State) (events : List Event) → TaskNamesDiffer scene old → IsRun scene old events new → TaskNamesDiffer scene new

-- At the start of a scenario no two tasks have one name. So what events lead to from there is told by them: all runs of the same events end in
-- one state, in which the names are apart too.
pub record RunsLeadToOneState : Type 0 where
  pub apart : (s : Scenario) (ledger : ℕ → LedgerId) (events : List Event) (state : State)
      → IsRun (scene s ledger) (start s) events state → TaskNamesDiffer (scene s ledger) state
  pub one : (s : Scenario) (ledger : ℕ → LedgerId) (events : List Event) (state other : State)
      → IsRun (scene s ledger) (start s) events state → IsRun (scene s ledger) (start s) events other → state ≡ other
  pub same : (s : Scenario) (ledger : ℕ → LedgerId) (events : List Event) (state other : State)
      → (run : IsRun (scene s ledger) (start s) events state) (again : IsRun (scene s ledger) (start s) events other)
      → replies (scene s ledger) (start s) events state run ≡ replies (scene s ledger) (start s) events other again
