-- How many elements are out at most, and how many ends nodes wait for: no counter of 64 bits is ever full.
use Rattle.std.specs.Prelude.{◌≡◌, ◌+◌, ◌-◌, ◌^◌, ◌<◌, ◌≤◌, ℕ, List, length, Some}
use Rattle.elem_ledger.specs.Ledger.{LedgerId}
use Rattle.layout_model.specs.Bound.{all_elements}
use Rattle.bio_books.specs.Books.{Node, node_at}
use Rattle.run_machine.specs.declared.event.Event.{Event}
use Rattle.run_machine.specs.Opened.{Scenario, scene, start, opened_tasks, places_of}
use Rattle.run_machine.specs.Runs.{State, IsRun}
use Rattle.block_core.specs.Scenarios.{InEveryRun, IsScenario, IsNaming}
use Rattle.block_core.specs.Breaks.{ElementsAreAllowed}

-- no pool of any run has more elements out than all writes need
abbrev pub OutsAreWithinWhatWritesNeed : Type 0
OutsAreWithinWhatWritesNeed = InEveryRun (λ s ledger events state. (number : ℕ) → (state.objects.pool number).facts.out ≤ all_elements s.stack s.writes)

-- no node waits for more ends than its own part's, one for each place of its book, and one for each task
abbrev pub EndsAreWithinPlacesAndTasks : Type 0
EndsAreWithinPlacesAndTasks = InEveryRun (λ s ledger events state. (writer place : ℕ) (node : Node) → node_at (state.objects.book writer) place ≡ Some node
    → node.count ≤ 1 + places_of s writer + length (opened_tasks s))

pub record CountersAreSmall (state : State) : Type 0 where
  pub outs : (number : ℕ) → (state.objects.pool number).facts.out < 2 ^ 64 - 1
  pub ends : (writer place : ℕ) (node : Node) → node_at (state.objects.book writer) place ≡ Some node → node.count < 2 ^ 64 - 1

-- so in a scenario that is allowed none comes to the largest number of 64 bits
abbrev pub NoCounterIsFull : Type 0
NoCounterIsFull = (s : Scenario) (ledger : ℕ → LedgerId) (events : List Event) (state : State) → IsScenario s → ElementsAreAllowed s → IsNaming ledger
    → IsRun (scene s ledger) (start s) events state → CountersAreSmall state
