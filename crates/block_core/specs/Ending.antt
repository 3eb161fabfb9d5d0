-- Where a run ends, and that the rounds are there which its keeper starts.
use Rattle.std.specs.Prelude.{◌≡◌, ◌+◌, ◌<◌, ℕ, List, ◌∷◌, length}
use Rattle.elem_ledger.specs.Ledger.{LedgerId}
use Rattle.run_machine.specs.declared.event.Event.{Event}
use Rattle.run_machine.specs.Opened.{Scenario, scene, start}
use Rattle.run_machine.specs.Runs.{State, IsRun, unfinished, HasEnded}
use Rattle.run_machine.specs.Tasks.{Keeper, Keeps, Starts, Duty}
use Rattle.block_core.specs.Scenarios.{InEveryRun, IsScenario, IsNaming, EveryPoolKeepsSome, AreSorted}

-- once no write is unfinished, the run has ended: each element is at home
abbrev pub RunsEndWithTheirWrites : Type 0
RunsEndWithTheirWrites = InEveryRun (λ s ledger events state. unfinished state ≡ 0 → HasEnded state)

-- where the keeper is to start a round next, there is one behind the present one: where each pool keeps an element and the rounds do not fall
abbrev pub StartedRoundsAreThere : Type 0
StartedRoundsAreThere = (s : Scenario) (ledger : ℕ → LedgerId) (events : List Event) (state : State) → IsScenario s → EveryPoolKeepsSome s → AreSorted s.rounds
    → IsNaming ledger → IsRun (scene s ledger) (start s) events state → (place round later : ℕ) (duties : List Duty)
    → state.task place ≡ Keeper (Keeps (Starts round later ∷ duties)) → state.objects.tally.round + 1 < length state.objects.tally.left
