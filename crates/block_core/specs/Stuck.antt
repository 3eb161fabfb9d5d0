-- That no state of a run is stuck, however long the run is.
use Rattle.std.specs.Prelude.{◌+◌, ◌^◌, ◌<◌, ◌≤◌, ◌⊎◌, ℕ, List, length}
use Rattle.elem_ledger.specs.Ledger.{LedgerId}
use Rattle.run_machine.specs.declared.event.Event.{Event}
use Rattle.run_machine.specs.Opened.{Scenario, scene, start}
use Rattle.run_machine.specs.Runs.{State, IsRun, unfinished, HasFree, HasEnded}
use Rattle.stack_base.specs.Stack.{HasRescuers}
use Rattle.block_core.specs.Scenarios.{IsScenario, IsNaming, EveryPoolKeepsSome, AreSorted}
use Rattle.block_core.specs.Breaks.{ElementsAreAllowed}

-- While a write is unfinished, an event can come next that needs no ordinary memory, so memory may fail from any moment on: where each mirror of
-- two members or more has a rescuer, each pool keeps an element and the rounds do not fall, as long as fewer events came than a counter of 64 bits
-- holds.
abbrev pub NoStateIsStuck : Type 0
NoStateIsStuck = (s : Scenario) (ledger : ℕ → LedgerId) (events : List Event) (state : State) → IsScenario s → HasRescuers s.stack → EveryPoolKeepsSome s → AreSorted s.rounds
    → IsNaming ledger → IsRun (scene s ledger) (start s) events state → length events + 9 < 2 ^ 64 → 1 ≤ unfinished state → HasFree (scene s ledger) state

-- While a write of a scenario that is allowed is unfinished, an event can come next that needs no ordinary memory: where each mirror of two
-- members or more has a rescuer, each pool keeps an element and the rounds do not fall.
abbrev pub NoAllowedStateIsStuck : Type 0
NoAllowedStateIsStuck = (s : Scenario) (ledger : ℕ → LedgerId) (events : List Event) (state : State) → IsScenario s → ElementsAreAllowed s → HasRescuers s.stack
    → EveryPoolKeepsSome s → AreSorted s.rounds → IsNaming ledger → IsRun (scene s ledger) (start s) events state → 1 ≤ unfinished state
    → HasFree (scene s ledger) state

-- So a run of it that no such event can follow has ended: each write is done, and each element is at home.
abbrev pub EachRunGoesOnOrHasEnded : Type 0
EachRunGoesOnOrHasEnded = (s : Scenario) (ledger : ℕ → LedgerId) (events : List Event) (state : State) → IsScenario s → ElementsAreAllowed s → HasRescuers s.stack
    → EveryPoolKeepsSome s → AreSorted s.rounds → IsNaming ledger → IsRun (scene s ledger) (start s) events state
    → HasFree (scene s ledger) state ⊎ HasEnded state
