-- The numbers of rounds.
use Rattle.std.specs.Prelude.{◌≡◌, ◌++◌, ℕ, List, [], ◌∷◌, length}
use Rattle.std.specs.List.{range_with_len}
use Rattle.elem_ledger.specs.Ledger.{LedgerId}
use Rattle.run_machine.specs.declared.event.Event.{Event}
use Rattle.run_machine.specs.declared.event.What.{What}
use Rattle.run_machine.specs.declared.event.What.TheVariants as what
use Rattle.run_machine.specs.Opened.{Scenario, scene, start}
use Rattle.run_machine.specs.Runs.{State, IsRun}
use Rattle.block_core.specs.Scenarios.{IsScenario, IsNaming}

-- the numbers of the rounds that events start, in the order of the events
abbrev pub round_told : What → List ℕ
round_told (what.Round number) = number ∷ []
round_told what = []

abbrev pub rounds_told : List Event → List ℕ
rounds_told [] = []
rounds_told (event ∷ events) = round_told event.what ++ rounds_told events

-- The first event of a run that starts a round starts round 1, and each later one the next round.
abbrev pub RoundsAreNumbered : Type 0
RoundsAreNumbered = (s : Scenario) (ledger : ℕ → LedgerId) (events : List Event) (last : State) → IsScenario s → IsNaming ledger
    → IsRun (scene s ledger) (start s) events last → rounds_told events ≡ range_with_len 1 (length (rounds_told events))
