-- That whatever is answered to a task is an event that comes next, or changes nothing.
use Rattle.std.specs.Prelude.{◌≡◌, ◌⊎◌, ◌<◌, ℕ, List}
use Rattle.elem_ledger.specs.Ledger.{LedgerId}
use Rattle.run_machine.specs.declared.event.Event.{Event}
use Rattle.run_machine.specs.Maps.{upd}
use Rattle.run_machine.specs.Scene.{Scene}
use Rattle.run_machine.specs.Requests.{Reply}
use Rattle.run_machine.specs.Tasks.{request, look_of, answered}
use Rattle.run_machine.specs.Objects.{Objects, Serves}
use Rattle.run_machine.specs.Opened.{Scenario, scene, start}
use Rattle.run_machine.specs.Runs.{State, IsLet, Steps, IsRun}
use Rattle.block_core.specs.Scenarios.{IsScenario, IsNaming}
use Rattle.block_core.specs.Breaks.{ElementsAreAllowed}

-- the task goes on with the reply by an event, or neither it nor an object changes
abbrev pub IsEventOrNothing : Scene → State → ℕ → Reply → Objects → Type 0
IsEventOrNothing scene state place reply new =
    ((event : Event)
    × Steps scene state place event (record { objects = new; task = upd state.task place (answered scene.setup (state.task place) reply) }))
    ⊎ ((new ≡ state.objects) × (answered scene.setup (state.task place) reply ≡ state.task place))

-- after every event of every run of every scenario that is allowed: once its look lets a task ask, whatever its object answers
abbrev pub RepliesAreEvents : Type 0
RepliesAreEvents = (s : Scenario) (ledger : ℕ → LedgerId) (events : List Event) (state : State) → IsScenario s → ElementsAreAllowed s → IsNaming ledger
    → IsRun (scene s ledger) (start s) events state → (place : ℕ) → place < (scene s ledger).tasks
    → IsLet ledger state.objects (state.task place) (look_of (state.task place)) → (reply : Reply) (new : Objects)
    → Serves ledger state.objects (request (scene s ledger).setup (state.task place)) reply new
    → IsEventOrNothing (scene s ledger) state place reply new
