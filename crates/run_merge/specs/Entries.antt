-- What is kept of each event of a run: which task asked, what it asked for, and what the object replied.
use Rattle.std.specs.Prelude.{ℕ, IsTrue, List, [], ◌∷◌, All}
use Rattle.run_machine.specs.declared.event.Event.{Event}
use Rattle.run_machine.specs.Requests.{Request, Reply}
use Rattle.run_machine.specs.Runs.{State, IsRun}
use Rattle.run_machine.specs.Scene.{Scene}
use Rattle.run_machine.specs.Tasks.{request}
use Rattle.shared_objects.specs.Calls.{struck}
use Rattle.shared_objects.specs.Logs.{is_event}

-- The task is told by its place among the tasks of the scenario, and the object is the one that the request is for.
pub record Entry : Type 0 where
  pub place : ℕ
  pub asked : Request
  pub reply : Reply

-- the entries of the events of a run, in their order
abbrev pub entries_in : (scene : Scene) (old : State) (events : List Event) (new : State) → IsRun scene old events new → List Entry
entries_in scene old [] new run = []
entries_in scene old (event ∷ events) new (next, (place, steps), run) =
    record { place = place; asked = struck (request scene.setup (old.task place)); reply = steps.reply } ∷ entries_in scene next events new run

-- each is an event: no look is one, and no refusal
abbrev pub AreEvents : List Entry → Type 0
AreEvents entries = All (λ (e : Entry). IsTrue (is_event e.asked e.reply)) entries
