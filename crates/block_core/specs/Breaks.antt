-- That no task meets a refusal.
use Rattle.std.specs.Prelude.{◌≡◌, ◌<◌, ◌≤◌, ℕ, Bool, true, false, List, ◌∷◌}
use Rattle.elem_ledger.specs.Ledger.{LedgerId}
use Rattle.stack_base.specs.declared.ids.PoolId.{PoolId}
use Rattle.layout_model.specs.Bound.{all_elements, most_elements}
use Rattle.bio_books.specs.Links.{Linked, Made, NoRoom, Stray}
use Rattle.bio_books.specs.Drops.{DropOutcome}
use Rattle.bio_books.specs.Drops as end
use Rattle.run_machine.specs.declared.event.Event.{Event}
use Rattle.run_machine.specs.Scene.{Scene}
use Rattle.run_machine.specs.Requests.{Reply, LinkedTo, DroppedTo, NoTicket}
use Rattle.run_machine.specs.Tasks.{Keeper, Keeps, Duty, Resizes, request, look_of, is_broken}
use Rattle.run_machine.specs.Objects.{Objects, Serves}
use Rattle.run_machine.specs.Opened.{Scenario, scene, start}
use Rattle.run_machine.specs.Runs.{State, IsLet, IsRun}
use Rattle.block_core.specs.Scenarios.{IsScenario, IsNaming}

-- a text is accepted only where its writes need no more elements than a scenario may
abbrev pub ElementsAreAllowed : Scenario → Type 0
ElementsAreAllowed s = all_elements s.stack s.writes ≤ most_elements

-- whether a book refuses a request: it has no vacant place, or the node that the request names is not open
abbrev pub is_no_link : Linked → Bool
is_no_link (Made place) = false
is_no_link (NoRoom back) = true
is_no_link (Stray back) = true

abbrev pub is_no_end : DropOutcome → Bool
is_no_end end.Left = false
is_no_end (end.Up closed) = false
is_no_end (end.Top closed) = false
is_no_end (end.Stray part) = true

-- whether a reply is a refusal of a book, or says that there was no ticket for the call
abbrev pub is_refusal : Reply → Bool
is_refusal (LinkedTo answer) = is_no_link answer
is_refusal (DroppedTo ended) = is_no_end ended
is_refusal NoTicket = true
is_refusal reply = false

pub record GoesUnrefused (scene : Scene) (state : State) : Type 0 where
  -- whatever the object of a task's next request answers is no refusal
  pub answers : (place : ℕ) → place < scene.tasks → (reply : Reply) (new : Objects)
      → Serves scene.ledger state.objects (request scene.setup (state.task place)) reply new → is_refusal reply ≡ false
  -- where the keeper may change a reserve, every element of every pool is at home
  pub resizes : (place : ℕ) (pool : PoolId) (min later : ℕ) (duties : List Duty) → state.task place ≡ Keeper (Keeps (Resizes pool min later ∷ duties))
      → IsLet scene.ledger state.objects (state.task place) (look_of (state.task place)) → (number : ℕ) → (state.objects.pool number).facts.out ≡ 0
  -- and no task broke off
  pub tasks : (place : ℕ) → is_broken (state.task place) ≡ false

-- after every event of every run of every scenario that is allowed
abbrev pub NoTaskBreaks : Type 0
NoTaskBreaks = (s : Scenario) (ledger : ℕ → LedgerId) (events : List Event) (state : State) → IsScenario s → ElementsAreAllowed s → IsNaming ledger
    → IsRun (scene s ledger) (start s) events state → GoesUnrefused (scene s ledger) state
