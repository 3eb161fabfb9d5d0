-- Events as steps of the machine, and runs of them.
use Rattle.std.specs.Prelude.{◌≡◌, ◌<◌, ℕ, IsTrue, List, [], ◌∷◌, sum, Option, None, Some}
use Rattle.elem_ledger.specs.Ledger.{LedgerId}
use Rattle.run_machine.specs.declared.event.Event.{Event}
use Rattle.run_machine.specs.Maps.{upd}
use Rattle.run_machine.specs.Scene.{Scene}
use Rattle.run_machine.specs.Requests.{Request, Reply}
use Rattle.run_machine.specs.Tasks.{TaskState, request, look_of, lets, answered}
use Rattle.run_machine.specs.Objects.{Objects, Serves}
use Rattle.run_machine.specs.Events.{id_of, what_of, is_free}

pub record State : Type 0 where
  pub objects : Objects
  -- the tasks, in the order in which they are numbered
  pub task : ℕ → TaskState

-- what a task looks at lets it ask
abbrev pub IsLet : (ℕ → LedgerId) → Objects → TaskState → Option Request → Type 0
IsLet ledger objects task None = Unit {0}
IsLet ledger objects task (Some look) = (seen : Reply) × Serves ledger objects look seen objects × IsTrue (lets task seen)

-- The event is a step of the task at this place: what it looks at lets it ask, one object answers what it asks for, both go on, and all else
-- stays.
pub record Steps (scene : Scene) (old : State) (place : ℕ) (event : Event) (new : State) : Type 0 where
  pub here : place < scene.tasks
  pub by : event.task ≡ id_of (old.task place)
  pub is_let : IsLet scene.ledger old.objects (old.task place) (look_of (old.task place))
  pub reply : Reply
  pub told : what_of (request scene.setup (old.task place)) reply ≡ Some event.what
  pub serves : Serves scene.ledger old.objects (request scene.setup (old.task place)) reply new.objects
  pub goes_on : new.task ≡ upd old.task place (answered scene.setup (old.task place) reply)

-- the event is a step of some task
abbrev pub Happens : Scene → State → Event → State → Type 0
Happens scene old event new = (place : ℕ) × Steps scene old place event new

-- these events, one after the other, lead from one state to another
abbrev pub IsRun : Scene → State → List Event → State → Type 0
IsRun scene old [] new = new ≡ old
IsRun scene old (event ∷ events) new = (next : State) × Happens scene old event next × IsRun scene next events new

-- the event can come next
abbrev pub IsEnabled : Scene → State → Event → Type 0
IsEnabled scene old event = (new : State) × Happens scene old event new

-- a step can come next that needs no ordinary memory
abbrev pub HasFree : Scene → State → Type 0
HasFree scene old = (event : Event) × IsEnabled scene old event × IsTrue (is_free event.what)

-- how many writes are not done
abbrev pub unfinished : State → ℕ
unfinished state = sum state.objects.tally.left

-- every write is done, and every element is at home
pub record HasEnded (state : State) : Type 0 where
  pub writes : unfinished state ≡ 0
  pub pools : (number : ℕ) → (state.objects.pool number).facts.out ≡ 0
