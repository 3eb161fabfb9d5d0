-- How far a replay has come.
use Rattle.std.specs.Prelude.{◌≡◌, ◌++◌, ℕ, Bool, true, false, List, [], ◌∷◌, length, map, Option}
use Rattle.stack_base.specs.declared.stack.Kind.{Kind}
use Rattle.stack_base.specs.declared.stack.Stack.{Stack}
use Rattle.run_machine.specs.declared.event.Event.{Event}
use Rattle.run_machine.specs.Scene.{Scene}
use Rattle.run_machine.specs.Runs.{State, Happens, IsEnabled, IsRun}
use Rattle.plain_core.specs.Cores.{CoreState, scene_of_core, state_of_core}
use Rattle.report_text.specs.Pools.{pools_at, told_pools}
use Rattle.trace_replay.specs.Replay.{AreLinesOf, StopsAt, TellsEvent, extent_over, later}
use Rattle.trace_replay.specs.Names.{Names, no_names}
use Rattle.trace_replay.specs.declared.extents.Extent.{Extent}

-- the event that a line tells was applied, or the line tells none that can come next
abbrev pub AppliesLine : Stack → List ℕ → Names → CoreState → Bool → Names → CoreState → Type 0
AppliesLine stack line names old true next new =
    (event : Event) × TellsEvent stack names line event next × Happens (scene_of_core old) (state_of_core old) event (state_of_core new) × (scene_of_core new ≡ scene_of_core old)
AppliesLine stack line names old false next new =
    (new ≡ old) × ((event : Event) (next : Names) → TellsEvent stack names line event next → IsEnabled (scene_of_core old) (state_of_core old) event → ⊥)

-- the extents of the pools of a stack over these states
abbrev pub extents_over : Stack → List State → List Extent
extents_over stack states = map (extent_over states) (told_pools stack)

-- those of the pools of a device, over one state
abbrev pub first_extents_at : CoreState → ℕ → Kind → List Extent
first_extents_at core number kind = map (extent_over (state_of_core core ∷ [])) (pools_at number kind)

-- these lines are still to come; those before them are the lines of a run to this state
pub record HasCome (stack : Stack) (scene : Scene) (start : State) (told rest : List (ℕ × List ℕ)) (names : Names) (core : CoreState) (count : ℕ) (extents : List Extent) : Type 0 where
  pub front : List (ℕ × List ℕ)
  pub cut : told ≡ front ++ rest
  pub events : List Event
  pub said : AreLinesOf stack no_names front events names
  pub run : IsRun scene start events (state_of_core core)
  pub scene_is : scene_of_core core ≡ scene
  pub count_is : count ≡ length events
  pub extents_are : extents ≡ extents_over stack (start ∷ later scene start events (state_of_core core) run)

-- the lines were followed from one state to another, with so many events, up to a bad line or all of them
pub record FollowsLines (stack : Stack) (told : List (ℕ × List ℕ)) (old new : CoreState) (extents : List Extent) (count : ℕ) (bad : Option ℕ) : Type 0 where
  pub rest : List (ℕ × List ℕ)
  pub names : Names
  pub come : HasCome stack (scene_of_core old) (state_of_core old) told rest names new count extents
  pub stops : StopsAt (scene_of_core old) stack names (state_of_core new) rest bad

-- the same of what answers the number of the events and that of the bad line
abbrev pub HasFollowed : Stack → List (ℕ × List ℕ) → CoreState → CoreState → List Extent → ℕ × Option ℕ → Type 0
HasFollowed stack told old new extents followed = FollowsLines stack told old new extents followed.0 followed.1
