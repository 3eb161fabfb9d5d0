-- A given run, told by the lines of its events: how far it goes, and what it leaves.
use Rattle.std.specs.Prelude.{◌≡◌, ◌≤◌, ◌++◌, min, max, ℕ, List, [], ◌∷◌, length, map, fold, Option, None, Some}
use Rattle.stack_base.specs.declared.ids.PoolId.{PoolId}
use Rattle.stack_base.specs.declared.stack.Stack.{Stack}
use Rattle.stack_base.specs.Mapping.{smallest}
use Rattle.stack_base.specs.PoolId.{pool_number}
use Rattle.run_machine.specs.declared.event.Event.{Event}
use Rattle.run_machine.specs.Scene.{Scene}
use Rattle.run_machine.specs.Runs.{State, IsRun, IsEnabled, HasFree, HasEnded, unfinished}
use Rattle.trace_text.specs.Laws.{IsEventLine}
use Rattle.report_text.specs.Pools.{told_pools}
use Rattle.trace_replay.specs.Names.{Names, names_after, event_placed, no_names}
use Rattle.trace_replay.specs.declared.extents.Extent.{Extent}
use Rattle.trace_replay.specs.declared.walk.Finish.{Finish}
use Rattle.trace_replay.specs.declared.walk.Finish.TheVariants.{Ended, Open, Stuck}
use Rattle.trace_replay.specs.declared.walk.Replayed.{Replayed}

-- A line tells an event of the machine: it is the line of one that has names where this one has places.
pub record TellsEvent (stack : Stack) (names : Names) (line : List ℕ) (event : Event) (next : Names) : Type 0 where
  pub told : Event
  pub said : IsEventLine stack line told
  pub placed : event_placed names told ≡ Some event
  pub next_is : next ≡ names_after names told.what

-- each of these lines tells the event at its place, with these names before them and those behind them
abbrev pub AreLinesOf : Stack → Names → List (ℕ × List ℕ) → List Event → Names → Type 0
AreLinesOf stack names [] [] last = last ≡ names
AreLinesOf stack names (line ∷ lines) (event ∷ events) last =
    (next : Names) × TellsEvent stack names line.1 event next × AreLinesOf stack next lines events last
AreLinesOf stack names lines events last = ⊥

-- No line is left; or the first that is left is the bad one: it tells no event, or one that can't come next.
abbrev pub StopsAt : Scene → Stack → Names → State → List (ℕ × List ℕ) → Option ℕ → Type 0
StopsAt scene stack names state [] None = Unit {0}
StopsAt scene stack names state (line ∷ lines) (Some bad) =
    (bad ≡ line.0) × ((event : Event) (next : Names) → TellsEvent stack names line.1 event next → IsEnabled scene state event → ⊥)
StopsAt scene stack names state lines bad = ⊥

-- the state has ended; a write is unfinished, and nothing can come that needs no ordinary memory; or it is neither so nor so
abbrev pub IsFinish : Scene → State → Finish → Type 0
IsFinish scene state Ended = HasEnded state
IsFinish scene state Stuck = (1 ≤ unfinished state) × (HasFree scene state → ⊥)
IsFinish scene state Open = (HasEnded state → ⊥) × (1 ≤ unfinished state → HasFree scene state)

-- the states of a run behind the one in which it begins, up to the one to which it leads
abbrev pub later : (scene : Scene) (old : State) (events : List Event) (new : State) → IsRun scene old events new → List State
later scene old [] new run = []
later scene old (event ∷ events) new (next, happens, run) = next ∷ later scene next events new run

-- what a pool has in a state
abbrev pub spares_in : PoolId → State → ℕ
spares_in pool state = (state.objects.pool (pool_number pool)).facts.spares

abbrev pub out_in : PoolId → State → ℕ
out_in pool state = (state.objects.pool (pool_number pool)).facts.out

-- the fewest spares of a pool in these states, and the most of its elements that were out
abbrev pub extent_over : List State → PoolId → Extent
extent_over states pool = record {
  pool = pool;
  lowest = smallest (map (spares_in pool) states);
  most = fold max 0 (map (out_in pool) states);
}

-- The lines, one after the other, up to the bad one if there is one, are those of a run from this state. It goes so
-- far and leaves a state of which this is told.
pub record IsReplay (scene : Scene) (stack : Stack) (start : State) (told : List (ℕ × List ℕ)) (replayed : Replayed) : Type 0 where
  pub front : List (ℕ × List ℕ)
  pub rest : List (ℕ × List ℕ)
  pub cut : told ≡ front ++ rest
  pub events : List Event
  pub names : Names
  pub said : AreLinesOf stack no_names front events names
  pub state : State
  pub run : IsRun scene start events state
  pub stops : StopsAt scene stack names state rest replayed.bad
  pub count : replayed.events ≡ length events
  pub finish : IsFinish scene state replayed.finish
  -- how far each pool of the stack went, in the order of a report, over all states from the first to that one
  pub extents : replayed.extents.items ≡ map (extent_over (start ∷ later scene start events state run)) (told_pools stack)

-- a pool that went so far, with what it has in a state
abbrev pub wider : State → Extent → Extent
wider state extent = record {
  pool = extent.pool;
  lowest = min extent.lowest (spares_in extent.pool state);
  most = max extent.most (out_in extent.pool state);
}
