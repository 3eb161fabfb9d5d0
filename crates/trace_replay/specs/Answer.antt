-- What is written of a replay.
use Rattle.std.specs.Prelude.{List, [], ◌∷◌, ◌++◌, ℕ, codes, decimal, Option, None, Some}
use Rattle.std.specs.List.{flat_map}
use Rattle.stack_base.specs.declared.stack.Stack.{Stack}
use Rattle.stack_base.specs.Names.{pool_name}
use Rattle.outside_io.specs.Saying.{joined_text}
use Rattle.trace_replay.specs.declared.extents.Extent.{Extent}
use Rattle.trace_replay.specs.declared.walk.Finish.{Finish}
use Rattle.trace_replay.specs.declared.walk.Finish.TheVariants.{Ended, Open, Stuck}
use Rattle.trace_replay.specs.declared.walk.Replayed.{Replayed}

-- `replay events N`
abbrev pub events_line : ℕ → List ℕ
events_line events = joined_text (codes "replay events " ∷ decimal events ∷ codes "\n" ∷ [])

-- `bad line L`, where there is one
abbrev pub bad_line : Option ℕ → List ℕ
bad_line None = []
bad_line (Some line) = joined_text (codes "bad line " ∷ decimal line ∷ codes "\n" ∷ [])

-- `end ended`, `end open` or `end stuck`
abbrev pub finish_line : Finish → List ℕ
finish_line Ended = codes "end ended\n"
finish_line Open = codes "end open\n"
finish_line Stuck = codes "end stuck\n"

-- `pool POOL lowest S most O`
abbrev pub extent_line : Stack → Extent → List ℕ
extent_line stack extent =
    joined_text (codes "pool " ∷ pool_name stack extent.pool ∷ codes " lowest " ∷ decimal extent.lowest ∷ codes " most " ∷ decimal extent.most ∷ codes "\n" ∷ [])

-- all of it, the pools in the order of a report
abbrev pub replay_text : Stack → Replayed → List ℕ
replay_text stack replayed = events_line replayed.events
    ++ (bad_line replayed.bad
    ++ (finish_line replayed.finish
    ++ flat_map (extent_line stack) replayed.extents.items))
