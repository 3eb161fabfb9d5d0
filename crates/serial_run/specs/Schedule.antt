-- The order of a run by one thread, from a stream of words: which task is tried first in each turn, and which bio a disk is done with.
use Rattle.std.specs.Prelude.{◌≡◌, ◌+◌, ◌%◌, ◌<◌, ◌≤◌, min, ℕ, List, [], ◌∷◌, length}
use Rattle.rand_pcg.specs.Lcg.{Lcg}
use Rattle.run_machine.specs.declared.event.Event.{Event}
use Rattle.run_machine.specs.declared.event.What.{What}
use Rattle.run_machine.specs.declared.event.What.TheVariants as what
use Rattle.task_core.specs.PlainSteps.{IsPassedOver}
use Rattle.run_machine.specs.Runs.{State, Steps, unfinished}
use Rattle.run_machine.specs.Scene.{Scene}
use Rattle.work_text.specs.Generated.{word, behind}

-- a completion is of the bio that one more word chooses among the first 64 that wait, and nothing else takes a word
abbrev pub PicksByWord : State → What → Lcg → Lcg → Type 0
PicksByWord state (what.Complete disk index status) stream after =
    (index ≡ word stream % min (length (state.objects.disk disk.0).pending) 64) × (after ≡ behind stream)
PicksByWord state what stream after = after ≡ stream

-- A turn is taken while a write is unfinished, and takes a word. It tries the task with that number first, counted round all tasks, and then the
-- following ones, up to the first that has an event.
pub record IsTurn (scene : Scene) (state : State) (stream : Lcg) (event : Event) (new : State) (after : Lcg) : Type 0 where
  pub some : 1 ≤ unfinished state
  pub passed : ℕ
  pub few : passed < scene.tasks
  pub others : (k : ℕ) → k < passed → IsPassedOver scene state ((word stream + k) % scene.tasks)
  pub steps : Steps scene state ((word stream + passed) % scene.tasks) event new
  pub picks : PicksByWord state event.what (behind stream) after

-- these events come turn by turn, from this state and stream to that one
abbrev pub FollowsSchedule : Scene → State → Lcg → List Event → State → Lcg → Type 0
FollowsSchedule scene old stream [] new after = (new ≡ old) × (after ≡ stream)
FollowsSchedule scene old stream (event ∷ events) new after =
    (next : State) × (between : Lcg) × IsTurn scene old stream event next between × FollowsSchedule scene next between events new after
