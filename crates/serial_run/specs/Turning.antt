-- A turn over the objects and tasks of one thread.
use Rattle.std.specs.Prelude.{◌≡◌, ◌+◌, ◌<◌, ℕ, Bool, true, false, List, ◌∷◌, length}
use Rattle.rand_pcg.specs.Lcg.{Lcg}
use Rattle.stack_base.specs.declared.stack.Stack.{Stack}
use Rattle.run_machine.specs.declared.event.Event.{Event}
use Rattle.task_steps.specs.declared.step.Step.{Step}
use Rattle.task_steps.specs.declared.step.Step.TheVariants.{Stepped}
use Rattle.run_machine.specs.Named.{FitsEvent, IsEventOf}
use Rattle.task_steps.specs.TaskViews.{TaskOf}
use Rattle.task_core.specs.declared.plain.Plain.{Plain}
use Rattle.task_core.specs.Plains.{stage_of}
use Rattle.task_core.specs.PlainSteps.{IsPassedOver, scene_of_objects}
use Rattle.task_core.specs.opened.OfOne.{run_state}
use Rattle.run_machine.specs.Runs.{State, Steps}
use Rattle.run_machine.specs.Scene.{Scene}
use Rattle.run_machine.specs.Tasks.{Keeper, Keeps, Starts, Duty}
use Rattle.block_core.specs.Breaks.{GoesUnrefused}
use Rattle.serial_run.specs.Schedule.{PicksByWord, IsTurn}

-- no object refuses what a task asks it for next, and the round is there that the keeper is to start next
pub record GoesWell (scene : Scene) (state : State) : Type 0 where
  pub unrefused : GoesUnrefused scene state
  pub ahead : (place round later : ℕ) (duties : List Duty) → state.task place ≡ Keeper (Keeps (Starts round later ∷ duties))
      → state.objects.tally.round + 1 < length state.objects.tally.left

-- an event was handed on, whose numbers fit its fields, or there was none
abbrev pub HandsEvent : {V : Type 0} → (V → Event → V → Type 0) → Step → V → Bool → V → Type 0
HandsEvent happens (Stepped event) before answer now = (answer ≡ true) × happens before event now × FitsEvent event
HandsEvent happens step before answer now = (answer ≡ false) × (now ≡ before)

-- a task was tried: it had an event that names what the stack has, by numbers that fit, which was handed on, or none but such as need ordinary
-- memory, and nothing has changed
abbrev pub Tried : {V : Type 0} → (V → Event → V → Type 0) → Stack → Scene → ℕ → State → Lcg → V → Bool → State → Lcg → V → Type 0
Tried happens stack scene place old stream before true new after now =
    (event : Event) × Steps scene old place event new × PicksByWord old event.what stream after × happens before event now × IsEventOf stack event
    × FitsEvent event
Tried happens stack scene place old stream before false new after now =
    (new ≡ old) × (after ≡ stream) × (now ≡ before) × IsPassedOver scene old place

-- one task had an event in a turn, which was handed on
abbrev pub TurnHandsOn : {V : Type 0} → (V → Event → V → Type 0) → Stack → Scene → State → Lcg → V → State → Lcg → V → Type 0
TurnHandsOn happens stack scene old stream before new after now =
    (event : Event) × IsTurn scene old stream event new after × happens before event now × IsEventOf stack event × FitsEvent event

-- the same of tasks over the objects of one thread
abbrev pub TriedOver : {V : Type 0} → (V → Event → V → Type 0) → Plain → List TaskOf → ℕ → Lcg → V → Bool → Plain → List TaskOf → Lcg → V → Type 0
TriedOver happens old tasks place stream before answer new more after now =
    Tried happens (stage_of old).routing.stack (scene_of_objects old (length tasks)) place (run_state old tasks) stream before answer (run_state new more) after now

abbrev pub TurnHandsOnOver : {V : Type 0} → (V → Event → V → Type 0) → Plain → List TaskOf → Lcg → V → Plain → List TaskOf → Lcg → V → Type 0
TurnHandsOnOver happens old tasks stream before new more after now =
    TurnHandsOn happens (stage_of old).routing.stack (scene_of_objects old (length tasks)) (run_state old tasks) stream before (run_state new more) after now
