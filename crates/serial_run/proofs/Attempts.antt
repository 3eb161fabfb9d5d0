-- One task is tried: what its step over plain objects is in the machine.
use Rattle.std.proofs.Common.{◌≡◌, ◌⊎◌, ◌%◌, ◌^◌, ◌-◌, ◌<◌, ◌≤◌, min, ℕ, Bool, true, false, true≢false, None, List, All, length, set, get_or, inl, inr, sym, ap, ◌∙◌, subst, arith}
use Rattle.std.proofs.lemmas.List.{get_or-map, get_or-set_same, get_or-set_other, map-set, length-map}
use Rattle.std.proofs.lemmas.List.Elements.{All-get_or, All-set}
use Rattle.rand_pcg.specs.Lcg.{Lcg}
use Rattle.stack_base.specs.declared.ids.DevId.{DevId}
use Rattle.stack_base.specs.declared.stack.Stack.{Stack}
use Rattle.run_machine.specs.declared.event.Event.{Event}
use Rattle.run_machine.specs.declared.event.What.{What}
use Rattle.run_machine.specs.declared.event.What.TheVariants as what
use Rattle.task_core.specs.declared.plain.Plain.{Plain}
use Rattle.task_steps.specs.declared.step.Step.{Step}
use Rattle.task_steps.specs.declared.step.Step.TheVariants.{Stepped, Blocked, Waiting, Ended, Broken}
use Rattle.run_machine.specs.Maps.{upd}
use Rattle.run_machine.specs.Named.{FitsEvent}
use Rattle.task_steps.specs.Choosing.{IsAsked}
use Rattle.task_steps.specs.Homes.{IsTaskOf}
use Rattle.task_core.specs.opened.OfOne.{states, tasks_at, run_state, AreOfOne}
use Rattle.run_machine.specs.Opened.{no_task}
use Rattle.task_core.specs.Plains.{objects_of, stage_of, Holds, PlainServes, PlainPicks}
use Rattle.task_core.specs.PlainSteps.{scene_of_objects, state_of_objects, HasRound, TakesStep, IsStill}
use Rattle.task_steps.specs.Routed.{routing_setup}
use Rattle.run_machine.specs.Runs.{State, Steps}
use Rattle.run_machine.specs.Scene.{Scene}
use Rattle.task_steps.specs.Stage.{Stage, Owes}
use Rattle.run_machine.specs.Tasks.{TaskState, Writer, Rescuer, Completer, Keeper, request}
use Rattle.task_steps.specs.TaskViews.{TaskOf, ChosenBy}
use Rattle.task_steps.specs.Turns.{Turns, Chosen}
use Rattle.run_machine.proofs.Frames.{upd_same, upd_other, upd_own}
use Rattle.task_steps.proofs.Named.{tasks_name_the_stack}
use Rattle.task_core.proofs.opened.StepsAreEvents.{steps_are_events}
use Rattle.task_steps.proofs.Turned.{turns_home}
use Rattle.block_core.proofs.moves.Sums.{same_or_not}
use Rattle.work_text.specs.Generated.{word, behind}
use Rattle.serial_run.specs.Schedule.{PicksByWord}
use Rattle.serial_run.specs.Turning.{GoesWell, HandsEvent, Tried}
use Rattle.serial_run.proofs.Breaks.{unbroken}
use Rattle.serial_run.proofs.OnlyCompleters.{IsNoCompleter, is_complete, has_round, none_completed}

-- one task has gone on
module _ (tasks : List TaskOf) (place : ℕ) (lt : place < length tasks) (next : TaskOf) where
  there : place < length (states tasks)
  there = omega (arith, lt, length-map tasks (λ (task : TaskOf). task.state))

  task_goes_on : (q : ℕ) → tasks_at (set tasks place next) q ≡ upd (tasks_at tasks) place next.state q
  task_goes_on q =
      ap (λ list. get_or list q no_task) (map-set (λ (task : TaskOf). task.state) tasks place next)
      ∙ elim (same_or_not q place) [
        | inl e ↦
            ap (λ q. get_or (set (states tasks) place next.state) q no_task) e ∙ get_or-set_same (states tasks) place next.state no_task there
            ∙ sym (ap (upd (tasks_at tasks) place next.state) e ∙ upd_same (tasks_at tasks) place next.state)
        | inr ne ↦ get_or-set_other (states tasks) place q next.state no_task ne ∙ sym (upd_other (tasks_at tasks) place next.state q ne)
      ]

  pub state_goes_on : (new : Plain) → run_state new (set tasks place next) ≡ state_of_objects new (upd (tasks_at tasks) place next.state)
  state_goes_on new =
      let made : (ℕ → TaskState) → State = λ task. record { objects = objects_of new; task = task } in
      ap made (λ i q. task_goes_on q i)

-- the task at a place
pub at_place : (tasks : List TaskOf) (place : ℕ) → place < length tasks → (other : TaskOf) → tasks_at tasks place ≡ (get_or tasks place other).state
at_place tasks place lt other = get_or-map (λ (task : TaskOf). task.state) tasks place other no_task lt

pub routing_at : (plain : Plain) (tasks : List TaskOf) (place : ℕ) → place < length tasks → (other : TaskOf) → AreOfOne plain tasks
    → (get_or tasks place other).routing ≡ (stage_of plain).routing
routing_at plain tasks place lt other one = All-get_or (λ (task : TaskOf). task.routing ≡ (stage_of plain).routing) tasks place other lt one.routing

pub home_at : (plain : Plain) (tasks : List TaskOf) (place : ℕ) → place < length tasks → (other : TaskOf) → AreOfOne plain tasks
    → IsTaskOf (stage_of plain) (get_or tasks place other).state
home_at plain tasks place lt other one = All-get_or (λ (task : TaskOf). IsTaskOf (stage_of plain) task.state) tasks place other lt one.home

-- what a completion chooses is the schedule's, and nothing else takes a word
abbrev pub Chooses : Lcg → ℕ → ℕ → Lcg → Type 0
Chooses old pending index new = (index ≡ word old % min pending 64) × (new ≡ behind old)

picks_none : (state : State) (event : What) (stream after : Lcg) → is_complete event ≡ false → after ≡ stream → PicksByWord state event stream after
-- a completion picks
picks_none state (what.Complete disk index status) stream after none same = absurd (true≢false none)
-- nothing else does
picks_none state (what.Take pool got) stream after none same = same
picks_none state (what.Try pool got) stream after none same = same
picks_none state (what.Give pool) stream after none same = same
picks_none state (what.Punt dev moved) stream after none same = same
picks_none state (what.Pop dev) stream after none same = same
picks_none state (what.Push disk at len leg) stream after none same = same
picks_none state (what.Link writer how node) stream after none same = same
picks_none state (what.Drop writer node status end) stream after none same = same
picks_none state (what.Done write status) stream after none same = same
picks_none state (what.Resize pool min) stream after none same = same
picks_none state (what.Round round) stream after none same = same

least_of : (l m : ℕ) → 64 ≤ m → min (min l m) 64 ≡ min l 64
least_of l m le = omega (arith, le)

module _ (plain now : Plain) (tasks : List TaskOf) (stream after : Lcg) where
  picks_chosen : (own : DevId) (event : Event) → Chosen Chooses (PlainPicks plain) now own stream (Stepped event) after → PicksByWord (run_state plain tasks) event.what stream after
  picks_chosen own event chosen = by_what event.what chosen
    where
      by_what : (w : What) → Chosen Chooses (PlainPicks plain) now own stream (Stepped (record event { what = w })) after → PicksByWord (run_state plain tasks) w stream after
      -- a completion picks, of as many as the disk has waiting
      by_what (what.Complete disk index status) (pending, (place, chooses, picks)) = (
        picks.1 ∙ chooses.0 ∙ ap (λ n. word stream % min n 64) picks.0
            ∙ ap (λ n. word stream % n) (least_of (length ((objects_of plain).disk disk.0).pending) (2 ^ 64 - 1) (omega arith)),
        chooses.1,
      )
      -- nothing else picks
      by_what w same = same

  picks : (task : TaskState) (event : Event) → (IsNoCompleter task → is_complete event.what ≡ false)
      → ChosenBy task Chooses (PlainPicks plain) now stream (Stepped event) after → PicksByWord (run_state plain tasks) event.what stream after
  -- writers and rescuers complete nothing
  picks (Writer number todo taken submission) event none chosen = picks_none (run_state plain tasks) event.what stream after (none tt) chosen
  picks (Rescuer dev submission) event none chosen = picks_none (run_state plain tasks) event.what stream after (none tt) chosen
  -- a completer may
  picks (Completer disk carried) event none chosen = picks_chosen disk event chosen
  -- the keeper completes nothing
  picks (Keeper keeping) event none chosen = picks_none (run_state plain tasks) event.what stream after (none tt) chosen

  -- nobody takes a bio between two looks of one thread
  stayed : (own : DevId) → (after ≡ stream) ⊎ ((between : Plain) × IsAsked Chooses (PlainPicks plain between own) stream None after) → after ≡ stream
  stayed own (inl same) = same
  stayed own (inr (between, (pending, (place, chooses, none)))) = absurd none

  stays_still : (task : TaskState) (step : Step) → IsStill step → ChosenBy task Chooses (PlainPicks plain) now stream step after → after ≡ stream
  -- writers and rescuers take no word
  stays_still (Writer number todo taken submission) step still chosen = chosen
  stays_still (Rescuer dev submission) step still chosen = chosen
  -- a completer takes one with an event alone
  stays_still (Completer disk carried) step still chosen = by_step step still chosen
    where
      by_step : (step : Step) → IsStill step → Chosen Chooses (PlainPicks plain) now disk stream step after → after ≡ stream
      by_step (Stepped event) still chosen = absurd still
      by_step (Blocked pool) still chosen = chosen
      by_step Waiting still chosen = stayed disk chosen
      by_step Ended still chosen = stayed disk chosen
      by_step (Broken breach) still chosen = absurd still
  -- the keeper takes none
  stays_still (Keeper keeping) step still chosen = chosen

-- a step of the task at a place
module _ (old new : Plain) (tasks : List TaskOf) (place : ℕ) (lt : place < length tasks) (task next : TaskOf)
    (is : tasks_at tasks place ≡ task.state) (routing : task.routing ≡ (stage_of old).routing)
    (one : AreOfOne old tasks) (home : IsTaskOf (stage_of old) task.state) (well : GoesWell (scene_of_objects old (length tasks)) (run_state old tasks)) where
  abbrev stack : Stack
  stack = (stage_of old).routing.stack

  abbrev scene : Scene
  scene = scene_of_objects old (length tasks)

  -- its turn, in terms of the tasks
  takes : (step : Step) → Turns PlainServes (Owes (stage_of old)) (routing_setup task.routing) task.state old next.state new step
      → TakesStep old (tasks_at tasks) place next.state new step
  takes step turns =
      subst (λ t. Turns PlainServes (Owes (stage_of old)) (routing_setup (stage_of old).routing) t old next.state new step) (sym is)
      (subst (λ r. Turns PlainServes (Owes (stage_of old)) (routing_setup r) task.state old next.state new step) routing turns)

  round_there : HasRound (objects_of old) (request (routing_setup (stage_of old).routing) (tasks_at tasks place))
  round_there = has_round (routing_setup (stage_of old).routing) (objects_of old) (tasks_at tasks place) (λ round later duties e. well.ahead place round later duties e)

  module _ {V : Type 0} (happens : V → Event → V → Type 0) (stream after : Lcg) (before now : V) (answer : Bool) where
    stepped : (event : Event) → TakesStep old (tasks_at tasks) place next.state new (Stepped event)
        → ChosenBy (tasks_at tasks place) Chooses (PlainPicks old) new stream (Stepped event) after → happens before event now → FitsEvent event
        → Tried happens stack scene place (run_state old tasks) stream before true (run_state new (set tasks place next)) after now
    stepped event turns chosen happened fits =
        let steps = steps_are_events.stepped old new (tasks_at tasks) (length tasks) place next.state event lt round_there turns in (
          event,
          subst (λ state. Steps scene (run_state old tasks) place event state) (sym (state_goes_on tasks place lt next new)) steps,
          picks old new tasks stream after (tasks_at tasks place) event
              (λ none. none_completed (routing_setup (stage_of old).routing) (tasks_at tasks place) steps.reply event.what none steps.told) chosen,
          happened,
          tasks_name_the_stack (stage_of old) (tasks_at tasks place) steps.reply event one.holds.stack_is (subst (IsTaskOf (stage_of old)) (sym is) home) steps.by
              steps.told,
          fits,
        )

    still : (step : Step) → IsStill step → TakesStep old (tasks_at tasks) place next.state new step
        → ChosenBy (tasks_at tasks place) Chooses (PlainPicks old) new stream step after → now ≡ before
        → Tried happens stack scene place (run_state old tasks) stream before false (run_state new (set tasks place next)) after now
    still step quiet turns chosen same =
        let stays = steps_are_events.still old new (tasks_at tasks) (length tasks) place next.state step quiet turns in
        let tasks_stay : upd (tasks_at tasks) place next.state ≡ tasks_at tasks = ap (upd (tasks_at tasks) place) stays.1 ∙ upd_own (tasks_at tasks) place in
        let made : (ℕ → TaskState) → State = λ task. record { objects = objects_of new; task = task } in (
          state_goes_on tasks place lt next new ∙ ap made tasks_stay ∙ ap (λ objects. record (run_state old tasks) { objects = objects }) stays.0,
          stays_still old new tasks stream after (tasks_at tasks place) step quiet chosen,
          same,
          stays.2,
        )

    by_step : (step : Step) → TakesStep old (tasks_at tasks) place next.state new step
        → ChosenBy (tasks_at tasks place) Chooses (PlainPicks old) new stream step after → HandsEvent happens step before answer now
        → Tried happens stack scene place (run_state old tasks) stream before answer (run_state new (set tasks place next)) after now
    by_step step turns chosen hands = by_cases step turns chosen hands
      where
        Outcome : Bool → Type 0
        Outcome b = Tried happens stack scene place (run_state old tasks) stream before b (run_state new (set tasks place next)) after now

        by_cases : (step : Step) → TakesStep old (tasks_at tasks) place next.state new step
            → ChosenBy (tasks_at tasks place) Chooses (PlainPicks old) new stream step after → HandsEvent happens step before answer now → Outcome answer
        by_cases (Stepped event) turns chosen hands = subst Outcome (sym hands.0) (stepped event turns chosen hands.1 hands.2)
        by_cases (Blocked pool) turns chosen hands = subst Outcome (sym hands.0) (still (Blocked pool) tt turns chosen hands.1)
        by_cases Waiting turns chosen hands = subst Outcome (sym hands.0) (still Waiting tt turns chosen hands.1)
        by_cases Ended turns chosen hands = subst Outcome (sym hands.0) (still Ended tt turns chosen hands.1)
        by_cases (Broken breach) turns chosen hands =
            absurd (unbroken old new (tasks_at tasks) (length tasks) place next.state lt well.unrefused round_there breach turns)

    pub tried : (step : Step) → Turns PlainServes (Owes (stage_of old)) (routing_setup task.routing) task.state old next.state new step
        → ChosenBy task.state Chooses (PlainPicks old) new stream step after → HandsEvent happens step before answer now
        → Tried happens stack scene place (run_state old tasks) stream before answer (run_state new (set tasks place next)) after now
    tried step turns chosen hands =
        by_step step (takes step turns) (subst (λ t. ChosenBy t Chooses (PlainPicks old) new stream step after) (sym is) chosen) hands

-- objects and tasks stay those of one scenario
pub kept_one : (old new : Plain) (tasks : List TaskOf) (place : ℕ) → place < length tasks → (other next : TaskOf) (step : Step) → AreOfOne old tasks
    → Holds new × (stage_of new ≡ stage_of old) → next.routing ≡ (get_or tasks place other).routing
    → Turns PlainServes (Owes (stage_of old)) (routing_setup (get_or tasks place other).routing) (get_or tasks place other).state old next.state new step
    → AreOfOne new (set tasks place next)
kept_one old new tasks place lt other next step one kept same turns = record {
  holds = kept.0;
  routing =
      All-set (λ (task : TaskOf). task.routing ≡ (stage_of new).routing) tasks place next (same ∙ routing ∙ sym (ap (λ (stage : Stage). stage.routing) kept.1))
      (subst (λ (stage : Stage). All (λ (task : TaskOf). task.routing ≡ stage.routing) tasks) (sym kept.1) one.routing);
  home =
      All-set (λ (task : TaskOf). IsTaskOf (stage_of new) task.state) tasks place next (subst (λ stage. IsTaskOf stage next.state) (sym kept.1) home)
      (subst (λ (stage : Stage). All (λ (task : TaskOf). IsTaskOf stage task.state) tasks) (sym kept.1) one.home);
}
  where
    routing : (get_or tasks place other).routing ≡ (stage_of old).routing
    routing = routing_at old tasks place lt other one

    home : IsTaskOf (stage_of old) next.state
    home =
        turns_home PlainServes (stage_of old) one.holds.stack_is (get_or tasks place other).state old next.state new step
        (home_at old tasks place lt other one)
        (subst (λ r. Turns PlainServes (Owes (stage_of old)) (routing_setup r) (get_or tasks place other).state old next.state new step) routing turns)
