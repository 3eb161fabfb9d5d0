-- What the events of a run name, the stack has: each task asks for what there is, and each object hands out what belongs there.
use Rattle.std.proofs.Common.{◌≡◌, ◌⊎◌, ◌<◌, ◌≤◌, ℕ, List, [], ◌∷◌, None, Some, length, inl, inr, sym, ◌∙◌, ap, subst, get_or}
use Rattle.std.specs.Prelude.{All, slice_get}
use Rattle.std.proofs.Math.Decide.{ℕ_discrete}
use Rattle.std.proofs.Math.Logic.{dite}
use Rattle.std.proofs.lemmas.List.Elements.{All-nil, All-cons}
use Rattle.std.proofs.lemmas.Option.{slice_get_cases}
use Rattle.stack_base.specs.Stack.{IsStack}
use Rattle.run_machine.specs.declared.event.Event.{Event}
use Rattle.run_machine.specs.Named.{IsEventOf}
use Rattle.run_machine.specs.Opened.{scene, start, no_task}
use Rattle.run_machine.specs.Opened as opened
use Rattle.run_machine.specs.Runs.{State, Steps, IsRun}
use Rattle.run_machine.specs.Scene.{Scene}
use Rattle.run_machine.specs.Tasks.{TaskState, request, answered}
use Rattle.run_machine.proofs.Frames.{upd_same, upd_other}
use Rattle.task_steps.specs.Homes.{IsTaskOf, DutyFits}
use Rattle.task_steps.specs.Routed.{routing_setup}
use Rattle.task_steps.specs.Stage.{Stage}
use Rattle.task_steps.specs.TaskViews.{TaskOf}
use Rattle.task_steps.proofs.Named.{tasks_name_the_stack}
use Rattle.task_steps.proofs.TaskHomes.{tasks_stay_home}
use Rattle.task_core.specs.declared.opening.Opened.{Opened}
use Rattle.task_core.specs.ObjectsOf.{AreObjectsOf, AreNumbered}
use Rattle.task_core.specs.Plains.{stage_of}
use Rattle.task_core.specs.opened.OfOne.{IsOpened, scenario_in, tasks_at}
use Rattle.task_core.proofs.Keeping.{objects_stay, objects_owe}
use Rattle.task_core.proofs.opened.Begins.{run_begins, scene_is}
use Rattle.run_merge.proofs.enough_shown.TaskCounts.{image_at, image_none}

-- what holds behind each event
pub record IsStateOf (stage : Stage) (state : State) : Type 0 where
  pub objects : AreObjectsOf stage state.objects
  pub tasks : (place : ℕ) → IsTaskOf stage (state.task place)

module _ (stage : Stage) (good : IsStack stage.routing.stack) (numbered : AreNumbered stage) where
  abbrev scene_with : ℕ → ℕ → ℕ → Scene
  scene_with tasks books writes = record { setup = routing_setup stage.routing; tasks = tasks; books = books; writes = writes; ledger = stage.ledger }

  module _ (tasks books writes : ℕ) where
    one_named : (old new : State) (place : ℕ) (event : Event) → IsStateOf stage old → Steps (scene_with tasks books writes) old place event new
        → IsEventOf stage.routing.stack event
    one_named old new place event kept steps =
        tasks_name_the_stack stage (old.task place) steps.reply event good (kept.tasks place) steps.by steps.told

    one_kept : (old new : State) (place : ℕ) (event : Event) → IsStateOf stage old → Steps (scene_with tasks books writes) old place event new → IsStateOf stage new
    one_kept old new place event kept steps =
        let asked = request (routing_setup stage.routing) (old.task place) in
        let fits = tasks_stay_home.asks stage (old.task place) good (kept.tasks place) in
        let owes = objects_owe stage old.objects new.objects asked steps.reply numbered fits kept.objects steps.serves in
        let now = tasks_stay_home.goes_on stage (old.task place) steps.reply good (kept.tasks place) owes in
        record {
          objects = objects_stay stage old.objects new.objects asked steps.reply fits kept.objects steps.serves;
          tasks = λ other. at other now;
        }
      where
        at : (other : ℕ) → IsTaskOf stage (answered (routing_setup stage.routing) (old.task place) steps.reply) → IsTaskOf stage (new.task other)
        at other now = dite (ℕ_discrete other place)
            (λ same. subst (λ k. IsTaskOf stage (new.task k)) (sym same)
            (subst (IsTaskOf stage) (sym (ap (λ (f : ℕ → TaskState). f place) steps.goes_on ∙ upd_same old.task place (answered (routing_setup stage.routing) (old.task place) steps.reply))) now))
            (λ apart. subst (IsTaskOf stage)
            (sym (ap (λ (f : ℕ → TaskState). f other) steps.goes_on ∙ upd_other old.task place (answered (routing_setup stage.routing) (old.task place) steps.reply) other apart))
            (kept.tasks other))

    all_named : (old : State) (events : List Event) (new : State) → IsStateOf stage old → IsRun (scene_with tasks books writes) old events new
        → All (IsEventOf stage.routing.stack) events × IsStateOf stage new
    all_named old [] new kept run = (All-nil (IsEventOf stage.routing.stack), subst (IsStateOf stage) (sym run) kept)
    all_named old (event ∷ events) new kept (next, (place, steps), run) =
        let rest = all_named next events new (one_kept old next place event kept steps) run in
        (All-cons (IsEventOf stage.routing.stack) event events (one_named old next place event kept steps) rest.0, rest.1)

-- what was opened
module _ (o : Opened) (is : IsOpened o) where
  abbrev stage : Stage
  stage = stage_of o.objects

  home_at : (place : ℕ) → IsTaskOf stage (tasks_at o.tasks.items place)
  home_at place = by_two (slice_get_cases o.tasks.items place).1
    where
      by_two : ((x : TaskOf) × (place < length o.tasks.items) × (slice_get o.tasks.items place ≡ Some x) × (get_or o.tasks.items place x ≡ x))
          ⊎ ((length o.tasks.items ≤ place) × (slice_get o.tasks.items place ≡ None)) → IsTaskOf stage (tasks_at o.tasks.items place)
      by_two (inl (task, lt, at, same)) =
          subst (IsTaskOf stage) (sym (image_at (λ (task : TaskOf). task.state) no_task o.tasks.items place task at))
          (subst (λ (task : TaskOf). IsTaskOf stage task.state) same (is.one.home place task lt))
      by_two (inr (le, none)) =
          subst (IsTaskOf stage) (sym (image_none (λ (task : TaskOf). task.state) no_task o.tasks.items place le)) (All-nil (DutyFits stage))

  kept_at_start : IsStateOf stage (start (scenario_in o))
  kept_at_start = subst (IsStateOf stage) (run_begins o is) (record { objects = is.one.holds.objects; tasks = home_at })

  -- the events of each run of it, and what it leaves
  pub run_named : (events : List Event) (last : State) → IsRun (scene (scenario_in o) stage.ledger) (start (scenario_in o)) events last
      → All (IsEventOf (scenario_in o).stack) events × AreObjectsOf stage last.objects
  run_named events last run =
      let named = all_named stage is.one.holds.stack_is is.one.holds.numbered (length o.tasks.items) opened.most_writers stage.writes (start (scenario_in o)) events last kept_at_start
      (subst (λ scene. IsRun scene (start (scenario_in o)) events last) (sym (scene_is o is)) run) in
      (subst (λ stack. All (IsEventOf stack) events) is.stack named.0, named.1.objects)
