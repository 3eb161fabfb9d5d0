-- Objects and tasks of one scenario stay so where one of the tasks makes a step.
use Rattle.std.proofs.Common.{◌≡◌, ◌<◌, ℕ, List, All, length, set, get_or, sym, ap, ◌∙◌, subst}
use Rattle.std.proofs.lemmas.List.Elements.{All-get_or, All-set}
use Rattle.task_core.specs.declared.plain.Plain.{Plain}
use Rattle.task_steps.specs.declared.step.Step.{Step}
use Rattle.task_steps.specs.Homes.{IsTaskOf}
use Rattle.task_core.specs.opened.OfOne.{AreOfOne}
use Rattle.task_core.specs.Plains.{stage_of, Holds, PlainServes}
use Rattle.task_steps.specs.Routed.{routing_setup}
use Rattle.task_steps.specs.Stage.{Stage, Owes}
use Rattle.task_steps.specs.TaskViews.{TaskOf}
use Rattle.task_steps.specs.Turns.{Turns}
use Rattle.task_steps.proofs.Turned.{turns_home}

module _ (old new : Plain) (tasks : List TaskOf) (place : ℕ) (lt : place < length tasks) (task next : TaskOf) (is : task ≡ get_or tasks place task)
    (one : AreOfOne old tasks) where
  -- what holds of all tasks holds of the one at this place
  of_task : (P : TaskOf → Type 0) → All P tasks → P task
  of_task P all = subst P (sym is) (All-get_or P tasks place task lt all)

  routing : task.routing ≡ (stage_of old).routing
  routing = of_task (λ (task : TaskOf). task.routing ≡ (stage_of old).routing) one.routing

  home : IsTaskOf (stage_of old) task.state
  home = of_task (λ (task : TaskOf). IsTaskOf (stage_of old) task.state) one.home

  pub stays_of_one : (step : Step) → Holds new × (stage_of new ≡ stage_of old) → next.routing ≡ task.routing
      → Turns PlainServes (Owes (stage_of old)) (routing_setup task.routing) task.state old next.state new step → AreOfOne new (set tasks place next)
  stays_of_one step kept same turns = record {
    holds = kept.0;
    routing =
        All-set (λ (task : TaskOf). task.routing ≡ (stage_of new).routing) tasks place next (same ∙ routing ∙ sym (ap (λ (stage : Stage). stage.routing) kept.1))
        (subst (λ (stage : Stage). All (λ (task : TaskOf). task.routing ≡ stage.routing) tasks) (sym kept.1) one.routing);
    home =
        All-set (λ (task : TaskOf). IsTaskOf (stage_of new) task.state) tasks place next (subst (λ stage. IsTaskOf stage next.state) (sym kept.1) next_home)
        (subst (λ (stage : Stage). All (λ (task : TaskOf). IsTaskOf stage task.state) tasks) (sym kept.1) one.home);
  }
    where
      next_home : IsTaskOf (stage_of old) next.state
      next_home =
          turns_home PlainServes (stage_of old) one.holds.stack_is task.state old next.state new step home
          (subst (λ r. Turns PlainServes (Owes (stage_of old)) (routing_setup r) task.state old next.state new step) routing turns)
