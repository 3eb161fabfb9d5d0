-- A task of a scenario stays one, whatever step it makes.
use Rattle.std.proofs.Common.{◌≡◌, sym, subst}
use Rattle.stack_base.specs.Stack.{IsStack}
use Rattle.task_steps.specs.declared.objects.Objects.{Ghosts}
use Rattle.task_steps.specs.declared.step.Step.{Step}
use Rattle.run_machine.specs.Scene.{Setup}
use Rattle.run_machine.specs.Tasks.{TaskState}
use Rattle.task_steps.specs.Service.{Service}
use Rattle.task_steps.specs.Routed.{routing_setup}
use Rattle.task_steps.specs.Stage.{Stage, Owes}
use Rattle.task_steps.specs.Homes.{IsTaskOf}
use Rattle.task_steps.specs.Turns.{Asks, Turns, Rested, Waited, Asked, Saw}
use Rattle.task_steps.specs.TaskSteps.{TaskTurns}
use Rattle.task_steps.proofs.TaskHomes.{tasks_stay_home}

module _ {S : Type 0} (serves : Service S) (stage : Stage) (good : IsStack stage.routing.stack) where
  asks_home : (task : TaskState) (old : S) (next : TaskState) (new : S) (step : Step) → IsTaskOf stage task
      → Asks serves (Owes stage) (routing_setup stage.routing) task old next new step → IsTaskOf stage next
  asks_home task old next new step home asks =
      subst (IsTaskOf stage) (sym asks.goes_on) (tasks_stay_home.goes_on stage task asks.reply good home asks.owed)

  pub turns_home : (task : TaskState) (old : S) (next : TaskState) (new : S) (step : Step) → IsTaskOf stage task
      → Turns serves (Owes stage) (routing_setup stage.routing) task old next new step → IsTaskOf stage next
  turns_home task old next new step home (Rested rests same stays tells) = subst (IsTaskOf stage) (sym same) home
  turns_home task old next new step home (Waited look seen looks saw early same tells) = subst (IsTaskOf stage) (sym same) home
  turns_home task old next new step home (Asked none asks) = asks_home task old next new step home asks
  turns_home task old next new step home (Saw look seen between looks saw due asks) = asks_home task between next new step home asks

-- a step told of with other names for what it is of
pub does_same : {S : Type 0} (words : Ghosts S) (old : S) {known setup : Setup} {before task after next : TaskState} {behind new : S} {came step : Step}
    → known ≡ setup → before ≡ task → after ≡ next → behind ≡ new → came ≡ step → TaskTurns words known before old after behind came
    → TaskTurns words setup task old next new step
does_same {S = S} words old known before after behind came does =
    subst (λ (p : Setup × TaskState × TaskState × S × Step). TaskTurns words p.0 p.1 old p.2 p.3 p.4)
    (λ k. (known k, before k, after k, behind k, came k)) does
