-- Objects and tasks of one scenario, and what was opened of an accepted text.
use Rattle.std.specs.Prelude.{◌≡◌, ℕ, List, All, map, length, slice_index_or}
use Rattle.decl_text.specs.declared.accepted.Accepted.{Accepted}
use Rattle.stack_base.specs.Stack.{HasRescuers}
use Rattle.work_text.specs.declared.Work.{Work}
use Rattle.task_core.specs.declared.opening.Opened.{Opened}
use Rattle.task_core.specs.declared.plain.Plain.{Plain}
use Rattle.task_steps.specs.Homes.{IsTaskOf}
use Rattle.task_core.specs.Leaving.{IsReservedForRun}
use Rattle.task_core.specs.opened.NewTasks.{reserves_in}
use Rattle.task_core.specs.opened.Openings.{AreRows, AreOpened}
use Rattle.run_machine.specs.Opened.{Scenario, objects, opened_tasks, no_task, tally_in}
use Rattle.run_machine.specs.Opened as opened
use Rattle.task_core.specs.Plains.{objects_of, stage_of, Holds}
use Rattle.task_core.specs.PlainSteps.{state_of_objects}
use Rattle.task_steps.specs.Routed.{Routing, routing_setup}
use Rattle.run_machine.specs.Runs.{State}
use Rattle.run_machine.specs.ReadBehind.{IsReadBehind}
use Rattle.run_machine.specs.Scenario.{scenario_of}
use Rattle.task_steps.specs.TaskViews.{TaskOf}
use Rattle.run_machine.specs.Tasks.{TaskState}

abbrev pub states : List TaskOf → List TaskState
states tasks = map (λ (task : TaskOf). task.state) tasks

abbrev pub tasks_at : List TaskOf → ℕ → TaskState
tasks_at tasks place = slice_index_or (states tasks) place no_task

-- tasks and objects, as a state of the machine
abbrev pub run_state : Plain → List TaskOf → State
run_state plain tasks = state_of_objects plain (tasks_at tasks)

-- each of these tasks is one of the scenario that these objects are of
pub record AreOfOne (plain : Plain) (tasks : List TaskOf) : Type 0 where
  pub holds : Holds plain
  pub routing : All (λ (task : TaskOf). task.routing ≡ (stage_of plain).routing) tasks
  pub home : All (λ (task : TaskOf). IsTaskOf (stage_of plain) task.state) tasks

-- these are the objects of an accepted text and the work behind it, as they are opened
abbrev pub AreOpenedOf : Accepted → Work → Routing → Plain → Type 0
AreOpenedOf accepted work routing plain =
    AreOpened routing accepted.scripts.items (reserves_in work.resizes.items) (tally_in work.rounds.items work.writes.items) plain

-- what it was opened of
abbrev pub scenario_in : Opened → Scenario
scenario_in o = scenario_of o.accepted.value o.work.value

-- These are the objects and the tasks in which the runs of an accepted text begin, whose mirrors have rescuers: so none of its runs can hang.
pub record IsOpened (o : Opened) : Type 0 where
  pub read : IsReadBehind o.accepted.value o.work.value
  pub rescuers : HasRescuers o.accepted.value.stack
  pub one : AreOfOne o.objects o.tasks.items
  pub routes : o.routes.value ≡ (stage_of o.objects).routing
  pub stack : (stage_of o.objects).routing.stack ≡ (scenario_in o).stack
  pub setup : routing_setup (stage_of o.objects).routing ≡ opened.setup_in (scenario_in o)
  pub writes : (stage_of o.objects).writes ≡ length (scenario_in o).writes
  pub objects : objects_of o.objects ≡ objects (scenario_in o)
  pub tasks : states o.tasks.items ≡ opened_tasks (scenario_in o)
  pub rows : AreRows (stage_of o.objects).routing o.accepted.value.scripts.items (reserves_in o.work.value.resizes.items) o.objects
  pub room : IsReservedForRun (scenario_in o).stack (length (scenario_in o).writes) o.room
