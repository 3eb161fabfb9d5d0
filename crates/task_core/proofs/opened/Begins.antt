-- What was opened is where the runs of its scenario begin.
use Rattle.std.proofs.Common.{◌≡◌, ℕ, List, length, get_or, ap, sym, ◌∙◌}
use Rattle.std.proofs.lemmas.List.{length-map}
use Rattle.elem_ledger.specs.Ledger.{LedgerId}
use Rattle.task_core.specs.declared.opening.Opened.{Opened}
use Rattle.task_core.specs.opened.Begins.{OpenedBegins}
use Rattle.task_core.specs.opened.OfOne.{run_state, scenario_in, states, IsOpened}
use Rattle.run_machine.specs.Objects.{Objects}
use Rattle.run_machine.specs.Opened.{no_task, start, scene, most_writers}
use Rattle.run_machine.specs.Opened as opened
use Rattle.task_core.specs.PlainSteps.{scene_of_objects}
use Rattle.task_core.specs.Plains.{stage_of}
use Rattle.run_machine.specs.Runs.{State}
use Rattle.run_machine.specs.Scene.{Scene, Setup}
use Rattle.task_steps.specs.TaskViews.{TaskOf}
use Rattle.run_machine.specs.Tasks.{TaskState}

-- a state and a scene by their parts
abbrev state_with : Objects → List TaskState → State
state_with objects tasks = record { objects = objects; task = λ place. get_or tasks place no_task }

abbrev scene_with : (ℕ → LedgerId) → Setup → ℕ → ℕ → Scene
scene_with ledger setup tasks writes = record { setup = setup; tasks = tasks; books = most_writers; writes = writes; ledger = ledger }

-- the objects and the tasks are those of the start
pub run_begins : (o : Opened) → IsOpened o → run_state o.objects o.tasks.items ≡ start (scenario_in o)
run_begins o is =
    ap (λ objects. state_with objects (states o.tasks.items)) is.objects ∙ ap (state_with (opened.objects (scenario_in o))) is.tasks

-- and all that stays is that of the scenario, with the ledgers of the pools that were opened
pub scene_is : (o : Opened) → IsOpened o → scene_of_objects o.objects (length o.tasks.items) ≡ scene (scenario_in o) (stage_of o.objects).ledger
scene_is o is =
    let count : length o.tasks.items ≡ length (opened.opened_tasks (scenario_in o)) =
    sym (length-map o.tasks.items (λ (task : TaskOf). task.state)) ∙ ap length is.tasks in
    let ledger = (stage_of o.objects).ledger in
    ap (λ setup. scene_with ledger setup (length o.tasks.items) (stage_of o.objects).writes) is.setup
    ∙ ap (λ tasks. scene_with ledger (opened.setup_in (scenario_in o)) tasks (stage_of o.objects).writes) count
    ∙ ap (scene_with ledger (opened.setup_in (scenario_in o)) (length (opened.opened_tasks (scenario_in o)))) is.writes

pub opened_begins : OpenedBegins
opened_begins = record { state = run_begins; scene_is = scene_is }
