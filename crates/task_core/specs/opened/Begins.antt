-- What is opened of a text is where the runs of its scenario begin.
use Rattle.std.specs.Prelude.{◌≡◌, length}
use Rattle.task_core.specs.declared.opening.Opened.{Opened}
use Rattle.task_core.specs.opened.OfOne.{run_state, scenario_in, IsOpened}
use Rattle.run_machine.specs.Opened.{scene, start}
use Rattle.task_core.specs.PlainSteps.{scene_of_objects}
use Rattle.task_core.specs.Plains.{stage_of}

pub record OpenedBegins : Type 0 where
  -- the objects and the tasks are those of the start
  pub state : (o : Opened) → IsOpened o → run_state o.objects o.tasks.items ≡ start (scenario_in o)
  -- and all that stays is that of the scenario, with the ledgers of the pools that were opened
  pub scene_is : (o : Opened) → IsOpened o → scene_of_objects o.objects (length o.tasks.items) ≡ scene (scenario_in o) (stage_of o.objects).ledger
