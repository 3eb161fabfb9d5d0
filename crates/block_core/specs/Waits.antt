-- Tasks that wait for an element, and what stands behind them meanwhile.
use Rattle.std.specs.Prelude.{◌≡◌, ◌⊎◌, ℕ, true, false, List, [], All}
use Rattle.elem_ledger.specs.Ledger.{LedgerId}
use Rattle.stack_base.specs.declared.ids.DevId.{DevId}
use Rattle.stack_base.specs.Stack.{HasRescuers}
use Rattle.stack_base.specs.declared.ids.SetId.TheVariants.{Of}
use Rattle.bio_records.specs.declared.tasks.TaskLists.{TaskLists}
use Rattle.bio_records.specs.Sorting.{is_of}
use Rattle.run_machine.specs.declared.event.Event.{Event}
use Rattle.run_machine.specs.Scene.{Setup, Scene}
use Rattle.run_machine.specs.Submissions.{Want, Takes, WantsPunt, Links, ToPush, ToCut, ToRecord, ToMaster, Doing, Rests, Drives, Copies, Breaks}
use Rattle.run_machine.specs.Tasks.{TaskState, Writer, Rescuer, Completer, Keeper}
use Rattle.run_machine.specs.Opened.{Scenario, scene, start}
use Rattle.run_machine.specs.Runs.{State, IsRun}
use Rattle.block_core.specs.Scenarios.{IsScenario, IsNaming}

-- no bio of a device's set is in the lists of a task that waits for one, and one is tried for without waiting, and others are punted, only
-- where the set has a rescuer
abbrev pub NoneBehind : Setup → DevId → Want → TaskLists → Type 0
NoneBehind setup dev (Takes true) lists = All (λ item. is_of (Of dev) item ≡ false) lists.list0 × All (λ item. is_of (Of dev) item ≡ false) lists.list1
NoneBehind setup dev (Takes false) lists = setup.rescuer dev.0 ≡ true
NoneBehind setup dev WantsPunt lists = setup.rescuer dev.0 ≡ true
NoneBehind setup dev (Links hand) lists = Unit {0}

abbrev pub DoesNotWaitForItself : Setup → Doing → TaskLists → Type 0
DoesNotWaitForItself setup Rests lists = Unit {0}
DoesNotWaitForItself setup (Drives bio ToPush) lists = Unit {0}
DoesNotWaitForItself setup (Drives bio (ToCut want)) lists = NoneBehind setup bio.bio.dev want lists
DoesNotWaitForItself setup (Drives bio ToRecord) lists = Unit {0}
DoesNotWaitForItself setup (Drives bio (ToMaster slip)) lists = Unit {0}
DoesNotWaitForItself setup (Copies bio master leg want) lists = NoneBehind setup bio.dev want lists
DoesNotWaitForItself setup (Breaks breach kept) lists = Unit {0}

abbrev pub TaskDoesNotWaitForItself : Setup → TaskState → Type 0
TaskDoesNotWaitForItself setup (Writer number todo taken submission) = DoesNotWaitForItself setup submission.doing submission.lists
TaskDoesNotWaitForItself setup (Rescuer dev submission) = DoesNotWaitForItself setup submission.doing submission.lists
TaskDoesNotWaitForItself setup (Completer disk carried) = Unit {0}
TaskDoesNotWaitForItself setup (Keeper keeping) = Unit {0}

pub record NoneWaitsForItself (scene : Scene) (state : State) : Type 0 where
  pub tasks : (place : ℕ) → TaskDoesNotWaitForItself scene.setup (state.task place)
  -- bios wait for rescuers only where there is one
  pub rescued : (dev : ℕ) → (state.objects.rescue dev ≡ []) ⊎ (scene.setup.rescuer dev ≡ true)

-- where each mirror of two members or more has a rescuer, no task ever waits for a bio of a set of which it has one in its lists
abbrev pub NoTaskWaitsForItself : Type 0
NoTaskWaitsForItself = (s : Scenario) (ledger : ℕ → LedgerId) (events : List Event) (state : State) → IsScenario s → HasRescuers s.stack → IsNaming ledger
    → IsRun (scene s ledger) (start s) events state → NoneWaitsForItself (scene s ledger) state
