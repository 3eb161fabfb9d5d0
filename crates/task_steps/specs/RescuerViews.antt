-- A rescuer without its boxes.
use Rattle.stack_base.specs.declared.ids.DevId.{DevId}
use Rattle.run_machine.specs.Submissions.{Submission}
use Rattle.run_machine.specs.Tasks.{TaskState, Rescuer}

-- the rescuer of a device's set: the device, and its submission
pub record RescuerState : Type 0 where
  pub dev : DevId
  pub submission : Submission

abbrev pub rescuer_task : RescuerState → TaskState
rescuer_task r = Rescuer r.dev r.submission
