-- What a task keeps, so that whatever it asks for fits the objects: each of its bios can be served, and each of its elements is at home.
use Rattle.std.specs.Prelude.{◌<◌, ◌≤◌, true, false, IsTrue, All}
use Rattle.stack_base.specs.declared.ids.DevId.{DevId}
use Rattle.stack_base.specs.Stack.{IsStack}
use Rattle.stack_base.specs.PoolId.{pool_number}
use Rattle.layout_model.specs.Writes.{IsWrite}
use Rattle.bio_records.specs.declared.bio.Pad.{Pad}
use Rattle.bio_records.specs.Items.{Item}
use Rattle.run_machine.specs.Requests.{Reply}
use Rattle.run_machine.specs.Submissions.{Want, Takes, WantsPunt, Links, Driving, ToPush, ToCut, ToRecord, ToMaster, Doing, Rests, Drives, Copies, Breaks, Submission, submission_request, submission_answered}
use Rattle.run_machine.specs.Tasks.{Todo, Gathered, NoBio, HasBio, HasBoth, Carried, Empty, Brings, Carries, Fails, Duty, Resizes, Starts, Keeping, Keeps, Stops, TaskState, Writer, Rescuer, Completer, Keeper, request, answered}
use Rattle.task_steps.specs.Routed.{routing_setup}
use Rattle.task_steps.specs.Stage.{Stage, has_book, has_rescuer, has_disk, is_pool, is_bios, is_vecs, is_slips, IsHome, ClosedFits, RequestFits, Owes}
use Rattle.task_steps.specs.Within.{SubmissionIsWithin}

-- a bio of a writer with a book, in an element at home
pub record IsOwned (stage : Stage) (item : Item Pad) : Type 0 where
  pub writer : IsTrue (has_book stage item.bio.writer)
  pub home : IsHome stage is_bios item.share

-- only where the device's set has a rescuer does a task try without waiting, and punt; and a bio in its hand is at home
abbrev pub WantFits : Stage → DevId → Want → Type 0
WantFits stage dev (Takes true) = Unit {0}
WantFits stage dev (Takes false) = IsTrue (has_rescuer stage dev)
WantFits stage dev WantsPunt = IsTrue (has_rescuer stage dev)
WantFits stage dev (Links hand) = IsHome stage is_bios hand.share

abbrev pub AskIsHome : Stage → DevId → Driving → Type 0
AskIsHome stage dev ToPush = Unit {0}
AskIsHome stage dev (ToCut want) = WantFits stage dev want
AskIsHome stage dev ToRecord = Unit {0}
AskIsHome stage dev (ToMaster slip) = IsHome stage is_slips slip.share

abbrev pub DoingIsHome : Stage → Doing → Type 0
DoingIsHome stage Rests = Unit {0}
DoingIsHome stage (Breaks breach kept) = Unit {0}
DoingIsHome stage (Drives item ask) = IsOwned stage item × AskIsHome stage item.bio.dev ask
DoingIsHome stage (Copies bio master leg want) = IsTrue (has_book stage bio.writer) × WantFits stage bio.dev want

-- a submission whose bios can all be served
pub record IsSubmissionOf (stage : Stage) (submission : Submission) : Type 0 where
  pub fits : SubmissionIsWithin stage.routing.stack submission
  pub doing : DoingIsHome stage submission.doing
  pub list0 : All (IsOwned stage) submission.lists.list0
  pub list1 : All (IsOwned stage) submission.lists.list1

-- a write of the scenario, with no more segments than a vector has
pub record TodoFits (stage : Stage) (todo : Todo) : Type 0 where
  pub write : IsWrite stage.routing.stack todo.write
  pub number : todo.number < stage.writes
  pub few : todo.write.count ≤ 2048

abbrev pub GatheredIsHome : Stage → Gathered → Type 0
GatheredIsHome stage NoBio = Unit {0}
GatheredIsHome stage (HasBio bio) = IsHome stage is_bios bio.share
GatheredIsHome stage (HasBoth bio vector) = IsHome stage is_bios bio.share × IsHome stage is_vecs vector.share

abbrev pub CarriedFits : Stage → Carried → Type 0
CarriedFits stage Empty = Unit {0}
CarriedFits stage (Brings bio status) = IsOwned stage bio
CarriedFits stage (Carries writer closed) = IsTrue (has_book stage writer) × ClosedFits stage closed
CarriedFits stage (Fails breach kept) = Unit {0}

abbrev pub DutyFits : Stage → Duty → Type 0
DutyFits stage (Resizes pool min later) = IsTrue (is_pool stage pool) × (1 ≤ min) × (min ≤ stage.most (pool_number pool))
DutyFits stage (Starts round later) = Unit {0}

abbrev pub KeepingFits : Stage → Keeping → Type 0
KeepingFits stage (Keeps duties) = All (DutyFits stage) duties
KeepingFits stage (Stops breach) = Unit {0}

-- a task of the scenario that these objects are of
abbrev pub IsTaskOf : Stage → TaskState → Type 0
IsTaskOf stage (Writer number todo taken submission) =
    IsTrue (has_book stage number) × All (TodoFits stage) todo × GatheredIsHome stage taken × IsSubmissionOf stage submission
IsTaskOf stage (Rescuer dev submission) = IsTrue (has_rescuer stage dev) × IsSubmissionOf stage submission
IsTaskOf stage (Completer disk carried) = IsTrue (has_disk stage disk) × CarriedFits stage carried
IsTaskOf stage (Keeper keeping) = KeepingFits stage keeping

-- What such a submission asks for fits the objects, and with what they owe for it, it stays one.
pub record SubmissionsStayHome : Type 0 where
  pub asks : (stage : Stage) (submission : Submission) → IsStack stage.routing.stack → IsSubmissionOf stage submission → RequestFits stage (submission_request (routing_setup stage.routing) submission.doing submission.lists)
  pub goes_on : (stage : Stage) (submission : Submission) (reply : Reply) → IsStack stage.routing.stack → IsSubmissionOf stage submission
      → Owes stage (submission_request (routing_setup stage.routing) submission.doing submission.lists) reply
      → IsSubmissionOf stage (submission_answered (routing_setup stage.routing) submission.doing submission.lists reply)

-- So it is with tasks.
pub record TasksStayHome : Type 0 where
  pub asks : (stage : Stage) (task : TaskState) → IsStack stage.routing.stack → IsTaskOf stage task → RequestFits stage (request (routing_setup stage.routing) task)
  pub goes_on : (stage : Stage) (task : TaskState) (reply : Reply) → IsStack stage.routing.stack → IsTaskOf stage task
      → Owes stage (request (routing_setup stage.routing) task) reply → IsTaskOf stage (answered (routing_setup stage.routing) task reply)
