-- Plain tasks as tasks of the machine.
use Rattle.std.specs.Prelude.{List}
use Rattle.run_machine.specs.Submissions as submission
use Rattle.run_machine.specs.Tasks as task
use Rattle.plain_core.specs.objects.Lists.{lists_of}
use Rattle.plain_core.specs.declared.steps.task.PlainWant.{PlainWant}
use Rattle.plain_core.specs.declared.steps.task.PlainWant.TheVariants as want
use Rattle.plain_core.specs.declared.steps.task.DriverAsk.{DriverAsk}
use Rattle.plain_core.specs.declared.steps.task.DriverAsk.TheVariants as ask
use Rattle.plain_core.specs.declared.steps.task.PlainDoing.{PlainDoing}
use Rattle.plain_core.specs.declared.steps.task.PlainDoing.TheVariants as doing
use Rattle.plain_core.specs.declared.steps.task.PlainSubmission.{PlainSubmission}
use Rattle.plain_core.specs.declared.steps.task.PlainGathered.{PlainGathered}
use Rattle.plain_core.specs.declared.steps.task.PlainGathered.TheVariants as taken
use Rattle.plain_core.specs.declared.steps.task.PlainCarried.{PlainCarried}
use Rattle.plain_core.specs.declared.steps.task.PlainCarried.TheVariants as carried
use Rattle.plain_core.specs.declared.steps.task.Writer.{Writer}
use Rattle.plain_core.specs.declared.steps.task.Rescuer.{Rescuer}
use Rattle.plain_core.specs.declared.steps.task.Completer.{Completer}
use Rattle.plain_core.specs.declared.steps.task.Task.{Task}
use Rattle.plain_core.specs.declared.steps.task.Task.TheVariants as tasks

abbrev pub want_of_plain : PlainWant → submission.Want
want_of_plain (want.Takes waits) = submission.Takes waits
want_of_plain want.Punts = submission.WantsPunt
want_of_plain (want.Links hand) = submission.Links hand

abbrev pub ask_of_plain : DriverAsk → submission.Driving
ask_of_plain ask.ToPush = submission.ToPush
ask_of_plain (ask.ToCut want) = submission.ToCut (want_of_plain want)
ask_of_plain ask.ToRecord = submission.ToRecord
ask_of_plain (ask.ToMaster slip) = submission.ToMaster slip

abbrev pub doing_of_plain : PlainDoing → submission.Doing
doing_of_plain doing.Rests = submission.Rests
doing_of_plain (doing.Drives part ask) = submission.Drives part (ask_of_plain ask)
doing_of_plain (doing.Copies copying want) = submission.Copies copying.bio copying.master copying.leg (want_of_plain want)

abbrev pub submission_of_plain : PlainSubmission → submission.Submission
submission_of_plain l = record { doing = doing_of_plain l.doing; lists = lists_of l.lists }

abbrev pub gathered_of_plain : PlainGathered → task.Gathered
gathered_of_plain taken.NoBio = task.NoBio
gathered_of_plain (taken.HasBio part) = task.HasBio part
gathered_of_plain (taken.HasBoth part vector) = task.HasBoth part vector

abbrev pub carried_of_plain : PlainCarried → task.Carried
carried_of_plain carried.Empty = task.Empty
carried_of_plain (carried.Brings part status) = task.Brings part status
carried_of_plain (carried.Carries writer closed) = task.Carries writer closed

abbrev pub writer_of : Writer → task.TaskState
writer_of w = task.Writer w.number w.todo (gathered_of_plain w.taken) (submission_of_plain w.submission)

abbrev pub rescuer_of : Rescuer → task.TaskState
rescuer_of r = task.Rescuer r.dev (submission_of_plain r.submission)

abbrev pub completer_of : Completer → task.TaskState
completer_of c = task.Completer c.disk (carried_of_plain c.carried)

abbrev pub keeper_of : List task.Duty → task.TaskState
keeper_of duties = task.Keeper (task.Keeps duties)

abbrev pub task_of_plain : Task → task.TaskState
task_of_plain (tasks.Writer w) = writer_of w
task_of_plain (tasks.Rescuer r) = rescuer_of r
task_of_plain (tasks.Completer c) = completer_of c
task_of_plain (tasks.Keeper k) = keeper_of k
