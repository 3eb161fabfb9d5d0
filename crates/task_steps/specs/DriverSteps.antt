-- What drivers make of a submission, and what their steps do.
use Rattle.std.specs.Prelude.{ℕ}
use Rattle.elem_ledger.specs.declared.element.Element.{Element}
use Rattle.bio_records.specs.declared.bio.Bio.{Bio}
use Rattle.bio_records.specs.declared.bio.Pad.{Pad}
use Rattle.bio_records.specs.declared.bio.Slip.{Slip}
use Rattle.bio_records.specs.declared.body.BioBody.{BioBody}
use Rattle.bio_records.specs.declared.tasks.TaskLists.{TaskLists}
use Rattle.bio_records.specs.Items.{Item}
use Rattle.run_machine.specs.declared.event.TaskId.{TaskId}
use Rattle.run_machine.specs.Submissions.{Submission, copies}
use Rattle.task_steps.specs.declared.objects.Objects.{Ghosts}
use Rattle.task_steps.specs.declared.step.Step.{Step}
use Rattle.task_steps.specs.declared.submission.Doing.{Doing as RealDoing}
use Rattle.task_steps.specs.declared.submission.DriverAsk.{DriverAsk}
use Rattle.task_steps.specs.declared.submission.DriverAsk.TheVariants as ask
use Rattle.task_steps.specs.declared.submission.Want.{Want as RealWant}
use Rattle.task_steps.specs.declared.submission.Want.TheVariants as want
use Rattle.task_steps.specs.declared.submission.mirror.Copying.{Copying}
use Rattle.task_steps.specs.Routed.{Routing, routing_setup}
use Rattle.task_steps.specs.SubmissionViews.{asking, cutting, copying, doing_of, landed_submission}
use Rattle.task_steps.specs.Answers.{Does}

-- by what tasks know of the devices: a bio is with the driver of its device, while these wait
abbrev pub routed_landing : Routing → TaskLists → Item Pad → Submission
routed_landing routing lists item = landed_submission (routing_setup routing) lists item

-- and a mirror copies a bio below this master, from this leg on
abbrev pub routed_copies : Routing → TaskLists → Bio → ℕ → ℕ → Submission
routed_copies routing lists bio master leg = copies (routing_setup routing) lists bio master leg

-- a step of a submission that does this
abbrev pub TurnDoes : {S : Type 0} → Ghosts S → Routing → TaskId → RealDoing → TaskLists → S → RealDoing × Step → TaskLists → S → Type 0
TurnDoes words routing task doing lists old done after new = Does words routing task (doing_of doing) lists old done after new

-- a step of the driver of a bio's device, which asks for this, and one that does so whatever is known of the devices
abbrev pub AskDoes : {S : Type 0} → Ghosts S → Routing → TaskId → Element (BioBody Pad) → DriverAsk → TaskLists → S → RealDoing × Step → TaskLists → S → Type 0
AskDoes words routing task bio ask lists old done after new = Does words routing task (asking bio ask) lists old done after new

abbrev pub AskAlwaysDoes : {S : Type 0} → Ghosts S → TaskId → Element (BioBody Pad) → DriverAsk → TaskLists → S → RealDoing × Step → TaskLists → S → Type 0
AskAlwaysDoes words task bio ask lists old done after new = (routing : Routing) → AskDoes words routing task bio ask lists old done after new

-- the same of a driver that cuts its bio, and wants this for the first piece
abbrev pub CutDoes : {S : Type 0} → Ghosts S → Routing → TaskId → Element (BioBody Pad) → RealWant → TaskLists → S → RealDoing × Step → TaskLists → S → Type 0
CutDoes words routing task bio want lists old done after new = Does words routing task (cutting bio want) lists old done after new

abbrev pub CutAlwaysDoes : {S : Type 0} → Ghosts S → TaskId → Element (BioBody Pad) → RealWant → TaskLists → S → RealDoing × Step → TaskLists → S → Type 0
CutAlwaysDoes words task bio want lists old done after new = (routing : Routing) → CutDoes words routing task bio want lists old done after new

-- and of a mirror that copies a bio, and wants this for the next leg
abbrev pub LegDoes : {S : Type 0} → Ghosts S → Routing → TaskId → Copying → RealWant → TaskLists → S → RealDoing × Step → TaskLists → S → Type 0
LegDoes words routing task run want lists old done after new = Does words routing task (copying run want) lists old done after new

abbrev pub LegAlwaysDoes : {S : Type 0} → Ghosts S → TaskId → Copying → RealWant → TaskLists → S → RealDoing × Step → TaskLists → S → Type 0
LegAlwaysDoes words task run want lists old done after new = (routing : Routing) → LegDoes words routing task run want lists old done after new

-- a disk's driver pushes its bio to the disk
abbrev pub PushDoes : {S : Type 0} → Ghosts S → Routing → TaskId → Element (BioBody Pad) → TaskLists → S → RealDoing × Step → TaskLists → S → Type 0
PushDoes words routing task bio lists old done after new = Does words routing task (asking bio ask.ToPush) lists old done after new

-- a driver that has a bio at hand for the first piece cuts it off
abbrev pub CutsOff : {S : Type 0} → Ghosts S → Routing → TaskId → Element (BioBody Pad) → Element (BioBody Pad) → TaskLists → S → RealDoing × Step → TaskLists → S → Type 0
CutsOff words routing task bio hand lists old done after new = Does words routing task (cutting bio (want.Links hand)) lists old done after new

-- a mirror's driver that has a record for its bio opens the master, below which the bio fans out into legs
abbrev pub FansOut : {S : Type 0} → Ghosts S → Routing → TaskId → Element (BioBody Pad) → Element Slip → TaskLists → S → RealDoing × Step → TaskLists → S → Type 0
FansOut words routing task bio slip lists old done after new = Does words routing task (asking bio (ask.ToMaster slip)) lists old done after new

-- a mirror that has a bio at hand for the next leg adds the leg
abbrev pub AddsLeg : {S : Type 0} → Ghosts S → Routing → TaskId → Copying → Element (BioBody Pad) → TaskLists → S → RealDoing × Step → TaskLists → S → Type 0
AddsLeg words routing task run hand lists old done after new = Does words routing task (copying run (want.Links hand)) lists old done after new
