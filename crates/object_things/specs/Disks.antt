-- A disk as a thing.
use Rattle.std.specs.Prelude.{◌≡◌, ◌≢◌, ◌≤◌, ◌-◌, ℕ, min, Option, None, Some, IfErr, Result, Ok, Err}
use Rattle.elem_ledger.specs.declared.element.Element.{Element}
use Rattle.bio_records.specs.declared.bio.Pad.{Pad}
use Rattle.bio_records.specs.declared.body.BioBody.{BioBody}
use Rattle.bio_records.specs.Items.{item_of, IsAlone}
use Rattle.model_disks.specs.Disks.{DiskState, waiting_count}
use Rattle.model_disks.specs.Moves.{pushed, Completes}
use Rattle.model_disks.specs.declared.disk.Done.{Done as DoneBio}
use Rattle.task_steps.specs.declared.objects.Unmade.{Unmade}
use Rattle.task_steps.specs.declared.objects.Unmade.TheVariants as unmade
use Rattle.run_machine.specs.Requests.{Request, Reply, Push, Complete, Did, Completed, LeftOver, Nothing, NoTicket}
use Rattle.run_machine.specs.Laws.{OfDisk}
use Rattle.task_steps.specs.Stage.{Stage, RequestFits, Owes}
use Rattle.task_steps.specs.Views.{did, completed_reply, CompletedAlone}
use Rattle.object_things.specs.declared.stamp.Asking.{Asking}
use Rattle.object_things.specs.declared.stamp.Replied.{Replied}
use Rattle.object_things.specs.declared.disk.DiskAsk.{DiskAsk}
use Rattle.object_things.specs.declared.disk.DiskAsk.TheVariants as ask
use Rattle.object_things.specs.declared.disk.DiskSaid.{DiskSaid}
use Rattle.object_things.specs.declared.disk.DiskSaid.TheVariants as said
use Rattle.object_things.specs.Stamps.{Stamped, MarkState, mark_of, Told, ThingState, ThingAnswers, PassByReply, FindsNone, OnlyLooks, stage_in, StampState, or_unmade, thing_state, told_by, AskingFits}

-- a look at a disk asks to complete, too: it is told how many bios wait, and nothing is completed
abbrev pub disk_asked : DiskAsk → Request
disk_asked (ask.Push el) = Push (item_of el)
disk_asked (ask.Look disk) = Complete disk
disk_asked (ask.Complete disk index) = Complete disk

-- what came of a push, as the objects say it: the bio comes back where there was no ticket
abbrev pub push_or_unmade : Result (Unit {0}) (Element (BioBody Pad)) → Result (Unit {0}) Unmade
push_or_unmade (Ok done) = Ok done
push_or_unmade (Err el) = Err (unmade.Bio el)

abbrev pub disk_replied : DiskSaid → Reply
disk_replied (said.Pushed result) = did (push_or_unmade result)
disk_replied (said.Waiting count) = LeftOver count
disk_replied (said.Completed result) = completed_reply (or_unmade result)

abbrev pub disk_told : Replied DiskSaid → Told
disk_told = told_by disk_replied

abbrev pub DiskServes : DiskState → Request → Reply → DiskState → Type 0
DiskServes old (Push bio) Did new = (bio.bio.dev.0 ≡ old.dev.0) × (new ≡ pushed bio old)
DiskServes old (Complete disk) (Completed index bio status) new = (disk.0 ≡ old.dev.0) × Completes old index bio status new
DiskServes old request reply new = ⊥

-- where none waits, nothing needs a ticket
abbrev pub DiskLooks : ThingState DiskState → Request → Reply → ThingState DiskState → Type 0
DiskLooks old (Complete disk) (LeftOver count) new = (count ≡ waiting_count old.object) × OnlyLooks old new
DiskLooks old (Complete disk) Nothing new = (waiting_count old.object ≡ 0) × OnlyLooks old new
DiskLooks old (Push bio) NoTicket new = FindsNone old new
DiskLooks old (Complete disk) NoTicket new = (waiting_count old.object ≢ 0) × FindsNone old new
DiskLooks old request reply new = ⊥

-- the bio at the index that was chosen is completed, or the last one where fewer wait
abbrev pub DiskChooses : DiskState → Reply → Option ℕ → Type 0
DiskChooses old (Completed index bio status) (Some chosen) = index ≡ min chosen (waiting_count old - 1)
DiskChooses old (Completed index bio status) None = ⊥
DiskChooses old reply chosen = Unit {0}

abbrev pub DiskAnswers : ThingState DiskState → Request → Told → ThingState DiskState → Type 0
DiskAnswers = ThingAnswers DiskServes DiskLooks DiskChooses

-- the same of a disk with its stamp, which gave this reply
abbrev pub DiskReplies : DiskState → StampState → Request → Replied DiskSaid → DiskState → StampState → Type 0
DiskReplies old stamp asked replied new after = DiskAnswers (thing_state old stamp) asked (disk_told replied) (thing_state new after)

abbrev pub DiskAskAlone : DiskAsk → Type 0
DiskAskAlone (ask.Push el) = IsAlone el
DiskAskAlone (ask.Look disk) = Unit {0}
DiskAskAlone (ask.Complete disk index) = Unit {0}

abbrev pub DiskFits : MarkState → Asking DiskAsk → Type 0
DiskFits mark asking = AskingFits disk_asked mark asking (RequestFits (stage_in mark.common) (disk_asked asking.ask) × DiskAskAlone asking.ask)

-- the index of what was completed is at most the one that was asked for: fewer may wait by then, and nothing here tells how many
abbrev pub IsUpTo : ℕ → Result (Option (ℕ × DoneBio)) Unmade → Type 0
IsUpTo index (Ok None) = Unit {0}
IsUpTo index (Ok (Some done)) = done.0 ≤ index
IsUpTo index (Err back) = Unit {0}

abbrev pub DiskSays : Stage → DiskAsk → DiskSaid → Type 0
DiskSays stage (ask.Push el) (said.Pushed result) =
    IfErr (push_or_unmade result) (λ back. back ≡ unmade.Bio el) × Owes stage (Push (item_of el)) (did (push_or_unmade result))
DiskSays stage (ask.Look disk) (said.Waiting count) = Unit {0}
DiskSays stage (ask.Complete disk index) (said.Completed result) =
    CompletedAlone (or_unmade result) × IfErr (or_unmade result) (λ back. back ≡ unmade.Nothing) × IsUpTo index (or_unmade result)
    × Owes stage (Complete disk) (completed_reply (or_unmade result))
DiskSays stage asked reply = ⊥

-- the entry of a completion keeps the index that was asked for
abbrev pub KeepsChoice : DiskAsk → Reply → Option ℕ → Type 0
KeepsChoice (ask.Complete disk chosen) (Completed index bio status) kept = kept ≡ Some chosen
KeepsChoice asked reply kept = Unit {0}

pub record DiskOwes (mark : MarkState) (asking : Asking DiskAsk) (replied : Replied DiskSaid) : Type 0 where
  pub pass : PassByReply disk_replied asking.pass replied
  pub says : DiskSays (stage_in mark.common) asking.ask replied.said
  pub choice : KeepsChoice asking.ask (disk_replied replied.said) replied.chosen.value

abbrev pub disk_mark : Stamped DiskState → MarkState
disk_mark held = mark_of (OfDisk held.object.dev.0) held
