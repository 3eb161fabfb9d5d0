-- A submission without its boxes.
use Rattle.std.specs.Prelude.{◌++◌, List, [], ◌∷◌, map, Bool, true, false, Option, None, Some, Result, Ok, Err}
use Rattle.stack_base.specs.declared.ids.DevId.{DevId}
use Rattle.elem_ledger.specs.declared.element.Element.{Element}
use Rattle.bio_records.specs.declared.bio.Pad.{Pad}
use Rattle.bio_records.specs.declared.body.BioBody.{BioBody}
use Rattle.bio_records.specs.declared.tasks.TaskLists.{TaskLists}
use Rattle.bio_records.specs.Items.{Item, item_of, IsAlone}
use Rattle.bio_books.specs.Views.{slip_item, bio_of, holding_of}
use Rattle.task_steps.specs.declared.submission.Kept.{Kept as RealKept}
use Rattle.task_steps.specs.declared.submission.HandedBack.{HandedBack}
use Rattle.task_steps.specs.declared.submission.HandedBack.TheVariants as back
use Rattle.task_steps.specs.declared.submission.Want.{Want as RealWant}
use Rattle.task_steps.specs.declared.objects.Unmade.{Unmade}
use Rattle.task_steps.specs.declared.objects.Unmade.TheVariants as unmade
use Rattle.task_steps.specs.declared.step.Step.{Step}
use Rattle.task_steps.specs.declared.submission.Want.TheVariants as want
use Rattle.task_steps.specs.declared.submission.DriverAsk.{DriverAsk}
use Rattle.task_steps.specs.declared.submission.DriverAsk.TheVariants as ask
use Rattle.task_steps.specs.declared.submission.Doing.{Doing as RealDoing}
use Rattle.task_steps.specs.declared.submission.Doing.TheVariants as doing
use Rattle.task_steps.specs.declared.submission.mirror.Copying.{Copying}
use Rattle.run_machine.specs.Kept.{Kept, KeptBio, KeptVec, KeptSlip, bio_kept, holding_kept, opening_kept}
use Rattle.task_steps.specs.Views.{vec_item, opening_of}
use Rattle.run_machine.specs.Submissions.{Want, Takes, WantsPunt, Links, Driving, ToPush, ToCut, ToRecord, ToMaster, Doing, Rests, Drives, Copies, Breaks, Submission, landed_doing}
use Rattle.run_machine.specs.Scene.{Setup}

abbrev pub want_of : RealWant → Want
want_of (want.Takes waits) = Takes waits
want_of want.Punts = WantsPunt
want_of (want.Links hand) = Links (item_of hand)

abbrev pub ask_of : DriverAsk → Driving
ask_of ask.ToPush = ToPush
ask_of (ask.ToCut want) = ToCut (want_of want)
ask_of ask.ToRecord = ToRecord
ask_of (ask.ToMaster slip) = ToMaster (slip_item slip)

-- what came back of a call
abbrev pub unmade_kept : Unmade → List Kept
unmade_kept unmade.Nothing = []
unmade_kept (unmade.Bio bio) = KeptBio (item_of bio) ∷ []
unmade_kept (unmade.Vec vector) = KeptVec (vec_item vector) ∷ []
unmade_kept (unmade.Slip slip) = KeptSlip (slip_item slip) ∷ []
unmade_kept (unmade.List bios) = map KeptBio bios
unmade_kept (unmade.Ask ask) = opening_kept (opening_of ask)

abbrev pub back_kept : HandedBack → List Kept
back_kept (back.Unmade unmade) = unmade_kept unmade
back_kept (back.Unlinked held) = holding_kept (holding_of held)

abbrev pub kept_of : RealKept → List Kept
kept_of kept = bio_kept (bio_of kept.bio) ++ (bio_kept (bio_of kept.hand) ++ back_kept kept.back)

abbrev pub doing_of : RealDoing → Doing
doing_of doing.Rests = Rests
doing_of (doing.Drives bio ask) = Drives (item_of bio) (ask_of ask)
doing_of (doing.Copies bio master leg want) = Copies bio master leg (want_of want)
doing_of (doing.Breaks breach kept) = Breaks breach (kept_of kept)

-- the driver of a bio's device asks for this, one that cuts wants this for the first piece, and a mirror wants this for a leg of a copy
abbrev pub asking : Element (BioBody Pad) → DriverAsk → Doing
asking bio ask = Drives (item_of bio) (ask_of ask)

abbrev pub cutting : Element (BioBody Pad) → RealWant → Doing
cutting bio want = Drives (item_of bio) (ToCut (want_of want))

abbrev pub copying : Copying → RealWant → Doing
copying run want = Copies run.bio run.master run.leg (want_of want)

-- the device of whose set a bio is taken next, and whether it is waited for, if that is next
abbrev pub attempt_of : Doing → Option (DevId × Bool)
attempt_of (Drives bio (ToCut (Takes waits))) = Some (bio.bio.dev, waits)
attempt_of (Copies bio master leg (Takes waits)) = Some (bio.dev, waits)
attempt_of doing = None

-- the same with something else that is wanted
abbrev pub wanting : Doing → Want → Doing
wanting (Drives bio ask) want = Drives bio (ToCut want)
wanting (Copies bio master leg was) want = Copies bio master leg want
wanting doing want = doing

abbrev pub submission_of : RealDoing → TaskLists → Submission
submission_of doing lists = record { doing = doing_of doing; lists = lists }

-- the driver of a bio's device has it, while these wait
abbrev pub landed_submission : Setup → TaskLists → Item Pad → Submission
landed_submission setup lists item = record { doing = landed_doing setup lists item; lists = lists }

-- no element that is at hand is in a list
abbrev pub IsWantAlone : RealWant → Type 0
IsWantAlone (want.Takes waits) = Unit {0}
IsWantAlone want.Punts = Unit {0}
IsWantAlone (want.Links hand) = IsAlone hand

abbrev pub IsAttemptAlone : Result (RealWant × Step) Unmade → Type 0
IsAttemptAlone (Ok made) = IsWantAlone made.0
IsAttemptAlone (Err back) = Unit {0}

abbrev pub IsAskOfAlone : DriverAsk → Type 0
IsAskOfAlone ask.ToPush = Unit {0}
IsAskOfAlone (ask.ToCut want) = IsWantAlone want
IsAskOfAlone ask.ToRecord = Unit {0}
IsAskOfAlone (ask.ToMaster slip) = Unit {0}

abbrev pub IsDoingAlone : RealDoing → Type 0
IsDoingAlone doing.Rests = Unit {0}
IsDoingAlone (doing.Drives bio ask) = IsAlone bio × IsAskOfAlone ask
IsDoingAlone (doing.Copies bio master leg want) = IsWantAlone want
IsDoingAlone (doing.Breaks breach kept) = Unit {0}

-- whether a submission has something to ask for
abbrev pub is_asking : Doing → Bool
is_asking Rests = false
is_asking (Drives bio ask) = true
is_asking (Copies bio master leg want) = true
is_asking (Breaks breach kept) = false

-- whether it is over
abbrev pub is_over : Doing → Bool
is_over Rests = true
is_over (Drives bio ask) = false
is_over (Copies bio master leg want) = false
is_over (Breaks breach kept) = false
