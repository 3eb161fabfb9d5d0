-- Where bios are at work.
use Rattle.std.specs.Prelude.{◌≡◌, ◌<◌, ◌⊎◌, ℕ, Contains}
use Rattle.stack_base.specs.declared.ids.DevId.{DevId}
use Rattle.bio_records.specs.declared.bio.Pad.{Pad}
use Rattle.bio_records.specs.Items.{Item}
use Rattle.run_machine.specs.Scene.{Scene}
use Rattle.run_machine.specs.Submissions.{Doing, Rests, Drives, Copies, Breaks, Submission}
use Rattle.run_machine.specs.Tasks.{Carried, Empty, Brings, Carries, Fails, TaskState, Writer, Rescuer, Completer, Keeper}
use Rattle.run_machine.specs.Runs.{State}

-- a bio is with a driver, in the lists of a task, or in a completer's hand,
abbrev pub DoingHolds : Item Pad → Doing → Type 0
DoingHolds item Rests = ⊥
DoingHolds item (Drives bio ask) = bio ≡ item
DoingHolds item (Copies bio master leg want) = ⊥
DoingHolds item (Breaks breach kept) = ⊥

abbrev pub SubmissionHolds : Item Pad → Submission → Type 0
SubmissionHolds item submission = DoingHolds item submission.doing ⊎ Contains submission.lists.list0 item ⊎ Contains submission.lists.list1 item

abbrev pub CarriedHolds : Item Pad → Carried → Type 0
CarriedHolds item Empty = ⊥
CarriedHolds item (Brings bio status) = bio ≡ item
CarriedHolds item (Carries writer closed) = ⊥
CarriedHolds item (Fails breach kept) = ⊥

-- this is the submission of a task
abbrev pub SubmissionOf : TaskState → Submission → Type 0
SubmissionOf (Writer number todo taken submission) other = submission ≡ other
SubmissionOf (Rescuer dev submission) other = submission ≡ other
SubmissionOf (Completer disk carried) other = ⊥
SubmissionOf (Keeper keeping) other = ⊥

abbrev pub IsInSubmission : Scene → State → Item Pad → Type 0
IsInSubmission scene state item = (place : ℕ) × (submission : Submission) × (place < scene.tasks) × SubmissionOf (state.task place) submission × SubmissionHolds item submission

abbrev pub IsBrought : Scene → State → Item Pad → Type 0
IsBrought scene state item =
    (place : ℕ) × (disk : DevId) × (carried : Carried) × (place < scene.tasks) × (state.task place ≡ Completer disk carried) × CarriedHolds item carried

-- in a rescue list, or in a disk
abbrev pub IsRescued : Scene → State → Item Pad → Type 0
IsRescued scene state item = (dev : ℕ) × (dev < scene.setup.count) × Contains (state.objects.rescue dev) item

abbrev pub IsInDisk : Scene → State → Item Pad → Type 0
IsInDisk scene state item = (dev : ℕ) × (dev < scene.setup.count) × Contains (state.objects.disk dev).pending item

-- anywhere of these
abbrev pub IsAtWork : Scene → State → Item Pad → Type 0
IsAtWork scene state item = IsInSubmission scene state item ⊎ IsBrought scene state item ⊎ IsRescued scene state item ⊎ IsInDisk scene state item
