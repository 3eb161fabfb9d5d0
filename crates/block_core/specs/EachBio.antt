-- A fact of each bio at work.
use Rattle.std.specs.Prelude.{◌<◌, ℕ, All}
use Rattle.bio_records.specs.declared.bio.Bio.{Bio}
use Rattle.bio_records.specs.declared.bio.Pad.{Pad}
use Rattle.bio_records.specs.Items.{Item}
use Rattle.run_machine.specs.Scene.{Scene}
use Rattle.run_machine.specs.Submissions.{Doing, Rests, Drives, Copies, Breaks, Submission}
use Rattle.run_machine.specs.Tasks.{Carried, Empty, Brings, Carries, Fails, TaskState, Writer, Rescuer, Completer, Keeper}
use Rattle.run_machine.specs.Runs.{State}

abbrev pub DoingHas : (Item Pad → Type 0) → Doing → Type 0
DoingHas P Rests = Unit {0}
DoingHas P (Drives bio ask) = P bio
DoingHas P (Copies bio master leg want) = Unit {0}
DoingHas P (Breaks breach kept) = Unit {0}

abbrev pub SubmissionHas : (Item Pad → Type 0) → Submission → Type 0
SubmissionHas P submission = DoingHas P submission.doing × All P submission.lists.list0 × All P submission.lists.list1

abbrev pub CarriedHas : (Item Pad → Type 0) → Carried → Type 0
CarriedHas P Empty = Unit {0}
CarriedHas P (Brings bio status) = P bio
CarriedHas P (Carries writer closed) = Unit {0}
CarriedHas P (Fails breach kept) = Unit {0}

abbrev pub TaskHas : (Item Pad → Type 0) → TaskState → Type 0
TaskHas P (Writer number todo taken submission) = SubmissionHas P submission
TaskHas P (Rescuer dev submission) = SubmissionHas P submission
TaskHas P (Completer disk carried) = CarriedHas P carried
TaskHas P (Keeper keeping) = Unit {0}

-- in the submission of a task or in its completer's hand, in rescue lists and in disks
pub record EachBio (P : Item Pad → Type 0) (scene : Scene) (state : State) : Type 0 where
  pub tasks : (place : ℕ) → place < scene.tasks → TaskHas P (state.task place)
  pub rescued : (dev : ℕ) → dev < scene.setup.count → All P (state.objects.rescue dev)
  pub pending : (dev : ℕ) → dev < scene.setup.count → All P (state.objects.disk dev).pending

-- and a fact of the bio that a mirror copies, which waits in the node that it names while its legs are made, and of the place of its master
abbrev pub DoingCopies : (Bio → ℕ → Type 0) → Doing → Type 0
DoingCopies P Rests = Unit {0}
DoingCopies P (Drives bio ask) = Unit {0}
DoingCopies P (Copies bio master leg want) = P bio master
DoingCopies P (Breaks breach kept) = Unit {0}

abbrev pub TaskCopies : (Bio → ℕ → Type 0) → TaskState → Type 0
TaskCopies P (Writer number todo taken submission) = DoingCopies P submission.doing
TaskCopies P (Rescuer dev submission) = DoingCopies P submission.doing
TaskCopies P (Completer disk carried) = Unit {0}
TaskCopies P (Keeper keeping) = Unit {0}

abbrev pub EachCopied : (Bio → (master : ℕ) → Type 0) → Scene → State → Type 0
EachCopied P scene state = (place : ℕ) → place < scene.tasks → TaskCopies P (state.task place)
