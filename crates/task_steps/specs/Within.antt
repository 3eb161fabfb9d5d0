-- Bios within the devices of a stack, and submissions that have no others.
use Rattle.std.specs.Prelude.{◌≡◌, ◌+◌, ◌<◌, ◌≤◌, ◌==◌, ℕ, Bool, true, false, All, List, length, Option, None, Some}
use Rattle.std.specs.Option.{option_map_or}
use Rattle.stack_base.specs.declared.ids.Range.{Range}
use Rattle.stack_base.specs.declared.stack.Stack.{Stack}
use Rattle.stack_base.specs.Mapping.{slot}
use Rattle.stack_base.specs.Tree.{Tree, Leaf, Split, Mirrored, size, tree}
use Rattle.stack_base.specs.Stack.{IsStack}
use Rattle.layout_model.specs.Writes.{IsWrite}
use Rattle.bio_records.specs.declared.bio.Bio.{Bio}
use Rattle.bio_records.specs.declared.bio.Pad.{Pad}
use Rattle.bio_records.specs.declared.tasks.TaskLists.{TaskLists}
use Rattle.bio_records.specs.Items.{Item}
use Rattle.task_steps.specs.declared.routes.Cut.{Cut}
use Rattle.run_machine.specs.Scene.{tree_number, keeps_data, is_mirror, setup_of}
use Rattle.run_machine.specs.Requests.{Request, Reply, Punt, Popped}
use Rattle.run_machine.specs.Submissions.{Driving, ToPush, ToCut, ToRecord, ToMaster, Doing, Rests, Drives, Copies, Breaks, Submission, first_length, legs_of, settled, submission_request, submission_answered, is_cut}
use Rattle.run_machine.specs.Tasks.{Todo, TaskState, Writer, Rescuer, Completer, Keeper, request, answered}

-- a bio with a sector, that ends within its device, which is one of the stack
pub record IsWithinDevice (stack : Stack) (bio : Bio) : Type 0 where
  pub device : bio.dev.0 < length stack.devices.items
  pub some : 1 ≤ bio.range.len
  pub within : bio.range.start + bio.range.len ≤ size (tree stack bio.dev.0)

abbrev pub IsItemWithin : Stack → Item Pad → Type 0
IsItemWithin stack item = IsWithinDevice stack item.bio

abbrev pub AreWithin : Stack → List (Item Pad) → Type 0
AreWithin stack items = All (IsItemWithin stack) items

-- each bio that waits
abbrev pub ListsAreWithin : Stack → TaskLists → Type 0
ListsAreWithin stack lists = AreWithin stack lists.list0 × AreWithin stack lists.list1

-- the first piece of a run at a device that cuts: how long it is, and where it goes. Other devices have none
abbrev pub first_cut : Tree → Range → Option Cut
first_cut (Leaf number sectors) range = None
first_cut (Mirrored number sizes members) range = None
first_cut (Split number kind sizes members) range =
    let to = slot kind sizes range.start in
    Some (record { sectors = first_length kind sizes range; dev = record { 0 = tree_number (members to.member) }; start = to.at })

-- whether a run is one piece at a device that cuts, which hands it on as it is, and whether it is more than one
abbrev pub is_handed_on : Tree → Range → Bool
is_handed_on t range = option_map_or (λ (cut : Cut). cut.sectors == range.len) (first_cut t range) false

-- whether a device with this tree can be asked so for such a run
abbrev pub AskFits : Tree → Range → Driving → Type 0
AskFits t range ToPush = keeps_data t ≡ true
AskFits t range (ToCut want) = is_cut t range ≡ true
AskFits t range ToRecord = is_mirror t ≡ true
AskFits t range (ToMaster slip) = is_mirror t ≡ true

-- the bio at hand is within its device, and this is one that does so with it
abbrev pub DoingFits : Stack → Doing → Type 0
DoingFits stack Rests = Unit {0}
DoingFits stack (Breaks breach kept) = Unit {0}
DoingFits stack (Drives item ask) = IsWithinDevice stack item.bio × AskFits (tree stack item.bio.dev.0) item.bio.range ask
DoingFits stack (Copies bio master leg want) = IsWithinDevice stack bio × (leg < legs_of (tree stack bio.dev.0))

-- a submission whose bios are all within their devices
pub record SubmissionIsWithin (stack : Stack) (submission : Submission) : Type 0 where
  pub doing : DoingFits stack submission.doing
  pub lists : ListsAreWithin stack submission.lists

-- a task whose bios are all within their devices, as its writes are
abbrev pub TaskIsWithin : Stack → TaskState → Type 0
TaskIsWithin stack (Writer number todo taken submission) = All (λ (todo : Todo). IsWrite stack todo.write) todo × SubmissionIsWithin stack submission
TaskIsWithin stack (Rescuer dev submission) = SubmissionIsWithin stack submission
TaskIsWithin stack (Completer disk carried) = Unit {0}
TaskIsWithin stack (Keeper keeping) = Unit {0}

-- what a task hands to a rescuer, and what a rescuer takes
abbrev pub AskedFits : Stack → Request → Type 0
AskedFits stack (Punt dev moved) = AreWithin stack moved
AskedFits stack request = Unit {0}

abbrev pub ReplyFits : Stack → Reply → Type 0
ReplyFits stack (Popped bio) = IsWithinDevice stack bio.bio
ReplyFits stack reply = Unit {0}

-- A submission of such bios stays one, whatever is replied: no element that is taken has a run of its own. What it punts is within too.
pub record SubmissionsStayWithin : Type 0 where
  pub settles : (stack : Stack) (places : ℕ → ℕ) (items : List (Item Pad)) → IsStack stack → AreWithin stack items
      → SubmissionIsWithin stack (settled (setup_of stack places) items)
  pub goes_on : (stack : Stack) (places : ℕ → ℕ) (submission : Submission) (reply : Reply) → IsStack stack → SubmissionIsWithin stack submission
      → SubmissionIsWithin stack (submission_answered (setup_of stack places) submission.doing submission.lists reply)
  pub asks : (stack : Stack) (places : ℕ → ℕ) (submission : Submission) → SubmissionIsWithin stack submission
      → AskedFits stack (submission_request (setup_of stack places) submission.doing submission.lists)

-- so a task of such bios stays one, if a rescuer takes none but such, and what it punts is such
pub record TasksStayWithin : Type 0 where
  pub goes_on : (stack : Stack) (places : ℕ → ℕ) (task : TaskState) (reply : Reply) → IsStack stack → TaskIsWithin stack task → ReplyFits stack reply
      → TaskIsWithin stack (answered (setup_of stack places) task reply)
  pub asks : (stack : Stack) (places : ℕ → ℕ) (task : TaskState) → TaskIsWithin stack task
      → AskedFits stack (request (setup_of stack places) task)
