-- The order of bios in the lists of tasks and of rescuers, by the devices that they are at and the sets that they are of.
use Rattle.std.specs.Prelude.{◌≡◌, ◌<◌, ℕ, List, [], ◌∷◌, All, Some}
use Rattle.stack_base.specs.declared.ids.SetId.{SetId}
use Rattle.stack_base.specs.declared.ids.SetId.TheVariants.{Fs, Of}
use Rattle.bio_records.specs.declared.bio.Pad.{Pad}
use Rattle.bio_records.specs.declared.tasks.TaskLists.{TaskLists}
use Rattle.bio_records.specs.Items.{Item}
use Rattle.bio_lists.specs.Submission.{no_lists}
use Rattle.bio_books.specs.declared.node.Role.TheVariants as role
use Rattle.bio_books.specs.Books.{Node, node_at}
use Rattle.run_machine.specs.Scene.{Scene}
use Rattle.run_machine.specs.Submissions.{Doing, Rests, Drives, Copies, Breaks}
use Rattle.run_machine.specs.Tasks.{TaskState, Writer, Rescuer, Completer, Keeper}
use Rattle.run_machine.specs.Runs.{State}

-- the set of the writers is above all devices, and that of a device above those of lower numbers
abbrev pub IsAbove : SetId → ℕ → Type 0
IsAbove Fs dev = Unit {0}
IsAbove (Of other) dev = dev < other.0

abbrev pub AreAbove : ℕ → List (Item Pad) → Type 0
AreAbove dev items = All (λ (item : Item Pad). IsAbove item.bio.set dev) items

-- the set of each is above the devices of those before it
abbrev pub GoUp : List (Item Pad) → Type 0
GoUp [] = Unit {0}
GoUp (item ∷ items) = AreAbove item.bio.dev.0 items × GoUp items

-- the set is that of the device of this number
abbrev pub IsSetOf : ℕ → SetId → Type 0
IsSetOf dev Fs = ⊥
IsSetOf dev (Of other) = other.0 ≡ dev

-- a bio of a device's own set, which is at a lower device
abbrev pub IsOwnBelow : ℕ → Item Pad → Type 0
IsOwnBelow dev item = IsSetOf dev item.bio.set × (item.bio.dev.0 < dev)

-- a bio whose node is a leg of this master
abbrev pub IsLegOf : State → (writer master : ℕ) → Item Pad → Type 0
IsLegOf state writer master item =
    (item.bio.writer ≡ writer) × ((node : Node) × (node_at (state.objects.book writer) item.bio.node ≡ Some node) × (node.role ≡ role.Leg master))

-- While a bio is with the driver of its device, its set is above the device, and so are those of all that waits in list 1. List 0 is what the
-- driver has submitted meanwhile: nothing, or the legs that a mirror has made of this bio so far.
abbrev pub DoingInOrder : State → Doing → TaskLists → Type 0
DoingInOrder state Rests lists = lists ≡ no_lists
DoingInOrder state (Drives bio ask) lists = IsAbove bio.bio.set bio.bio.dev.0 × (lists.list0 ≡ []) × AreAbove bio.bio.dev.0 lists.list1 × GoUp lists.list1
DoingInOrder state (Copies bio master leg want) lists =
    IsAbove bio.set bio.dev.0 × All (λ item. IsLegOf state bio.writer master item × IsOwnBelow bio.dev.0 item) lists.list0
    × AreAbove bio.dev.0 lists.list1 × GoUp lists.list1
DoingInOrder state (Breaks breach kept) lists = ⊥

-- all that a rescuer has is below the device of its set
abbrev pub DoingBelow : ℕ → Doing → Type 0
DoingBelow dev Rests = Unit {0}
DoingBelow dev (Drives bio ask) = bio.bio.dev.0 < dev
DoingBelow dev (Copies bio master leg want) = bio.dev.0 < dev
DoingBelow dev (Breaks breach kept) = Unit {0}

abbrev pub AreBelow : ℕ → List (Item Pad) → Type 0
AreBelow dev items = All (λ (item : Item Pad). item.bio.dev.0 < dev) items

abbrev pub TaskInOrder : State → TaskState → Type 0
TaskInOrder state (Writer number todo taken submission) = DoingInOrder state submission.doing submission.lists
TaskInOrder state (Rescuer dev submission) =
    DoingInOrder state submission.doing submission.lists × DoingBelow dev.0 submission.doing × AreBelow dev.0 submission.lists.list0 × AreBelow dev.0 submission.lists.list1
TaskInOrder state (Completer disk carried) = Unit {0}
TaskInOrder state (Keeper keeping) = Unit {0}

pub record AreInListOrder (scene : Scene) (state : State) : Type 0 where
  pub tasks : (place : ℕ) → place < scene.tasks → TaskInOrder state (state.task place)
  -- what waits for the rescuer of a device's set is of that set, and below the device
  pub rescued : (dev : ℕ) → All (IsOwnBelow dev) (state.objects.rescue dev)
