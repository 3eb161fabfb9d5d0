-- What tasks have in hand: elements of just the pools that they asked, and bios of just the disks that completed them.
use Rattle.std.specs.Prelude.{◌≡◌, ◌<◌, ℕ}
use Rattle.stack_base.specs.declared.ids.DevId.{DevId}
use Rattle.stack_base.specs.declared.ids.PoolId.TheVariants.{FsBios, FsVecs, Bios, Records}
use Rattle.stack_base.specs.declared.ids.Status.{Status}
use Rattle.stack_base.specs.PoolId.{pool_number}
use Rattle.stack_base.specs.Tree.{Tree, Leaf, Split, Mirrored}
use Rattle.layout_model.specs.declared.fragment.Fragment.{Fragment}
use Rattle.run_machine.specs.Scene.{Setup, Scene, tree_at}
use Rattle.run_machine.specs.Submissions.{Want, Takes, WantsPunt, Links, Driving, ToPush, ToCut, ToRecord, ToMaster, Doing, Rests, Drives, Copies, Breaks, Submission, rests, legs_of}
use Rattle.run_machine.specs.Tasks.{Gathered, NoBio, HasBio, HasBoth, Carried, Empty, Brings, Carries, Fails, TaskState, Writer, Rescuer, Completer, Keeper}
use Rattle.run_machine.specs.Runs.{State}
use Rattle.block_core.specs.Fragments.{fragment_of}
use Rattle.block_core.specs.Levels.{HoldsOneLevel}

-- a writer that has something in hand for its next write has it of the writers' pools, and submits nothing
abbrev pub GatheredIsRight : Gathered → Submission → Type 0
GatheredIsRight NoBio submission = Unit {0}
GatheredIsRight (HasBio bio) submission = (bio.share.no ≡ pool_number FsBios) × (submission ≡ rests)
GatheredIsRight (HasBoth bio vector) submission = (bio.share.no ≡ pool_number FsBios) × (vector.share.no ≡ pool_number FsVecs) × (submission ≡ rests)

-- a driver with a bio in hand has it of its device's set
abbrev pub WantIsRight : DevId → Want → Type 0
WantIsRight dev (Takes waits) = Unit {0}
WantIsRight dev WantsPunt = Unit {0}
WantIsRight dev (Links hand) = hand.share.no ≡ pool_number (Bios dev)

-- a disk's driver pushes, one that cuts asks for a bio, and a mirror's for a record, which is of its device's
abbrev pub AskIsRight : Tree → DevId → Driving → Type 0
AskIsRight (Leaf number sectors) dev ToPush = Unit {0}
AskIsRight (Split number kind sizes members) dev (ToCut want) = WantIsRight dev want
AskIsRight (Mirrored number sizes members) dev ToRecord = Unit {0}
AskIsRight (Mirrored number sizes members) dev (ToMaster slip) = slip.share.no ≡ pool_number (Records dev)
AskIsRight t dev ask = ⊥

-- and while a mirror copies a bio, legs are left to be made
abbrev pub DoingIsRight : Setup → Doing → Type 0
DoingIsRight setup Rests = Unit {0}
DoingIsRight setup (Drives bio ask) = AskIsRight (tree_at setup bio.bio.dev) bio.bio.dev ask
DoingIsRight setup (Copies bio master leg want) = (leg < legs_of (tree_at setup bio.dev)) × WantIsRight bio.dev want
DoingIsRight setup (Breaks breach kept) = ⊥

-- A completer brings a bio that is at its own disk, with the end of the fragment that the bio is. What it still holds of a closed node is of pools of one
-- level, as what an open node holds. It never fails.
abbrev pub CarriedIsRight : (Fragment → Status) → DevId → Carried → Type 0
CarriedIsRight ends disk Empty = Unit {0}
CarriedIsRight ends disk (Brings bio status) = (bio.bio.dev.0 ≡ disk.0) × (status ≡ ends (fragment_of bio.bio))
CarriedIsRight ends disk (Carries writer closed) = HoldsOneLevel closed.held
CarriedIsRight ends disk (Fails breach kept) = ⊥

abbrev pub HandIsRight : Setup → (Fragment → Status) → TaskState → Type 0
HandIsRight setup ends (Writer number todo taken submission) = GatheredIsRight taken submission × DoingIsRight setup submission.doing
HandIsRight setup ends (Rescuer dev submission) = DoingIsRight setup submission.doing
HandIsRight setup ends (Completer disk carried) = CarriedIsRight ends disk carried
HandIsRight setup ends (Keeper keeping) = Unit {0}

-- so it is with each task, where fragments end so
abbrev pub HandsAreRight : Scene → (Fragment → Status) → State → Type 0
HandsAreRight scene ends state = (place : ℕ) → HandIsRight scene.setup ends (state.task place)
