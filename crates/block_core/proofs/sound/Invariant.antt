-- The invariant of a run's states: what every event keeps.
use Rattle.std.proofs.Common.{◌≡◌, ◌<◌, ◌≤◌, ℕ, [], Option, None, Some}
use Rattle.stack_base.specs.Tree.{Tree, Leaf, Split, Mirrored}
use Rattle.mempool_core.specs.Facts.{AddsUp}
use Rattle.bio_records.specs.declared.bio.Pad.{Pad}
use Rattle.bio_records.specs.declared.tasks.TaskLists.{TaskLists}
use Rattle.bio_records.specs.Items.{Item}
use Rattle.bio_lists.specs.Submission.{no_lists}
use Rattle.bio_books.specs.declared.node.Role.{Role}
use Rattle.bio_books.specs.declared.node.Role.TheVariants as role
use Rattle.bio_books.specs.Books.{Node, node_at}
use Rattle.run_machine.specs.Scene.{Setup, Scene, tree_at}
use Rattle.run_machine.specs.Submissions.{Driving, ToPush, ToCut, ToRecord, ToMaster, Doing, Rests, Drives, Copies, Breaks, Submission, rests, legs_of}
use Rattle.run_machine.specs.Tasks.{TaskState, Writer, Rescuer, Completer, Keeper, Keeping, Keeps, Stops, Gathered, NoBio, HasBio, HasBoth}
use Rattle.run_machine.specs.Runs.{State}
use Rattle.block_core.specs.Weights.{total_weight, elements_of_pool}
use Rattle.block_core.proofs.moves.References.{references, awaited_ends}
use Rattle.block_core.specs.Roles.{named}

abbrev pub away : Option (Item Pad) → ℕ
away None = 1
away (Some bio) = 0

-- 1 where the node's own part did not come back; a master has no part of its own
abbrev pub own_part : Role → Option (Item Pad) → ℕ
own_part role.Top part = away part
own_part (role.Chain parent) part = away part
own_part (role.Master parent) part = 0
own_part (role.Leg parent) part = away part

abbrev pub own_of : Option Node → ℕ
own_of None = 0
own_of (Some node) = own_part node.role node.held.bio

-- what is asked suits the device
abbrev pub Suits : Tree → Driving → Type 0
Suits (Leaf number sectors) ToPush = Unit {0}
Suits (Split number kind sizes members) (ToCut want) = Unit {0}
Suits (Mirrored number sizes members) ToRecord = Unit {0}
Suits (Mirrored number sizes members) (ToMaster slip) = Unit {0}
Suits t ask = ⊥

abbrev pub DoingFits : Setup → Doing → TaskLists → Type 0
DoingFits setup Rests lists = lists ≡ no_lists
DoingFits setup (Drives bio ask) lists = Suits (tree_at setup bio.bio.dev) ask
DoingFits setup (Copies bio master leg want) lists = leg < legs_of (tree_at setup bio.dev)
DoingFits setup (Breaks breach kept) lists = ⊥

abbrev pub SubmissionFits : Setup → Submission → Type 0
SubmissionFits setup submission = DoingFits setup submission.doing submission.lists

-- a writer has something in hand only where nothing is submitted
abbrev pub HandFits : Gathered → Submission → Type 0
HandFits NoBio submission = Unit {0}
HandFits (HasBio item) submission = submission ≡ rests
HandFits (HasBoth item vector) submission = submission ≡ rests

-- the keeper met no pool with an element out
abbrev pub GoesOn : Keeping → Type 0
GoesOn (Keeps duties) = Unit {0}
GoesOn (Stops breach) = ⊥

abbrev pub TaskIsSound : Scene → TaskState → Type 0
TaskIsSound scene (Writer number todo taken submission) = (number < scene.books) × SubmissionFits scene.setup submission × HandFits taken submission
TaskIsSound scene (Rescuer dev submission) = (dev.0 < scene.setup.count) × SubmissionFits scene.setup submission
TaskIsSound scene (Completer disk carried) = disk.0 < scene.setup.count
TaskIsSound scene (Keeper keeping) = GoesOn keeping

-- the bio that a task has at hand is at a device of the stack
abbrev pub DoingIsIn : Setup → Doing → Type 0
DoingIsIn setup Rests = Unit {0}
DoingIsIn setup (Drives bio ask) = bio.bio.dev.0 < setup.count
DoingIsIn setup (Copies bio master leg want) = bio.dev.0 < setup.count
DoingIsIn setup (Breaks breach kept) = Unit {0}

abbrev pub IsIn : Setup → TaskState → Type 0
IsIn setup (Writer number todo taken submission) = DoingIsIn setup submission.doing
IsIn setup (Rescuer dev submission) = DoingIsIn setup submission.doing
IsIn setup (Completer disk carried) = Unit {0}
IsIn setup (Keeper keeping) = Unit {0}

-- each ledger has the number that it is found by
pub record LedgersAreNumbered (scene : Scene) : Type 0 where
  pub named : (n : ℕ) → (scene.ledger n).no ≡ n

pub record Invariant (scene : Scene) (s : State) : Type 0 where
  -- each pool adds up, and has as many elements out as there are in all places
  pub pools : (p : ℕ) → AddsUp (s.objects.pool p).facts
  pub outs : (p : ℕ) → (s.objects.pool p).facts.out ≡ total_weight scene (elements_of_pool p) s
  -- a node waits for as many ends as there are references to it, and nothing refers to one that is not open
  pub counts : (w k : ℕ) → awaited_ends (node_at (s.objects.book w) k) ≡ total_weight scene (references scene.setup w k) s
  -- a node's own part is away exactly where one bio names it
  pub owns : (w k : ℕ) → own_of (node_at (s.objects.book w) k) ≡ total_weight scene (named w k) s
  pub inside : (w : ℕ) → scene.books ≤ w → (s.objects.book w).nodes ≡ []
  -- what each task has is in order, and at a device of the stack
  pub tasks : (place : ℕ) → TaskIsSound scene (s.task place)
  pub devices : (place : ℕ) → IsIn scene.setup (s.task place)
