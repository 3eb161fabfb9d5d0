-- What nodes keep of how their parts ended, and how what is still to come to them may end, against how the runs may end that they were opened for.
use Rattle.std.specs.Prelude.{◌≡◌, ◌≢◌, ◌<◌, ◌≤◌, ◌⊎◌, ◌↔◌, ℕ, Bool, true, false, IsTrue, List, All, None, Some}
use Rattle.elem_ledger.specs.Ledger.{LedgerId}
use Rattle.stack_base.specs.declared.ids.DevId.{DevId}
use Rattle.stack_base.specs.declared.ids.Status.{Status}
use Rattle.stack_base.specs.declared.ids.Status.TheVariants.{Ok, Io}
use Rattle.stack_base.specs.Tree.{Tree, Leaf, Split, Mirrored}
use Rattle.layout_model.specs.declared.fragment.Fragment.{Fragment}
use Rattle.layout_model.specs.Plan.{plan}
use Rattle.layout_model.specs.May.{may_end, fault_of}
use Rattle.bio_records.specs.declared.bio.Bio.{Bio}
use Rattle.bio_records.specs.declared.bio.Pad.{Pad}
use Rattle.bio_records.specs.Items.{Item}
use Rattle.bio_books.specs.declared.node.Role.TheVariants as role
use Rattle.bio_books.specs.Books.{Node, node_at, parent_of}
use Rattle.bio_books.specs.Drops.{Closed}
use Rattle.run_machine.specs.declared.event.Event.{Event}
use Rattle.run_machine.specs.Scene.{Setup, Scene, tree_at}
use Rattle.run_machine.specs.Submissions.{Want, Copies, Submission, legs_of}
use Rattle.run_machine.specs.Tasks.{Todo, Gathered, Carries, Writer, Completer}
use Rattle.run_machine.specs.Opened.{Scenario, scene, start}
use Rattle.run_machine.specs.Runs.{State, IsRun}
use Rattle.block_core.specs.AtWork.{SubmissionOf, IsBrought, IsInDisk, IsAtWork}
use Rattle.block_core.specs.DoneWrites.{WriteMayEnd}
use Rattle.block_core.specs.Fragments.{offset_of, fragment_of}
use Rattle.block_core.specs.NodeBios.{node_bios, no_bios}
use Rattle.block_core.specs.Scenarios.{IsScenario, IsNaming}
use Rattle.block_core.specs.Touches.{is_master}

-- The run of a bio may end so, where each fragment ends as `ends` says; that of one of the legs of a bio that a mirror copies; and that of a write that
-- is to begin.
abbrev pub BioMayEnd : Setup → (Fragment → Status) → Bio → Status → Type 0
BioMayEnd setup ends bio end = IsTrue (may_end ends (plan (tree_at setup bio.dev) bio.write (offset_of bio) bio.range.start bio.range.len) end)

abbrev pub LegMayEnd : (Fragment → Status) → Tree → Bio → ℕ → Status → Type 0
LegMayEnd ends (Leaf number sectors) bio leg end = ⊥
LegMayEnd ends (Split number kind sizes members) bio leg end = ⊥
LegMayEnd ends (Mirrored number sizes members) bio leg end = IsTrue (may_end ends (plan (members leg) bio.write (offset_of bio) bio.range.start bio.range.len) end)

abbrev pub TodoMayEnd : Setup → (Fragment → Status) → Todo → Status → Type 0
TodoMayEnd setup ends todo end = IsTrue (may_end ends (plan (tree_at setup todo.write.dev) todo.number 0 todo.write.start todo.write.count) end)

-- What a node may be told of, and keep, by how its run may end: a failure only with which the run may end, and for a master, well only where the run may
-- end well.
abbrev pub IsAllowed : (is_master : Bool) → (Status → Type 0) → Status → Type 0
IsAllowed false MayEnd end = (end ≢ Ok) → MayEnd end
IsAllowed true MayEnd end = (end ≡ Ok) → MayEnd Ok

-- What decides how a node ends: something that cannot end well, and for a master something that may.
abbrev pub Decides : (is_master : Bool) → (Status → Type 0) → Type 0
Decides false MayEnd = MayEnd Ok → ⊥
Decides true MayEnd = MayEnd Ok

-- What is still to come to the node at place k of writer w's book, of which this is so, by how it may end: a bio that names the node,
abbrev pub BioComes : Scene → (Fragment → Status) → State → (w k : ℕ) → ((Status → Type 0) → Type 0) → Type 0
BioComes scene ends state w k Is =
    (item : Item Pad) × IsAtWork scene state item × (item.bio.writer ≡ w) × (item.bio.node ≡ k) × Is (BioMayEnd scene.setup ends item.bio)

-- a leg that is still to be made of it,
abbrev pub LegComes : Scene → (Fragment → Status) → State → (w k : ℕ) → ((Status → Type 0) → Type 0) → Type 0
LegComes scene ends state w k Is =
    (place : ℕ) × (submission : Submission) × (bio : Bio) × (next : ℕ) × (want : Want) × (leg : ℕ) × (place < scene.tasks) × SubmissionOf (state.task place) submission
    × (submission.doing ≡ Copies bio k next want) × (bio.writer ≡ w) × (next ≤ leg) × (leg < legs_of (tree_at scene.setup bio.dev))
    × Is (LegMayEnd ends (tree_at scene.setup bio.dev) bio leg)

-- an open node right under it,
abbrev pub NodeComes : Scene → (Fragment → Status) → (ℕ → ℕ → Bio) → State → (w k : ℕ) → ((Status → Type 0) → Type 0) → Type 0
NodeComes scene ends bios state w k Is =
    (place : ℕ) × (node : Node) × (node_at (state.objects.book w) place ≡ Some node) × (parent_of node.role ≡ Some k)
    × Is (BioMayEnd scene.setup ends (bios w place))

-- or what is left of one that has closed
abbrev pub ClosedComes : Scene → State → (w k : ℕ) → ((Status → Type 0) → Type 0) → Type 0
ClosedComes scene state w k Is =
    (place : ℕ) × (disk : DevId) × (closed : Closed) × (place < scene.tasks) × (state.task place ≡ Completer disk (Carries w closed)) × (closed.parent ≡ Some k)
    × Is (λ end. closed.status ≡ end)

abbrev pub Comes : Scene → (Fragment → Status) → (ℕ → ℕ → Bio) → State → (w k : ℕ) → ((Status → Type 0) → Type 0) → Type 0
Comes scene ends bios state w k Is =
    BioComes scene ends state w k Is ⊎ LegComes scene ends state w k Is ⊎ NodeComes scene ends bios state w k Is ⊎ ClosedComes scene state w k Is

-- how the run may end of the bio that the node at place k of writer w's book was opened for
abbrev pub NodeMayEnd : Scenario → Scene → (ℕ → ℕ → Bio) → (w k : ℕ) → Status → Type 0
NodeMayEnd s scene bios w k = BioMayEnd scene.setup (fault_of s.stack) (bios w k)

-- of an open node
pub record NodeIsValued (s : Scenario) (scene : Scene) (bios : ℕ → ℕ → Bio) (state : State) (w k : ℕ) (node : Node) : Type 0 where
  -- it keeps only what it may, and only that comes
  pub kept : IsAllowed (is_master node.role) (NodeMayEnd s scene bios w k) node.status
  pub comes : (end : Status) → Comes scene (fault_of s.stack) bios state w k (λ MayEnd. MayEnd end)
      → IsAllowed (is_master node.role) (NodeMayEnd s scene bios w k) end
  -- where its run is decided, it keeps what decides it, or that still comes
  pub decided : Decides (is_master node.role) (NodeMayEnd s scene bios w k)
      → Decides (is_master node.role) (λ end. node.status ≡ end) ⊎ Comes scene (fault_of s.stack) bios state w k (Decides (is_master node.role))
  -- a run that may end well can end with nothing else, and that of a mirror ends well or with an error of no kind
  pub alone : (end : Status) → (end ≢ Ok) → NodeMayEnd s scene bios w k end → NodeMayEnd s scene bios w k Ok → ⊥
  pub copied : is_master node.role ≡ true → NodeMayEnd s scene bios w k Ok ⊎ NodeMayEnd s scene bios w k Io
  -- the run of a top node may end only as its write
  pub top : node.role ≡ role.Top → (end : Status) → NodeMayEnd s scene bios w k end → WriteMayEnd s node.write end

-- a bio that a disk has, or is done with, ends as its fragment
abbrev pub EndsAsItsFragment : Setup → (Fragment → Status) → Item Pad → Type 0
EndsAsItsFragment setup ends item = (end : Status) → BioMayEnd setup ends item.bio end ↔ (end ≡ ends (fragment_of item.bio))

-- where each open node was opened for the run of such a bio, and fragments end as the bad ranges of their disks say
pub record IsValued (s : Scenario) (scene : Scene) (bios : ℕ → ℕ → Bio) (state : State) : Type 0 where
  pub nodes : (w k : ℕ) (node : Node) → node_at (state.objects.book w) k ≡ Some node → NodeIsValued s scene bios state w k node
  pub brought : (item : Item Pad) → IsBrought scene state item → EndsAsItsFragment scene.setup (fault_of s.stack) item
  pub pending : (item : Item Pad) → IsInDisk scene state item → EndsAsItsFragment scene.setup (fault_of s.stack) item
  -- what is left of a top node has an end of its write, and a write that is to begin may end only so
  pub carried : (place : ℕ) (disk : DevId) (writer : ℕ) (closed : Closed) → place < scene.tasks → state.task place ≡ Completer disk (Carries writer closed)
      → closed.parent ≡ None → WriteMayEnd s closed.write closed.status
  pub begins : (place writer : ℕ) (todos : List Todo) (taken : Gathered) (submission : Submission) → place < scene.tasks → state.task place ≡ Writer writer todos taken submission
      → All (λ (todo : Todo). (end : Status) → TodoMayEnd scene.setup (fault_of s.stack) todo end → WriteMayEnd s todo.number end) todos

-- after every event of every run of every scenario
abbrev pub NodesAreValued : Type 0
NodesAreValued = (s : Scenario) (ledger : ℕ → LedgerId) (events : List Event) (state : State) → IsScenario s → IsNaming ledger
    → (run : IsRun (scene s ledger) (start s) events state)
    → IsValued s (scene s ledger) (node_bios (scene s ledger) (start s) events state run no_bios) state
