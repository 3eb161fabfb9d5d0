-- What holds of the objects of a stage between calls, so that all that they hand out is at home.
use Rattle.std.specs.Prelude.{◌≡◌, ◌^◌, ◌<◌, ℕ, All, IfSome, length, sum}
use Rattle.stack_base.specs.Tree.{tree, size}
use Rattle.layout_model.specs.May.{bads_of}
use Rattle.bio_books.specs.Books.{Node, BookState}
use Rattle.model_disks.specs.Disks.{DiskState}
use Rattle.run_machine.specs.Requests.{Request, Reply}
use Rattle.run_machine.specs.Objects.{TallyState, Objects, Serves}
use Rattle.run_machine.specs.Opened.{device_at}
use Rattle.task_steps.specs.Stage.{Stage, IsServed, AreServed, HoldsHome, RequestFits, Owes}

-- a disk of the stack, in which bios wait that can be served and are at it
pub record IsDiskOf (stage : Stage) (dev : ℕ) (disk : DiskState) : Type 0 where
  pub dev_is : disk.dev ≡ device_at dev
  pub sectors : length disk.image ≡ size (tree stage.routing.stack dev)
  pub bads : disk.bad ≡ bads_of stage.routing.stack dev
  pub pending : All (λ item. IsServed stage item × (item.bio.dev ≡ device_at dev)) disk.pending

-- a node of a write that there is, which keeps elements at home alone
pub record IsNodeOf (stage : Stage) (node : Node) : Type 0 where
  pub write : node.write < stage.writes
  pub held : HoldsHome stage node.held

-- the book of a writer
pub record IsBookOf (stage : Stage) (writer : ℕ) (book : BookState) : Type 0 where
  pub writer_is : book.writer ≡ writer
  pub nodes : All (λ node. IfSome node (IsNodeOf stage)) book.nodes

-- the present round is one of the rounds, and all numbers of unfinished writes add up to one of 32 bits
pub record IsTallyOf (stage : Stage) (tally : TallyState) : Type 0 where
  pub round : tally.round < length tally.left
  pub left : sum tally.left < 2 ^ 32
  pub statuses : length tally.statuses ≡ stage.writes

-- Objects that have what a stage says, and nothing that could not be handed out.
pub record AreObjectsOf (stage : Stage) (objects : Objects) : Type 0 where
  pub rescue : (dev : ℕ) → AreServed stage (objects.rescue dev)
  pub disk : (dev : ℕ) → IsDiskOf stage dev (objects.disk dev)
  pub book : (writer : ℕ) → IsBookOf stage writer (objects.book writer)
  pub tally : IsTallyOf stage objects.tally

-- the ledger of a number is of this number
abbrev pub AreNumbered : Stage → Type 0
AreNumbered stage = (number : ℕ) → (stage.ledger number).no ≡ number

-- What a call makes of the objects of a stage are objects of this stage, and it hands out what they owe.
abbrev pub ObjectsStay : Type 0
ObjectsStay =
    (stage : Stage) (old new : Objects) (request : Request) (reply : Reply) → AreNumbered stage → RequestFits stage request → AreObjectsOf stage old
    → Serves stage.ledger old request reply new → AreObjectsOf stage new × Owes stage request reply
