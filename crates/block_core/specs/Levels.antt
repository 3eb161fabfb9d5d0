-- Levels of nodes: the pools of what a node holds and of what names it, in an order that goes down from a node to those under it.
use Rattle.std.specs.Prelude.{◌≡◌, ◌+◌, ◌*◌, ◌<◌, min, ℕ, Some}
use Rattle.stack_base.specs.declared.ids.DevId.{DevId}
use Rattle.bio_records.specs.declared.bio.Pad.{Pad}
use Rattle.bio_records.specs.Items.{Item}
use Rattle.bio_books.specs.Books.{Node, VectorItem, SlipItem, Holding, node_at, parent_of}
use Rattle.bio_books.specs.Drops.{Closed}
use Rattle.run_machine.specs.Scene.{Scene}
use Rattle.run_machine.specs.Tasks.{Completer, Carries}
use Rattle.run_machine.specs.Runs.{State}
use Rattle.block_core.specs.EachBio.{EachBio, EachCopied}

-- an element of the pool of this number is of this level; the two pools of writes are one level, 64
abbrev pub IsOfLevel : ℕ → ℕ → Type 0
IsOfLevel level number = min number 64 ≡ level

pub record HoldsLevel (level : ℕ) (held : Holding) : Type 0 where
  pub bio : (bio : Item Pad) → held.bio ≡ Some bio → IsOfLevel level bio.share.no
  pub vector : (vector : VectorItem) → held.vector ≡ Some vector → IsOfLevel level vector.share.no
  pub slip : (slip : SlipItem) → held.slip ≡ Some slip → IsOfLevel level slip.share.no

-- all of it is of one level
abbrev pub HoldsOneLevel : Holding → Type 0
HoldsOneLevel held = (level : ℕ) × HoldsLevel level held

-- The numbers of pools rise from node to parent: each node has a level, of which are all elements that it holds, and the bio that names it, and
-- which is below that of its parent.
pub record HasLevels (scene : Scene) (state : State) : Type 0 where
  pub level : (writer place : ℕ) → ℕ
  pub held : (writer place : ℕ) (node : Node) → node_at (state.objects.book writer) place ≡ Some node → HoldsLevel (level writer place) node.held
  pub named : EachBio (λ item. IsOfLevel (level item.bio.writer item.bio.node) item.share.no) scene state
  pub under : (writer place : ℕ) (node : Node) (parent : ℕ) → node_at (state.objects.book writer) place ≡ Some node → parent_of node.role ≡ Some parent
      → level writer place < level writer parent
  -- what is left of a closed node is of one level too, below that of the node that it was under
  pub carried : (place : ℕ) (disk : DevId) (writer : ℕ) (closed : Closed) → place < scene.tasks → state.task place ≡ Completer disk (Carries writer closed)
      → (own : ℕ) × HoldsLevel own closed.held × ((parent : ℕ) → closed.parent ≡ Some parent → own < level writer parent)
  -- and a master of which legs are still to be made is of the level of its mirror's records
  pub masters : EachCopied (λ bio master. level bio.writer master ≡ 2 * bio.dev.0 + 1) scene state
