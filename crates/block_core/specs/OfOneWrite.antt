-- That the bios that name a node, and the nodes under it, are parts of the node's own write.
use Rattle.std.specs.Prelude.{◌≡◌, ◌<◌, ℕ, Some}
use Rattle.stack_base.specs.declared.ids.DevId.{DevId}
use Rattle.bio_books.specs.Books.{Node, node_at, parent_of}
use Rattle.bio_books.specs.Drops.{Closed}
use Rattle.run_machine.specs.Scene.{Scene}
use Rattle.run_machine.specs.Tasks.{Completer, Carries}
use Rattle.run_machine.specs.Opened.{scene}
use Rattle.run_machine.specs.Runs.{State}
use Rattle.block_core.specs.EachBio.{EachBio, EachCopied}
use Rattle.block_core.specs.Scenarios.{InEveryRun}

-- Each place of each book has a write, of which is all that stands there or refers to it:
pub record AreOfOneWrite (scene : Scene) (state : State) : Type 0 where
  pub write_of : (writer place : ℕ) → ℕ
  -- the node that is open there,
  pub opened : (writer place : ℕ) (node : Node) → node_at (state.objects.book writer) place ≡ Some node → write_of writer place ≡ node.write
  -- each bio at work that names it, and the bio that a mirror copies where its master is there,
  pub named : EachBio (λ item. write_of item.bio.writer item.bio.node ≡ item.bio.write) scene state
  pub copied : EachCopied (λ bio master. write_of bio.writer master ≡ bio.write) scene state
  -- each node right under it, and what is left of such a node when it has closed
  pub under : (writer place : ℕ) (node : Node) (parent : ℕ) → node_at (state.objects.book writer) place ≡ Some node → parent_of node.role ≡ Some parent
      → write_of writer parent ≡ node.write
  pub carried : (place : ℕ) (disk : DevId) (writer : ℕ) (closed : Closed) (parent : ℕ) → place < scene.tasks
      → state.task place ≡ Completer disk (Carries writer closed) → closed.parent ≡ Some parent → write_of writer parent ≡ closed.write

-- after every event of every run of every scenario
abbrev pub AllAreOfOneWrite : Type 0
AllAreOfOneWrite = InEveryRun (λ s ledger events state. AreOfOneWrite (scene s ledger) state)
