-- What is at work is of writes of the present round.
use Rattle.std.specs.Prelude.{◌≡◌, ◌<◌, ℕ, Some}
use Rattle.stack_base.specs.declared.ids.DevId.{DevId}
use Rattle.layout_model.specs.Laid.{round_of}
use Rattle.bio_books.specs.Books.{Node, node_at}
use Rattle.bio_books.specs.Drops.{Closed}
use Rattle.run_machine.specs.Scene.{Scene}
use Rattle.run_machine.specs.Tasks.{Completer, Carries}
use Rattle.run_machine.specs.Opened.{Scenario, scene}
use Rattle.run_machine.specs.Runs.{State}
use Rattle.block_core.specs.EachBio.{EachBio, EachCopied}
use Rattle.block_core.specs.Scenarios.{InEveryRun}

-- The writes of all that is at work are such:
pub record AllAtWork (IsSuch : ℕ → Type 0) (scene : Scene) (state : State) : Type 0 where
  -- of the nodes that are open, and of what completers still carry of closed ones,
  pub nodes : (writer place : ℕ) (node : Node) → node_at (state.objects.book writer) place ≡ Some node → IsSuch node.write
  pub carried : (place : ℕ) (disk : DevId) (writer : ℕ) (closed : Closed) → place < scene.tasks → state.task place ≡ Completer disk (Carries writer closed)
      → IsSuch closed.write
  -- of the bios at work, and of those that mirrors copy
  pub bios : EachBio (λ item. IsSuch item.bio.write) scene state
  pub copied : EachCopied (λ bio master. IsSuch bio.write) scene state

-- a write of the present round
abbrev pub IsOfPresent : Scenario → State → ℕ → Type 0
IsOfPresent s state write = round_of s.rounds write ≡ state.objects.tally.round

-- after every event of every run of every scenario: nothing of an earlier round is left when a round starts
abbrev pub WorkIsPresent : Type 0
WorkIsPresent = InEveryRun (λ s ledger events state. AllAtWork (IsOfPresent s state) (scene s ledger) state)
