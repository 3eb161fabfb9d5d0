-- What is sound of a state that a run of a scenario leads to.
use Rattle.std.specs.Prelude.{◌≡◌, ◌+◌, ◌<◌, ◌≤◌, ℕ, List, [], slice_index_or, Some}
use Rattle.elem_ledger.specs.Ledger.{LedgerId}
use Rattle.fail_script.specs.Script.{entries_of}
use Rattle.stack_base.specs.Stack.{HasRescuers}
use Rattle.stack_base.specs.Tree.{size, tree}
use Rattle.stack_base.specs.Words.{zero_sector}
use Rattle.mempool_core.specs.Facts.{AddsUp}
use Rattle.layout_model.specs.declared.fragment.Fragment.{Fragment}
use Rattle.layout_model.specs.May.{fault_of}
use Rattle.bio_books.specs.Books.{Node, node_at}
use Rattle.run_machine.specs.declared.event.Event.{Event}
use Rattle.run_machine.specs.Opened.{Scenario, scene, start, setup_in}
use Rattle.run_machine.specs.Runs.{State, IsRun}
use Rattle.block_core.specs.Scenarios.{IsScenario, IsNaming}
use Rattle.block_core.specs.Weights.{total_weight, elements_of_pool}
use Rattle.block_core.specs.EachBio.{EachBio, EachCopied}
use Rattle.block_core.specs.Fragments.{completed, to_come, is_it, fragment_count, IsOfScenario}
use Rattle.block_core.specs.Hands.{HandsAreRight}
use Rattle.block_core.specs.Images.{HasItsWord, held_after}
use Rattle.block_core.specs.KeptEnds.{EndsAreKept}
use Rattle.block_core.specs.Levels.{HasLevels}
use Rattle.block_core.specs.Orders.{AreInListOrder}
use Rattle.block_core.specs.Roles.{HasRoles}
use Rattle.block_core.specs.Rooms.{HasRoomInBooks}
use Rattle.block_core.specs.Touches.{were_masters, none_was}
use Rattle.block_core.specs.Rounds.{RoundsAreTallied}
use Rattle.block_core.specs.NodeBios.{node_bios, no_bios}
use Rattle.block_core.specs.Values.{IsValued}
use Rattle.block_core.specs.Waits.{NoneWaitsForItself}

-- The parts of a state of a run. What a node keeps and what a disk holds are said by the run's events, and whether a closed node was a master by the
-- event that closed it (`were_masters`), since what is left of it does not tell.
pub record IsSound (s : Scenario) (ledger : ℕ → LedgerId) (events : List Event) (state : State) (run : IsRun (scene s ledger) (start s) events state) : Type 0 where
  -- each pool adds up, and is not past the entries of its script
  pub pools : (number : ℕ) → AddsUp (state.objects.pool number).facts
  pub positions : (number : ℕ) → (state.objects.pool number).facts.pos ≤ entries_of (state.objects.pool number).script
  -- what is out of each pool is in the tasks' hands, lists and bios at work, in rescue lists, in disks and in nodes, and nowhere else
  pub outs : (number : ℕ) → (state.objects.pool number).facts.out ≡ total_weight (scene s ledger) (elements_of_pool number) state
  -- an open node waits for at least one end, so the last of them closes it
  pub alive : (writer place : ℕ) (node : Node) → node_at (state.objects.book writer) place ≡ Some node → 1 ≤ node.count
  -- these are by its role its children or legs, the legs that are still to be made, and its own part, which was dropped or is in one place; nothing
  -- refers to a place at which no node is open; and what tasks carry of closed nodes is left of masters exactly where the events that closed them
  -- closed masters
  pub roles : HasRoles (scene s ledger) (were_masters (scene s ledger) (start s) events state run none_was) state
  -- a node keeps what the run told it since it was opened, and only what it may by the run of the bio that it was opened for; so do the ends that are
  -- still to come to it, and where that run is decided, it keeps what decides it, or that still comes
  pub kept : EndsAreKept events state
  pub valued : IsValued s (scene s ledger) (node_bios (scene s ledger) (start s) events state run no_bios) state
  -- what nodes hold, and what is left of closed ones, is of pools whose numbers rise from each node to its parent
  pub levels : HasLevels (scene s ledger) state
  -- bios are in their order in lists, and no task waits for a bio of a set of which it has one in its lists
  pub lists : AreInListOrder (scene s ledger) state
  pub waits : HasRescuers s.stack → NoneWaitsForItself (scene s ledger) state
  -- each fragment of each write was completed or is still to come, once, and no other; and each bio has the data of its place, one that a mirror copies too
  pub fragments : (f : Fragment) → IsOfScenario s f
      → fragment_count f (completed (scene s ledger) (start s) events state run) + total_weight (scene s ledger) (to_come (setup_in s) (is_it f)) state ≡ 1
  pub others : (f : Fragment) → 0 < fragment_count f (completed (scene s ledger) (start s) events state run) + total_weight (scene s ledger) (to_come (setup_in s) (is_it f)) state
      → IsOfScenario s f
  pub words : EachBio (λ item. HasItsWord s item.bio) (scene s ledger) state
  pub copied : EachCopied (λ bio master. HasItsWord s bio) (scene s ledger) state
  -- each sector of each disk holds the data of the last fragment there without a fault in any of its sectors that was completed, and zeros where there is none
  pub images : (disk at : ℕ) → at < size (tree s.stack disk)
      → slice_index_or (state.objects.disk disk).image at [] ≡ held_after s disk at (completed (scene s ledger) (start s) events state run) zero_sector
  -- each round has as many unfinished writes as the tally says, and what is begun is of the present round
  pub tally : RoundsAreTallied s.rounds (scene s ledger) state
  -- a book has a place for each node that is open there and for each that its writer's writes still open
  pub places : HasRoomInBooks (scene s ledger) state
  -- what tasks have in hand is of the pools that they asked, and a bio that a completer brings has ended as the bad ranges of its disk say
  pub hands : HandsAreRight (scene s ledger) (fault_of s.stack) state

-- after every event of every run of every scenario
abbrev pub EveryRunIsSound : Type 0
EveryRunIsSound = (s : Scenario) (ledger : ℕ → LedgerId) (events : List Event) (state : State) → IsScenario s → IsNaming ledger
    → (run : IsRun (scene s ledger) (start s) events state) → IsSound s ledger events state run
