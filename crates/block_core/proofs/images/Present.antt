-- In every run all open nodes and all bios are of writes of the present round.
use Rattle.std.proofs.Common.{◌≡◌, ◌<◌, ◌⊎◌, ℕ, List, None, Some, inl, inr, arith}
use Rattle.bio_books.specs.Books.{Node, node_at, parent_of}
use Rattle.bio_books.specs.Drops.{Closed}
use Rattle.stack_base.specs.declared.ids.DevId.{DevId}
use Rattle.stack_base.proofs.NumberLemmas.{in_order}
use Rattle.run_machine.specs.Scene.{Scene}
use Rattle.run_machine.specs.Tasks.{Completer, Carries}
use Rattle.run_machine.specs.Opened.{scene, start, setup_in}
use Rattle.run_machine.specs.Runs.{State}
use Rattle.block_core.specs.Rounds.{round_of, is_of_round, unfinished_of, begun_of}
use Rattle.block_core.specs.Present.{IsOfPresent, WorkIsPresent}
use Rattle.block_core.proofs.sound.Invariant.{LedgersAreNumbered, Invariant}
use Rattle.block_core.proofs.sound.EventStages.{top_worth, carried_worth}
use Rattle.block_core.proofs.sound.Rounds.{Tallied}
use Rattle.block_core.proofs.start.TallyAtStart.{keeper_place, start_tallied}
use Rattle.block_core.proofs.stuck.Idle.{node_part}
use Rattle.block_core.proofs.moves.Totals.{task_part}
use Rattle.block_core.proofs.unrefused.Resizes.{goes_down}
use Rattle.block_core.proofs.moves.Devices.{ground}
use Rattle.block_core.proofs.sound.EveryRun.{runs_tallied, runs_leveled, start_leveled, runs_whole, start_whole}
use Rattle.block_core.proofs.sound.OfOneWrite.{none_strays}
use Rattle.block_core.proofs.images.Ancestors.{all_at_work}

-- the write of an open top node is unfinished and begun, so it is of no earlier round and of no later one
pub top_present : (rounds : List ℕ) (keeper : ℕ) (scene : Scene) (s : State) → Invariant scene s → Tallied rounds keeper scene s → (writer key : ℕ) (node : Node)
    → node_at (s.objects.book writer) key ≡ Some node → parent_of node.role ≡ None → round_of rounds node.write ≡ s.objects.tally.round
top_present rounds keeper scene s i t writer key node at is = by_order (in_order r s.objects.tally.round)
  where
    r : ℕ
    r = round_of rounds node.write

    by_order : (r < s.objects.tally.round) ⊎ (r ≡ s.objects.tally.round) ⊎ (s.objects.tally.round < r) → r ≡ s.objects.tally.round
    by_order (inl lt) = absurd (omega (arith, top_worth node.role is r, t.left r, t.tally.past r lt, node_part scene s i (unfinished_of (is_of_round rounds r)) writer key node at))
    by_order (inr (inl same)) = same
    by_order (inr (inr gt)) = absurd (omega (arith, top_worth node.role is r, t.later r gt, node_part scene s i (begun_of (is_of_round rounds r)) writer key node at))

-- so is that of one that is carried
carried_present : (rounds : List ℕ) (keeper : ℕ) (scene : Scene) (s : State) → Tallied rounds keeper scene s → (place : ℕ) (disk : DevId) (writer : ℕ) (closed : Closed)
    → place < scene.tasks → s.task place ≡ Completer disk (Carries writer closed) → closed.parent ≡ None → round_of rounds closed.write ≡ s.objects.tally.round
carried_present rounds keeper scene s t place disk writer closed here is top = by_order (in_order r s.objects.tally.round)
  where
    r : ℕ
    r = round_of rounds closed.write

    by_order : (r < s.objects.tally.round) ⊎ (r ≡ s.objects.tally.round) ⊎ (s.objects.tally.round < r) → r ≡ s.objects.tally.round
    by_order (inl lt) =
        absurd (omega (arith, carried_worth closed.parent top r, t.left r, t.tally.past r lt, task_part scene (unfinished_of (is_of_round rounds r)) s place (Completer disk (Carries writer closed)) here is))
    by_order (inr (inl same)) = same
    by_order (inr (inr gt)) = absurd (omega (arith, carried_worth closed.parent top r, t.later r gt, task_part scene (begun_of (is_of_round rounds r)) s place (Completer disk (Carries writer closed)) here is))

pub work_is_present : WorkIsPresent
work_is_present s ledger events state good naming run =
    let f : LedgersAreNumbered (scene s ledger) = record { named = naming } in
    let g = ground s.stack good.stack (setup_in s).places in
    let begun = start_whole s ledger good naming in
    let keeper = keeper_place s good ledger in
    let i = (runs_whole (scene s ledger) f g (start s) events state begun run).kept in
    let t = runs_tallied (scene s ledger) f g s.rounds keeper (start s) events state begun (start_tallied s good ledger) run in
    let l = runs_leveled (scene s ledger) f g (start s) events state begun (start_leveled s ledger good naming) run in
    let o = none_strays s ledger events state good naming run in
    all_at_work (scene s ledger) state i l.0 (goes_down (scene s ledger) state i l.0 l.1) o.0 o.1 (IsOfPresent s state)
    (λ writer key node some at is. top_present s.rounds keeper (scene s ledger) state i t writer key node at is)
    (λ place disk writer closed here is top. carried_present s.rounds keeper (scene s ledger) state t place disk writer closed here is top)
