-- No run of any scenario has more elements out than its writes need, and no node of it waits for too many ends.
use Rattle.std.proofs.Common.{◌≡◌, ◌+◌, ◌≤◌, ℕ, List, [], ◌∷◌, length, Some, refl, ap, arith}
use Rattle.std.specs.Prelude.{sum_by, zip}
use Rattle.std.specs.List.{range_with_len}
use Rattle.elem_ledger.specs.Ledger.{LedgerId}
use Rattle.layout_model.specs.declared.write.Write.{Write}
use Rattle.layout_model.specs.NeedCounts.{elements}
use Rattle.layout_model.specs.Bound.{all_elements}
use Rattle.bio_books.specs.Books.{Node, node_at}
use Rattle.run_machine.specs.declared.event.Event.{Event}
use Rattle.run_machine.specs.Scene.{Scene}
use Rattle.run_machine.specs.Opened.{Scenario, scene, start, opened_tasks, todos, places_of, setup_in}
use Rattle.run_machine.specs.Runs.{State, IsRun}
use Rattle.block_core.specs.Weights.{total_weight}
use Rattle.block_core.proofs.moves.References.{awaited_ends}
use Rattle.block_core.specs.Scenarios.{IsScenario, IsNaming}
use Rattle.block_core.specs.Breaks.{ElementsAreAllowed}
use Rattle.block_core.specs.LargestCounts.{OutsAreWithinWhatWritesNeed, EndsAreWithinPlacesAndTasks, CountersAreSmall, NoCounterIsFull}
use Rattle.block_core.proofs.sound.Invariant.{LedgersAreNumbered}
use Rattle.block_core.proofs.sound.Orders.{DeviceGeometry}
use Rattle.block_core.proofs.moves.Devices.{ground}
use Rattle.block_core.proofs.unrefused.NodeNeeds.{Needs, needs_known}
use Rattle.block_core.proofs.moves.StepMoves.{step_is_move}
use Rattle.block_core.proofs.bound.ChargesAtStart.{zip_sum}
use Rattle.block_core.proofs.start.StartTotals.{map_sum, opened_total}
use Rattle.block_core.proofs.sound.EveryRun.{IsReachedWhole, runs_whole, start_whole}
use Rattle.block_core.proofs.unrefused.RoomKept.{run_roomy}
use Rattle.block_core.proofs.unrefused.ObjectsAnswer.{ends_few}
use Rattle.block_core.proofs.unrefused.Unbroken.{small}
use Rattle.block_core.proofs.sound.Elements.{write_need, worth, outs_within, stays_within}

module _ (scene : Scene) (f : LedgersAreNumbered scene) (g : DeviceGeometry scene.setup) (n : Needs scene.setup) where
  pub runs_within : (s : State) (events : List Event) (new : State) → IsReachedWhole scene s → IsRun scene s events new
      → total_weight scene (worth scene.setup) new ≤ total_weight scene (worth scene.setup) s
  runs_within s [] new i run = let same = ap (total_weight scene (worth scene.setup)) run in omega (arith, same)
  runs_within s (event ∷ events) new i (next, (place, steps), run) =
      let j = runs_whole scene f g s (event ∷ []) next i (next, (place, steps), refl) in
      let moved = step_is_move scene s f i.kept place event next steps in
      let same = ap (total_weight scene (worth scene.setup)) moved.is in
      omega (arith, same, stays_within scene s g n i.kept i.placed moved.move moved.can, runs_within next events new j run)

module _ (s : Scenario) (good : IsScenario s) (ledger : ℕ → LedgerId) where
  todos_need : sum_by (write_need (setup_in s)) (todos s) ≤ all_elements s.stack s.writes
  todos_need =
      let ns = range_with_len 0 (length s.writes) in
      omega (
        arith,
        map_sum (write_need (setup_in s)) (λ x. record { number = x.0; round = x.1.0; write = x.1.1 }) (zip ns (zip s.rounds s.writes)),
        zip_sum (λ (x : ℕ × Write). elements s.stack x.1) ns (zip s.rounds s.writes),
        zip_sum (elements s.stack) s.rounds s.writes,
      )

  pub start_within : total_weight (scene s ledger) (worth (setup_in s)) (start s) ≤ all_elements s.stack s.writes
  start_within = omega (arith, opened_total s good ledger (worth (setup_in s)) (write_need (setup_in s)) (λ n ts. omega arith), todos_need)

module _ (s : Scenario) (ledger : ℕ → LedgerId) (good : IsScenario s) (naming : IsNaming ledger) (events : List Event) (state : State) (run : IsRun (scene s ledger) (start s) events state) where
  whole : IsReachedWhole (scene s ledger) state
  whole = runs_whole (scene s ledger) (record { named = naming }) (ground s.stack good.stack (setup_in s).places) (start s) events state (start_whole s ledger good naming) run

  outs : (number : ℕ) → (state.objects.pool number).facts.out ≤ all_elements s.stack s.writes
  outs number =
      let places = (setup_in s).places in
      let g = ground s.stack good.stack places in
      let n = needs_known s.stack good.stack places in
      let i = whole in
      omega (
        arith,
        start_within s good ledger,
        runs_within (scene s ledger) (record { named = naming }) g n (start s) events state (start_whole s ledger good naming) run,
        outs_within (scene s ledger) state g n i.kept i.placed number,
      )

  ends : (writer place : ℕ) (node : Node) → node_at (state.objects.book writer) place ≡ Some node → node.count ≤ 1 + places_of s writer + length (opened_tasks s)
  ends writer place node at =
      let i = whole in
      let count : awaited_ends (node_at (state.objects.book writer) place) ≡ node.count = ap awaited_ends at in
      omega (arith, count, ends_few (scene s ledger) state i.kept (run_roomy s ledger good naming events state run) writer place)

  counters : ElementsAreAllowed s → CountersAreSmall state
  counters allowed = record {
    outs = λ number. omega (arith, outs number, allowed);
    ends = λ writer place node at. omega (arith, ends writer place node at, small s ledger good allowed naming writer);
  }

pub outs_are_within_what_writes_need : OutsAreWithinWhatWritesNeed
outs_are_within_what_writes_need s ledger events state good naming run number = outs s ledger good naming events state run number

pub ends_are_within_places_and_tasks : EndsAreWithinPlacesAndTasks
ends_are_within_places_and_tasks s ledger events state good naming run writer place node at = ends s ledger good naming events state run writer place node at

pub no_counter_is_full : NoCounterIsFull
no_counter_is_full s ledger events state good allowed naming run = counters s ledger good naming events state run allowed
