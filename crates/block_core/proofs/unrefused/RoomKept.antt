-- Every run of every scenario keeps room in all books.
use Rattle.std.proofs.Common.{ℕ, List, [], ◌∷◌, refl, sym, subst}
use Rattle.elem_ledger.specs.Ledger.{LedgerId}
use Rattle.run_machine.specs.declared.event.Event.{Event}
use Rattle.run_machine.specs.Scene.{Scene}
use Rattle.run_machine.specs.Opened.{Scenario, scene, start, setup_in}
use Rattle.run_machine.specs.Runs.{State, Steps, IsRun}
use Rattle.block_core.specs.Scenarios.{IsScenario, IsNaming}
use Rattle.block_core.specs.Rooms.{HasRoomInBooks, BooksHaveRoom}
use Rattle.block_core.proofs.sound.Invariant.{LedgersAreNumbered}
use Rattle.block_core.proofs.sound.Orders.{DeviceGeometry}
use Rattle.block_core.proofs.moves.Devices.{ground}
use Rattle.block_core.proofs.unrefused.NodeNeeds.{Needs, needs_known}
use Rattle.block_core.proofs.moves.StepMoves.{step_is_move}
use Rattle.block_core.proofs.unrefused.NodesOpened.{stays_roomy}
use Rattle.block_core.proofs.start.RoomAtStart.{start_roomy}
use Rattle.block_core.proofs.sound.EveryRun.{IsReachedWhole, runs_whole, start_whole}

module _ (scene : Scene) (f : LedgersAreNumbered scene) (g : DeviceGeometry scene.setup) (n : Needs scene.setup) where
  step_roomy : (s : State) (place : ℕ) (event : Event) (new : State) → IsReachedWhole scene s → HasRoomInBooks scene s → Steps scene s place event new → HasRoomInBooks scene new
  step_roomy s place event new i r steps =
      let moved = step_is_move scene s f i.kept place event new steps in
      subst (HasRoomInBooks scene) (sym moved.is) (stays_roomy scene s g n i.kept i.placed moved.move moved.can r)

  pub runs_roomy : (s : State) (events : List Event) (new : State) → IsReachedWhole scene s → HasRoomInBooks scene s → IsRun scene s events new → HasRoomInBooks scene new
  runs_roomy s [] new i r run = subst (HasRoomInBooks scene) (sym run) r
  runs_roomy s (event ∷ events) new i r (next, (place, steps), run) =
      let j = runs_whole scene f g s (event ∷ []) next i (next, (place, steps), refl) in
      runs_roomy next events new j (step_roomy s place event next i r steps) run

module _ (s : Scenario) (ledger : ℕ → LedgerId) (good : IsScenario s) (naming : IsNaming ledger) where
  pub run_roomy : (events : List Event) (state : State) → IsRun (scene s ledger) (start s) events state → HasRoomInBooks (scene s ledger) state
  run_roomy events state run =
      let places = (setup_in s).places in
      runs_roomy (scene s ledger) (record { named = naming }) (ground s.stack good.stack places) (needs_known s.stack good.stack places) (start s) events state
      (start_whole s ledger good naming) (start_roomy s good ledger) run

pub books_have_room : BooksHaveRoom
books_have_room s ledger events state good naming run = run_roomy s ledger good naming events state run
