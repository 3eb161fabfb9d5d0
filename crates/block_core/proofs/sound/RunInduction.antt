-- What each event keeps, every run keeps.
use Rattle.std.proofs.Common.{List, [], ◌∷◌, sym, subst}
use Rattle.run_machine.specs.declared.event.Event.{Event}
use Rattle.run_machine.specs.Scene.{Scene}
use Rattle.run_machine.specs.Runs.{State, IsRun}
use Rattle.block_core.proofs.moves.Moves.{Move, Can, after}
use Rattle.block_core.proofs.sound.Invariant.{LedgersAreNumbered}
use Rattle.block_core.proofs.sound.Orders.{DeviceGeometry}
use Rattle.block_core.proofs.moves.StepMoves.{step_is_move}
use Rattle.block_core.proofs.sound.EveryRun.{IsReachedWhole, step_whole}

pub runs_keep : (scene : Scene) → LedgersAreNumbered scene → DeviceGeometry scene.setup → (P : State → Type 0)
    → ((s : State) (m : Move) → IsReachedWhole scene s → IsReachedWhole scene (after scene s m) → Can scene s m → P s → P (after scene s m))
    → (s : State) (events : List Event) (new : State) → IsReachedWhole scene s → P s → IsRun scene s events new → P new
runs_keep scene f g P stays s [] new i t run = subst P (sym run) t
runs_keep scene f g P stays s (event ∷ events) new i t (next, (place, steps), run) =
    let moved = step_is_move scene s f i.kept place event next steps in
    let j = step_whole scene f g s place event next i steps in
    runs_keep scene f g P stays next events new j
    (subst P (sym moved.is) (stays s moved.move i (subst (IsReachedWhole scene) moved.is j) moved.can t)) run
