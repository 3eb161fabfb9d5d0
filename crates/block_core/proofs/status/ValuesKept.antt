-- Events keep what the statuses that nodes keep have to do with how their runs may end.
use Rattle.std.proofs.Common.{◌≡◌, ℕ}
use Rattle.stack_base.specs.declared.ids.Status.{Status}
use Rattle.layout_model.specs.declared.fragment.Fragment.{Fragment}
use Rattle.run_machine.specs.Scene.{Scene}
use Rattle.run_machine.specs.Runs.{State}
use Rattle.block_core.specs.Weights.{total_weight}
use Rattle.block_core.proofs.status.Marks.{Mark, IsMarked}
use Rattle.block_core.proofs.moves.Moves.{Move, Can, after}
use Rattle.block_core.proofs.sound.Invariant.{Invariant}
use Rattle.block_core.proofs.sound.Orders.{Placed, DeviceGeometry}
use Rattle.block_core.proofs.moves.Misfits.{misfits}
use Rattle.block_core.proofs.images.StillToCome.{over}
use Rattle.block_core.proofs.status.RunEndings.{EndingsByParts}
use Rattle.block_core.proofs.status.MarksBehind.{marks_by, fair_after}
use Rattle.block_core.proofs.status.ToldEnds.{HasEnding}
use Rattle.block_core.proofs.status.EndsAllowed.{off_after}
use Rattle.block_core.proofs.status.EndsDecided.{decided_after}

module _ (scene : Scene) (ends : Fragment → Status) (written : ℕ → Status → ℕ) (v : EndingsByParts scene.setup ends) (s : State) (g : DeviceGeometry scene.setup) (i : Invariant scene s)
    (a : Placed scene.setup s) (counted : total_weight scene (misfits over) s ≡ 0) (endings : (place : ℕ) → HasEnding ends (s.task place)) (mark : ℕ → ℕ → Mark)
    (h : IsMarked scene ends written mark s) where
  pub stays_marked : (m : Move) → Can scene s m → IsMarked scene ends written (marks_by scene.setup ends mark m) (after scene s m)
  stays_marked m c = record {
    fair = fair_after scene ends written s a mark h m c;
    fits = λ end. off_after scene ends written v s g i a counted endings mark h end m c;
    decided = decided_after scene ends written v s g i a counted endings mark h m c;
  }
