-- What every run keeps, and how often it tells a write done.
use Rattle.std.proofs.Common.{◌≡◌, ◌+◌, ℕ, sym, ap, subst, arith}
use Rattle.run_machine.specs.Scene.{Scene}
use Rattle.run_machine.specs.Runs.{State}
use Rattle.block_core.specs.Weights.{total_weight}
use Rattle.block_core.proofs.moves.Moves.{place_of, after}
use Rattle.block_core.proofs.sound.Invariant.{IsIn, LedgersAreNumbered, Invariant}
use Rattle.run_machine.specs.declared.event.Event.{Event}
use Rattle.run_machine.specs.Events.{what_of}
use Rattle.run_machine.specs.Tasks.{request}
use Rattle.run_machine.specs.Runs.{Steps}
use Rattle.block_core.specs.Dones.{done_in}
use Rattle.block_core.proofs.moves.StepMoves.{step_is_move}
use Rattle.block_core.proofs.sound.InvariantKept.{keeps}
use Rattle.block_core.proofs.sound.DoneOnce.{stage, staged, asked, asked_by, done_of, told_done}

-- one event: what it keeps
pub step_keeps : (scene : Scene) (s : State) → LedgersAreNumbered scene → Invariant scene s → (place : ℕ) (event : Event) (new : State) → Steps scene s place event new
    → ((other : ℕ) → IsIn scene.setup (new.task other)) → Invariant scene new
step_keeps scene s f i place event new steps isin =
    let moved = step_is_move scene s f i place event new steps in
    let at_new : (other : ℕ) → IsIn scene.setup ((after scene s moved.move).task other) =
    λ other. subst (λ (x : State). IsIn scene.setup (x.task other)) moved.is (isin other) in
    subst (Invariant scene) (sym moved.is) (keeps scene s f i moved.move moved.can at_new)

-- and whether it tells a write done
pub step_done : (scene : Scene) (s : State) (w : ℕ) → LedgersAreNumbered scene → Invariant scene s → (place : ℕ) (event : Event) (new : State) → Steps scene s place event new
    → done_in w event.what + total_weight scene (stage w) new ≡ total_weight scene (stage w) s
step_done scene s w f i place event new steps =
    let moved = step_is_move scene s f i place event new steps in
    let a : done_of w (what_of (request scene.setup (s.task place)) steps.reply) ≡ done_in w event.what = ap (done_of w) steps.told in
    let b = told_done w (request scene.setup (s.task place)) steps.reply event.what steps.told in
    let c : asked w (request scene.setup (s.task place)) ≡ asked w (request scene.setup (s.task (place_of moved.move))) = ap (λ p. asked w (request scene.setup (s.task p))) (sym moved.at) in
    let d = asked_by scene s w moved.move moved.can in
    let e : total_weight scene (stage w) new ≡ total_weight scene (stage w) (after scene s moved.move) = ap (total_weight scene (stage w)) moved.is in
    omega (arith, a, b, c, d, e, staged scene s w moved.move moved.can)
