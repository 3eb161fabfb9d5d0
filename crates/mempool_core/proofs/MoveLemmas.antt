-- What every move of a pool keeps.
use Rattle.std.proofs.Common.{ℕ, refl, sym, subst, arith}
use Rattle.std.proofs.lemmas.Bool.Decides.{nat_tests}
use Rattle.fail_script.specs.Script.{Answers}
use Rattle.mempool_core.specs.Facts.{AddsUp}
use Rattle.mempool_core.specs.Move.{PoolState, PoolMove, takes_ordinary, takes_spare, misses, gives, resizes, CanMove, Moves, after_move, opened}

-- a pool adds up when it is opened
pub opened_adds_up : (min : ℕ) (script : Answers) → AddsUp (opened min script).facts
opened_adds_up min script = record { elements = refl; spares = omega arith }

-- a pool that adds up adds up after a move that can come
pub after_move_adds_up : (old : PoolState) (move : PoolMove) → CanMove old move → AddsUp old.facts → AddsUp (after_move old move).facts
after_move_adds_up old takes_ordinary can sums = record { elements = omega arith; spares = sums.spares }
after_move_adds_up old takes_spare can sums = record { elements = omega arith; spares = omega arith }
after_move_adds_up old (misses used) can sums = record { elements = sums.elements; spares = sums.spares }
after_move_adds_up old gives can sums = record { elements = grind (arith, nat_tests); spares = grind (arith, nat_tests) }
after_move_adds_up old (resizes min) can sums = record { elements = omega (arith, can, sums.elements, sums.spares); spares = omega arith }

-- a move keeps a pool adding up
pub moves_keep_adds_up : {old new : PoolState} {move : PoolMove} → Moves old move new → AddsUp old.facts → AddsUp new.facts
moves_keep_adds_up {old = old} {new = new} {move = move} moved sums =
    let P : PoolState → Type 0 = λ pool. AddsUp pool.facts in
    subst P (sym moved.after) (after_move_adds_up old move moved.can sums)
