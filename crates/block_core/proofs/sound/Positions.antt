-- No pool is past the entries of its script.
use Rattle.std.proofs.Common.{◌≡◌, ◌+◌, ◌*◌, ◌≤◌, if◌then◌else◌, ℕ, Bool, true, false, refl, arith}
use Rattle.std.specs.Prelude.{nat_lt}
use Rattle.std.proofs.lemmas.Bool.Decides.{nat_tests}
use Rattle.fail_script.specs.Script.{entries_of}
use Rattle.mempool_core.specs.Move.{PoolState, PoolMove, takes_ordinary, takes_spare, misses, gives, resizes, after_move}
use Rattle.mempool_core.specs.Position.{next_pos}
use Rattle.stack_base.specs.PoolId.{pool_number}
use Rattle.run_machine.specs.Maps.{upd}
use Rattle.run_machine.specs.Scene.{Scene}
use Rattle.run_machine.specs.Runs.{State}
use Rattle.block_core.proofs.moves.Moves.{Move, after}
use Rattle.block_core.proofs.moves.Moves as moves
use Rattle.block_core.proofs.sound.TaskSubmissions.{all-upd}

abbrev pub IsWithin : PoolState → Type 0
IsWithin pool = pool.facts.pos ≤ entries_of pool.script

next_within : (pool : PoolState) → IsWithin pool → next_pos pool.script pool.facts.pos ≤ entries_of pool.script
next_within pool le = by_test (nat_lt pool.facts.pos (entries_of pool.script)) refl
  where
    by_test : (v : Bool) → nat_lt pool.facts.pos (entries_of pool.script) ≡ v → (if v then pool.facts.pos + 1 else pool.facts.pos) ≤ entries_of pool.script
    by_test true is = grind (arith, nat_tests, is)
    by_test false is = le

move_within : (pool : PoolState) (move : PoolMove) → IsWithin pool → IsWithin (after_move pool move)
move_within pool takes_ordinary le = next_within pool le
move_within pool takes_spare le = next_within pool le
move_within pool (misses used) le = next_within pool le
move_within pool gives le = le
move_within pool (resizes min) le = le

module _ (scene : Scene) (s : State) (all : (p : ℕ) → IsWithin (s.objects.pool p)) where
  moved : (number : ℕ) (move : PoolMove) (p : ℕ) → IsWithin (upd s.objects.pool number (after_move (s.objects.pool number) move) p)
  moved number move p = all-upd IsWithin s.objects.pool number (after_move (s.objects.pool number) move) all (move_within (s.objects.pool number) move (all number)) p

  pub stays_within : (m : Move) → (p : ℕ) → IsWithin ((after scene s m).objects.pool p)
  -- takes and misses: the position goes on to the end of the script at most
  stays_within (moves.TakesFirst place writer todo later move) = moved 65 move
  stays_within (moves.TakesVector place writer todo later item move) = moved 64 move
  stays_within (moves.TakesSub place x doing lists dev waits move) = moved (2 * dev.0) move
  stays_within (moves.TakesSlip place x bio lists move) = moved (2 * bio.bio.dev.0 + 1) move
  stays_within (moves.MissesOne place x number used) = moved number (misses used)
  stays_within (moves.MissesTry place x doing lists dev used) = moved (2 * dev.0) (misses used)
  -- gives: the position stays
  stays_within (moves.Gives place disk writer number closed held) = moved number gives
  -- resizes: the position stays
  stays_within (moves.Resized place pool min later duties) = moved (pool_number pool) (resizes min)
  -- all others: no pool changes
  stays_within _ = all
