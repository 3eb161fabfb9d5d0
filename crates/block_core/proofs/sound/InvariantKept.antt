-- Each event keeps the invariant.
use Rattle.std.proofs.Common.{◌≡◌, ◌+◌, ◌*◌, ◌<◌, ◌≤◌, ℕ, [], Some, ◌∙◌, ap, arith}
use Rattle.stack_base.specs.PoolId.{pool_number}
use Rattle.mempool_core.specs.Facts.{AddsUp}
use Rattle.mempool_core.specs.Move.{PoolState, PoolMove, after_move, CanMove, misses, gives, resizes}
use Rattle.bio_books.specs.Books.{BookState, with_node, top_node}
use Rattle.run_machine.specs.Maps.{upd}
use Rattle.run_machine.specs.Scene.{Scene}
use Rattle.run_machine.specs.Runs.{State}
use Rattle.block_core.proofs.moves.Moves.{Move, Can, after, vector_of}
use Rattle.block_core.proofs.moves.Moves as moves
use Rattle.block_core.proofs.moves.Sums.{upd-other}
use Rattle.block_core.proofs.sound.Invariant.{IsIn, LedgersAreNumbered, Invariant}
use Rattle.mempool_core.proofs.MoveLemmas.{after_move_adds_up}
use Rattle.block_core.proofs.sound.ElementsOut.{outs}
use Rattle.block_core.proofs.sound.ReferencesCounted.{counts}
use Rattle.block_core.proofs.sound.OwnParts.{owns}
use Rattle.block_core.proofs.sound.TaskSubmissions.{tasks, all-upd}

module _ (scene : Scene) (s : State) (f : LedgersAreNumbered scene) (i : Invariant scene s) where
  other_book : (writer : ℕ) (b : BookState) → writer < scene.books → (w : ℕ) → scene.books ≤ w → (upd s.objects.book writer b w).nodes ≡ []
  other_book writer b lt w ge = ap (λ (book : BookState). book.nodes) (upd-other s.objects.book writer b w (λ q. omega arith)) ∙ i.inside w ge

  inside : (m : Move) → Can scene s m → (w : ℕ) → scene.books ≤ w → ((after scene s m).objects.book w).nodes ≡ []
  -- links and drops: the book is one of the scene's
  inside (moves.Begins place writer todo later item vector key) c = other_book writer (with_node (s.objects.book writer) key (Some (top_node todo.number (vector_of todo vector)))) c.2
  inside (moves.Chained place x bio lists hand number kind sizes members key node) c = other_book bio.bio.writer _ c.4
  inside (moves.Mastered place x bio lists slip key node) c = other_book bio.bio.writer _ c.3
  inside (moves.Legged place x bio lists master leg hand key node) c = other_book bio.writer _ c.3
  inside (moves.Told place disk carried writer key status part node) c = other_book writer _ c.3
  inside (moves.Closes place disk carried writer key status part node) c = other_book writer _ c.3
  -- all others: books stay as they are
  inside _ c = i.inside

  -- a pool that moves adds up
  pool_moves : (number : ℕ) (move : PoolMove) → CanMove (s.objects.pool number) move → (p : ℕ) → AddsUp (upd s.objects.pool number (after_move (s.objects.pool number) move) p).facts
  pool_moves number move can p = all-upd (λ (pool : PoolState). AddsUp pool.facts) s.objects.pool number (after_move (s.objects.pool number) move) i.pools
      (after_move_adds_up (s.objects.pool number) move can (i.pools number)) p

  pools : (m : Move) → Can scene s m → (p : ℕ) → AddsUp ((after scene s m).objects.pool p).facts
  -- takes and misses: by one move of a pool
  pools (moves.TakesFirst place writer todo later move) c = pool_moves 65 move c.4
  pools (moves.TakesVector place writer todo later item move) c = pool_moves 64 move c.3
  pools (moves.TakesSub place x doing lists dev waits move) c = pool_moves (2 * dev.0) move c.5
  pools (moves.TakesSlip place x bio lists move) c = pool_moves (2 * bio.bio.dev.0 + 1) move c.4
  pools (moves.MissesOne place x number used) c = pool_moves number (misses used) c.2
  pools (moves.MissesTry place x doing lists dev used) c = pool_moves (2 * dev.0) (misses used) c.4
  -- gives: by one move of a pool
  pools (moves.Gives place disk writer number closed held) c = pool_moves number gives c.3
  -- resizes: by one move of a pool
  pools (moves.Resized place pool min later duties) c = pool_moves (pool_number pool) (resizes min) c.2
  -- all others: pools stay as they are
  pools _ c = i.pools

  pub keeps : (m : Move) → Can scene s m → ((place : ℕ) → IsIn scene.setup ((after scene s m).task place)) → Invariant scene (after scene s m)
  keeps m c isin = record {
    pools = pools m c;
    outs = outs scene s f i m c;
    counts = counts scene s f i m c;
    owns = owns scene s f i m c;
    inside = inside m c;
    tasks = tasks scene s f i m c;
    devices = isin;
  }
