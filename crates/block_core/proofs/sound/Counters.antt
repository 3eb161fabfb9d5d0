-- No counter comes above the number of events so far, and eight.
use Rattle.std.proofs.Common.{◌≡◌, ◌+◌, ◌*◌, ◌≤◌, ℕ, Option, None, Some, subst, arith}
use Rattle.stack_base.specs.PoolId.{pool_number}
use Rattle.stack_base.specs.Tree.{Tree, Leaf, Split, Mirrored}
use Rattle.mempool_core.specs.Move.{PoolState, PoolMove, after_move, takes_ordinary, takes_spare, misses, gives, resizes}
use Rattle.bio_books.specs.Books.{Node, BookState, node_at, top_node, child_node, master_node, leg_node, with_kept_part, raised, lowered, told}
use Rattle.run_machine.specs.Maps.{upd}
use Rattle.run_machine.specs.Scene.{Scene, tree_at}
use Rattle.run_machine.specs.Submissions.{ToMaster, Drives, legs_of}
use Rattle.run_machine.specs.Runs.{State}
use Rattle.block_core.proofs.moves.References.{awaited_ends}
use Rattle.block_core.proofs.moves.Moves.{Move, Can, after, vector_of}
use Rattle.block_core.proofs.moves.Moves as moves
use Rattle.block_core.proofs.moves.Sums.{within_book}
use Rattle.block_core.proofs.moves.Geometry.{IsCopied}
use Rattle.block_core.proofs.sound.TaskSubmissions.{all-upd}
use Rattle.block_core.proofs.sound.Orders.{Placed, DeviceGeometry}
use Rattle.block_core.proofs.moves.Deltas.{vacant_at}
use Rattle.block_core.proofs.sound.OrdersKept.{placed_at}
use Rattle.block_core.proofs.sound.NodesWait.{nodes_all, books_all, two_all}

pub record Counted (n : ℕ) (s : State) : Type 0 where
  pub outs : (q : ℕ) → (s.objects.pool q).facts.out ≤ n
  pub ends : (w k : ℕ) → awaited_ends (node_at (s.objects.book w) k) ≤ n + 8

-- a move takes one element at most
pub one_out : (pool : PoolState) (move : PoolMove) → (after_move pool move).facts.out ≤ pool.facts.out + 1
one_out pool takes_ordinary = omega arith
one_out pool takes_spare = omega arith
one_out pool (misses used) = omega arith
one_out pool gives = omega arith
one_out pool (resizes min) = omega arith

module _ (scene : Scene) (s : State) (g : DeviceGeometry scene.setup) (p : Placed scene.setup s) (n : ℕ) (i : Counted n s) where
  stays : (q : ℕ) → (s.objects.pool q).facts.out ≤ n + 1
  stays q = omega (arith, i.outs q)

  one_pool : (number : ℕ) (move : PoolMove) → (q : ℕ) → (upd s.objects.pool number (after_move (s.objects.pool number) move) q).facts.out ≤ n + 1
  one_pool number move = all-upd (λ (pool : PoolState). pool.facts.out ≤ n + 1) s.objects.pool number (after_move (s.objects.pool number) move) stays
      (omega (arith, i.outs number, one_out (s.objects.pool number) move))

  abbrev Small : Option Node → Type 0
  Small node = awaited_ends node ≤ n + 1 + 8

  nodes : (w k : ℕ) → Small (node_at (s.objects.book w) k)
  nodes w k = omega (arith, i.ends w k)

  of_book : (writer : ℕ) (book : BookState) → ((k : ℕ) → Small (node_at book k)) → (w k : ℕ) → Small (node_at (upd s.objects.book writer book w) k)
  of_book writer book here = books_all Small s.objects.book writer book nodes here

  was : (writer key : ℕ) (node : Node) → node_at (s.objects.book writer) key ≡ Some node → node.count ≤ n + 8
  was writer key node at = subst (λ o. awaited_ends o ≤ n + 8) at (i.ends writer key)

  outs : (m : Move) → Can scene s m → (q : ℕ) → ((after scene s m).objects.pool q).facts.out ≤ n + 1
  -- takes: one element more is out
  outs (moves.TakesFirst place writer todo later move) c = one_pool 65 move
  outs (moves.TakesVector place writer todo later item move) c = one_pool 64 move
  outs (moves.TakesSub place x doing lists dev waits move) c = one_pool (2 * dev.0) move
  outs (moves.TakesSlip place x bio lists move) c = one_pool (2 * bio.bio.dev.0 + 1) move
  -- misses: none more is out
  outs (moves.MissesOne place x number used) c = one_pool number (misses used)
  outs (moves.MissesTry place x doing lists dev used) c = one_pool (2 * dev.0) (misses used)
  -- gives: one less is out
  outs (moves.Gives place disk writer number closed held) c = one_pool number gives
  -- resizes: as many are out as before
  outs (moves.Resized place pool min later duties) c = one_pool (pool_number pool) (resizes min)
  -- all others: pools stay as they are
  outs _ c = stays

  ends : (m : Move) → Can scene s m → (w k : ℕ) → Small (node_at ((after scene s m).objects.book w) k)
  -- links of writes: the new node waits for one end
  ends (moves.Begins place writer todo later item vector key) c =
      let v = vacant_at (s.objects.book writer) key c.3 in
      of_book writer _ (nodes_all Small (s.objects.book writer) key (Some (top_node todo.number (vector_of todo vector))) v.1 (nodes writer) (omega arith))
  -- links of pieces: the new node waits for one end, and its parent for one more
  ends (moves.Chained place x bio lists hand number kind sizes members key node) c =
      let old = was bio.bio.writer bio.bio.node node c.5 in
      of_book bio.bio.writer _ (two_all Small (s.objects.book bio.bio.writer) key bio.bio.node node (child_node node.write bio.bio.node) (raised node) c.6 c.5 (nodes bio.bio.writer) (omega arith) (omega (arith, old)))
  -- links of masters: the new node waits for its legs, of which there are at most eight, and its parent for as many as before
  ends (moves.Mastered place x bio lists slip key node) c =
      let old = was bio.bio.writer bio.bio.node node c.4 in
      let d = placed_at scene.setup s p place x (Drives bio (ToMaster slip)) lists c.1 c.2 in
      let legs : legs_of (tree_at scene.setup bio.bio.dev) ≤ 8 = by_tree (tree_at scene.setup bio.bio.dev) (g.copied bio.bio d.1.0.0) in
      of_book bio.bio.writer _
      (two_all Small (s.objects.book bio.bio.writer) key bio.bio.node node (master_node node.write bio.bio.node slip (legs_of (tree_at scene.setup bio.bio.dev))) (with_kept_part bio node) c.5 c.4 (nodes bio.bio.writer)
      (omega (arith, legs)) (omega (arith, old)))
    where
      by_tree : (t : Tree) → IsCopied t → legs_of t ≤ 8
      by_tree (Leaf number sectors) has = omega arith
      by_tree (Split number kind sizes members) has = omega arith
      by_tree (Mirrored number sizes members) has = has.1
  -- links of legs: the new node waits for one end
  ends (moves.Legged place x bio lists master leg hand key node) c =
      let v = vacant_at (s.objects.book bio.writer) key c.5 in
      of_book bio.writer _ (nodes_all Small (s.objects.book bio.writer) key (Some (leg_node node.write master)) v.1 (nodes bio.writer) (omega arith))
  -- drops that leave a node open: it waits for one less
  ends (moves.Told place disk carried writer key status part node) c =
      let old = was writer key node c.4 in
      of_book writer _ (nodes_all Small (s.objects.book writer) key (Some (lowered (told node status part))) (within_book (s.objects.book writer) key node c.4) (nodes writer) (omega (arith, old)))
  -- drops that close a node: none is there any more
  ends (moves.Closes place disk carried writer key status part node) c =
      of_book writer _ (nodes_all Small (s.objects.book writer) key None (within_book (s.objects.book writer) key node c.4) (nodes writer) (omega arith))
  -- all others: books stay as they are
  ends _ c = nodes

  pub stays_counted : (m : Move) → Can scene s m → Counted (n + 1) (after scene s m)
  stays_counted m c = record { outs = outs m c; ends = ends m c }
