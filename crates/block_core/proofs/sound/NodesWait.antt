-- An open node waits for at least one end.
use Rattle.std.proofs.Common.{◌≡◌, ◌<◌, ◌≤◌, ℕ, length, Option, None, Some, refl, sym, subst, arith}
use Rattle.std.proofs.lemmas.List.{length-set}
use Rattle.stack_base.specs.Tree.{Tree, Leaf, Split, Mirrored}
use Rattle.bio_books.specs.Books.{Node, BookState, node_at, with_node, top_node, child_node, master_node, leg_node, with_kept_part, raised, lowered, told}
use Rattle.bio_books.specs.Links.{IsVacant}
use Rattle.run_machine.specs.Maps.{upd}
use Rattle.run_machine.specs.Scene.{Scene, tree_at}
use Rattle.run_machine.specs.Submissions.{ToMaster, Drives, legs_of}
use Rattle.run_machine.specs.Runs.{State}
use Rattle.block_core.proofs.moves.Moves.{Move, Can, after, vector_of}
use Rattle.block_core.proofs.moves.Moves as moves
use Rattle.block_core.proofs.moves.Sums.{within_book, with_node_is}
use Rattle.block_core.proofs.moves.Geometry.{IsCopied}
use Rattle.block_core.proofs.sound.TaskSubmissions.{all-upd}
use Rattle.block_core.proofs.sound.Orders.{AskFits, Placed, DeviceGeometry}
use Rattle.block_core.proofs.sound.OrdersKept.{placed_at}
use Rattle.block_core.proofs.moves.Deltas.{vacant_at}

abbrev pub IsAlive : Option Node → Type 0
IsAlive None = Unit {0}
IsAlive (Some node) = 1 ≤ node.count

-- what is so of all places of a book is so when one of them changes
pub nodes_all : (P : Option Node → Type 0) (book : BookState) (place : ℕ) (v : Option Node) → place < length book.nodes → ((k : ℕ) → P (node_at book k)) → P v
    → (k : ℕ) → P (node_at (with_node book place v) k)
nodes_all P book place v lt all here k = subst P (sym (with_node_is book place v lt k)) (all-upd P (node_at book) place v all here k)

-- and of all places of all books
pub books_all : (P : Option Node → Type 0) (f : ℕ → BookState) (writer : ℕ) (book : BookState) → ((w k : ℕ) → P (node_at (f w) k)) → ((k : ℕ) → P (node_at book k))
    → (w k : ℕ) → P (node_at (upd f writer book w) k)
books_all P f writer book all here w k = all-upd (λ (b : BookState). (k : ℕ) → P (node_at b k)) f writer book all here w k

-- a node is made, and the one above it becomes another
pub two_all : (P : Option Node → Type 0) (book : BookState) (key parent : ℕ) (node child new : Node) → IsVacant book key → node_at book parent ≡ Some node
    → ((k : ℕ) → P (node_at book k)) → P (Some child) → P (Some new) → (k : ℕ) → P (node_at (with_node (with_node book key (Some child)) parent (Some new)) k)
two_all P book key parent node child new v at all c n k =
    let a = vacant_at book key v in
    let b = within_book book parent node at in
    let second = with_node book key (Some child) in
    let same : length second.nodes ≡ length book.nodes = length-set book.nodes key (Some child) in
    nodes_all P second parent (Some new) (omega (arith, b, same)) (nodes_all P book key (Some child) a.1 all c) n k

module _ (scene : Scene) (s : State) (g : DeviceGeometry scene.setup) (p : Placed scene.setup s) (i : (w k : ℕ) → IsAlive (node_at (s.objects.book w) k)) where
  of_book : (writer : ℕ) (book : BookState) → ((k : ℕ) → IsAlive (node_at book k)) → (w k : ℕ) → IsAlive (node_at (upd s.objects.book writer book w) k)
  of_book writer book here = books_all IsAlive s.objects.book writer book i here

  -- a node that is open
  was : (writer key : ℕ) (node : Node) → node_at (s.objects.book writer) key ≡ Some node → 1 ≤ node.count
  was writer key node at = subst IsAlive at (i writer key)

  pub alive : (m : Move) → Can scene s m → (w k : ℕ) → IsAlive (node_at ((after scene s m).objects.book w) k)
  -- links of writes: the top node waits for one end
  alive (moves.Begins place writer todo later item vector key) c =
      let v = vacant_at (s.objects.book writer) key c.3 in
      of_book writer _ (nodes_all IsAlive (s.objects.book writer) key (Some (top_node todo.number (vector_of todo vector))) v.1 (i writer) (omega arith))
  -- links of pieces: the new node waits for one end, and the node above it for one more than before
  alive (moves.Chained place x bio lists hand number kind sizes members key node) c =
      let old = was bio.bio.writer bio.bio.node node c.5 in
      of_book bio.bio.writer _ (two_all IsAlive (s.objects.book bio.bio.writer) key bio.bio.node node (child_node node.write bio.bio.node) (raised node) c.6 c.5 (i bio.bio.writer) (omega arith) (omega (arith, old)))
  -- links of masters: the master waits for its legs, of which a mirror has one at least
  alive (moves.Mastered place x bio lists slip key node) c =
      let old = was bio.bio.writer bio.bio.node node c.4 in
      let d = placed_at scene.setup s p place x (Drives bio (ToMaster slip)) lists c.1 c.2 in
      let legs : 1 ≤ legs_of (tree_at scene.setup bio.bio.dev) = by_tree (tree_at scene.setup bio.bio.dev) refl d.3 (g.copied bio.bio d.1.0.0) in
      of_book bio.bio.writer _
      (two_all IsAlive (s.objects.book bio.bio.writer) key bio.bio.node node (master_node node.write bio.bio.node slip (legs_of (tree_at scene.setup bio.bio.dev))) (with_kept_part bio node) c.5 c.4 (i bio.bio.writer) legs old)
    where
      by_tree : (t : Tree) → tree_at scene.setup bio.bio.dev ≡ t → AskFits t bio.bio.range bio.bio.dev.0 (ToMaster slip) → IsCopied t → 1 ≤ legs_of t
      by_tree (Leaf number sectors) is a has = absurd a
      by_tree (Split number kind sizes members) is a has = absurd a
      by_tree (Mirrored number sizes members) is a has = has.0
  -- links of legs: the node of the leg waits for one end
  alive (moves.Legged place x bio lists master leg hand key node) c =
      let v = vacant_at (s.objects.book bio.writer) key c.5 in
      of_book bio.writer _ (nodes_all IsAlive (s.objects.book bio.writer) key (Some (leg_node node.write master)) v.1 (i bio.writer) (omega arith))
  -- drops that leave a node open: it waited for more than one end
  alive (moves.Told place disk carried writer key status part node) c =
      let lt = c.5 in
      of_book writer _ (nodes_all IsAlive (s.objects.book writer) key (Some (lowered (told node status part))) (within_book (s.objects.book writer) key node c.4) (i writer) (omega (arith, lt)))
  -- drops that close a node: its place is vacant then
  alive (moves.Closes place disk carried writer key status part node) c =
      of_book writer _ (nodes_all IsAlive (s.objects.book writer) key None (within_book (s.objects.book writer) key node c.4) (i writer) tt)
  -- all others: no book changes
  alive _ c = i
