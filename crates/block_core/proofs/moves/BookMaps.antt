-- Nodes of books as maps, when one or two of them change.
use Rattle.std.proofs.Common.{◌≡◌, ◌≢◌, ◌+◌, ◌*◌, ◌<◌, ℕ, length, Option, None, Some, inl, inr, sym, ◌∙◌, ap, subst, arith}
use Rattle.std.proofs.lemmas.List.{get_or-set_same, get_or-set_other}
use Rattle.bio_books.specs.Books.{Node, BookState, node_at, with_node}
use Rattle.bio_books.specs.Links.{IsVacant}
use Rattle.run_machine.specs.Maps.{upd}
use Rattle.block_core.specs.Weights.{one_if_same}
use Rattle.block_core.proofs.moves.Sums.{upd-same, upd-other, within_book, one-same, one-other, same_or_not}
use Rattle.block_core.proofs.moves.Deltas.{other_place, vacant_at}

-- a book's node once one place of the book is another
pub place_upd : (g : Option Node → ℕ) (book : BookState) (place : ℕ) (v : Option Node) (k : ℕ) → place < length book.nodes
    → g (node_at (with_node book place v) k) + one_if_same place k * g (node_at book place) ≡ g (node_at book k) + one_if_same place k * g v
place_upd g book place v k lt = elim (same_or_not place k) [
  | inl e ↦
      let Q : ℕ → Type 0 = λ x. g (node_at (with_node book place v) x) + one_if_same place x * g (node_at book place) ≡ g (node_at book x) + one_if_same place x * g v in
      let c : node_at (with_node book place v) place ≡ v = get_or-set_same book.nodes place v None lt in
      subst Q e (rw (c, one-same place) (omega arith))
  | inr ne ↦
      let c : node_at (with_node book place v) k ≡ node_at book k = get_or-set_other book.nodes place k v None (λ q. ne (sym q)) in
      let z : one_if_same place k ≡ 0 = one-other place k ne in
      rw (c, z) (omega arith)
]

-- what is so of one book is so of all, where the others stay
pub book_change : (g : Option Node → ℕ) (f : ℕ → BookState) (writer : ℕ) (b : BookState) (w k lost gained : ℕ)
    → g (node_at b k) + lost ≡ g (node_at (f writer) k) + gained
    → g (node_at (upd f writer b w) k) + one_if_same writer w * lost ≡ g (node_at (f w) k) + one_if_same writer w * gained
book_change g f writer b w k lost gained h = elim (same_or_not writer w) [
  | inl e ↦
      let Q : ℕ → Type 0 = λ x. g (node_at (upd f writer b x) k) + one_if_same writer x * lost ≡ g (node_at (f x) k) + one_if_same writer x * gained in
      let a : upd f writer b writer ≡ b = upd-same f writer b in
      subst Q e (rw (a, one-same writer) (omega arith))
  | inr ne ↦
      let a : upd f writer b w ≡ f w = upd-other f writer b w (λ q. ne (sym q)) in
      let z : one_if_same writer w ≡ 0 = one-other writer w ne in
      rw (a, z) (omega arith)
]

-- a node is made at a vacant place
pub made : (g : Option Node → ℕ) → g None ≡ 0 → (f : ℕ → BookState) (writer key : ℕ) (node : Node) (w k n : ℕ) → IsVacant (f writer) key → g (Some node) ≡ n
    → g (node_at (upd f writer (with_node (f writer) key (Some node)) w) k) ≡ g (node_at (f w) k) + one_if_same writer w * (one_if_same key k * n)
made g zero_at f writer key node w k n v m =
    let a = vacant_at (f writer) key v in
    let z : g (node_at (f writer) key) ≡ 0 = ap g a.0 ∙ zero_at in
    let b = place_upd g (f writer) key (Some node) k a.1 in
    let c : g (node_at (with_node (f writer) key (Some node)) k) + 0 ≡ g (node_at (f writer) k) + one_if_same key k * n =
    omega (arith, b, ap (λ x. one_if_same key k * x) z, ap (λ x. one_if_same key k * x) m) in
    omega (arith, book_change g f writer (with_node (f writer) key (Some node)) w k 0 (one_if_same key k * n) c)

-- a node becomes another, or none
pub became : (g : Option Node → ℕ) (f : ℕ → BookState) (writer key : ℕ) (node : Node) (new : Option Node) (w k lost : ℕ) → node_at (f writer) key ≡ Some node → g new + lost ≡ g (Some node)
    → g (node_at (upd f writer (with_node (f writer) key new) w) k) + one_if_same writer w * (one_if_same key k * lost) ≡ g (node_at (f w) k)
became g f writer key node new w k lost at m =
    let lt = within_book (f writer) key node at in
    let z : g (node_at (f writer) key) ≡ g (Some node) = ap g at in
    let b = place_upd g (f writer) key new k lt in
    let c : g (node_at (with_node (f writer) key new) k) + one_if_same key k * lost ≡ g (node_at (f writer) k) + 0 =
    omega (arith, b, ap (λ x. one_if_same key k * x) z, ap (λ x. one_if_same key k * x) m) in
    omega (arith, book_change g f writer (with_node (f writer) key new) w k (one_if_same key k * lost) 0 c)

-- a node is made, and the one that it is made under becomes another
pub chained : (g : Option Node → ℕ) → g None ≡ 0 → (f : ℕ → BookState) (writer key parent : ℕ) (node child new : Node) (w k n more less : ℕ) → IsVacant (f writer) key → node_at (f writer) parent ≡ Some node
    → g (Some child) ≡ n → g (Some new) + less ≡ g (Some node) + more
    → g (node_at (upd f writer (with_node (with_node (f writer) key (Some child)) parent (Some new)) w) k) + one_if_same writer w * (one_if_same parent k * less)
    ≡ g (node_at (f w) k) + one_if_same writer w * (one_if_same key k * n + one_if_same parent k * more)
chained g zero_at f writer key parent node child new w k n more less v at m h =
    let a = vacant_at (f writer) key v in
    let z : g (node_at (f writer) key) ≡ 0 = ap g a.0 ∙ zero_at in
    let ne : parent ≢ key = other_place (f writer) key parent node v at in
    let second = with_node (f writer) key (Some child) in
    let other : node_at second parent ≡ Some node = get_or-set_other (f writer).nodes key parent (Some child) None ne ∙ at in
    let lt = within_book second parent node other in
    let b1 = place_upd g (f writer) key (Some child) k a.1 in
    let b2 = place_upd g second parent (Some new) k lt in
    let q : g (node_at second parent) ≡ g (Some node) = ap g other in
    let c : g (node_at (with_node second parent (Some new)) k) + one_if_same parent k * less ≡ g (node_at (f writer) k) + (one_if_same key k * n + one_if_same parent k * more) =
    omega (arith, b1, b2, ap (λ x. one_if_same key k * x) z, ap (λ x. one_if_same key k * x) m, ap (λ x. one_if_same parent k * x) q, ap (λ x. one_if_same parent k * x) h) in
    book_change g f writer (with_node second parent (Some new)) w k (one_if_same parent k * less) (one_if_same key k * n + one_if_same parent k * more) c
