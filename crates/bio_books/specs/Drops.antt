-- How ends are told to nodes, and how nodes close.
use Rattle.std.specs.Prelude.{◌≡◌, ◌<◌, ℕ, Option, None, Some, IsSome, All}
use Rattle.stack_base.specs.declared.ids.Status.{Status}
use Rattle.bio_records.specs.declared.bio.Pad.{Pad}
use Rattle.bio_records.specs.Items.{Item}
use Rattle.bio_books.specs.Books.{Holding, Node, BookState, node_at, with_node, parent_of, closing, told, lowered}

-- what is left of a node that has closed: what it held, the node that it was a child of, its write, and how it ended
pub record Closed : Type 0 where
  pub held : Holding
  pub parent : Option ℕ
  pub write : ℕ
  pub status : Status

abbrev pub closed_of : Node → Closed
closed_of node = record { held = node.held; parent = parent_of node.role; write = node.write; status = closing node.role node.status }

-- what a call that tells a node of an end answers: the node waits for others, it closed and is to be told to its parent, it closed and
-- was a top node, or it was not open, and the part comes back
pub data DropOutcome : Type 0 where
  Left : DropOutcome
  Up : (node : Closed) → DropOutcome
  Top : (node : Closed) → DropOutcome
  Stray : (part : Option (Item Pad)) → DropOutcome

-- an open node is told of an end: it waits for one less, and closes with its last (`bio_endio`, block/bio.c, which goes on only where
-- `bio_remaining_done`)
abbrev pub DropsNode : BookState → ℕ → Node → Status → Option (Item Pad) → DropOutcome → BookState → Type 0
DropsNode old place node status part Left new = (1 < node.count) × (new ≡ with_node old place (Some (lowered (told node status part))))
DropsNode old place node status part (Up closed) new =
    (node.count ≡ 1) × IsSome (parent_of node.role) × (closed ≡ closed_of (told node status part)) × (new ≡ with_node old place None)
DropsNode old place node status part (Top closed) new =
    (node.count ≡ 1) × (parent_of node.role ≡ None) × (closed ≡ closed_of (told node status part)) × (new ≡ with_node old place None)
DropsNode old place node status part (Stray back) new = ⊥

-- the same by what stands at the place: no node, and the part comes back
abbrev pub DropsAt : BookState → ℕ → Option Node → Status → Option (Item Pad) → DropOutcome → BookState → Type 0
DropsAt old place (Some node) status part answer new = DropsNode old place node status part answer new
DropsAt old place None status part (Stray back) new = (back ≡ part) × (new ≡ old)
DropsAt old place None status part Left new = ⊥
DropsAt old place None status part (Up closed) new = ⊥
DropsAt old place None status part (Top closed) new = ⊥

abbrev pub Drops : BookState → ℕ → Status → Option (Item Pad) → DropOutcome → BookState → Type 0
Drops old place status part answer new = DropsAt old place (node_at old place) status part answer new

-- no node of the book is open
abbrev pub IsEmpty : BookState → Type 0
IsEmpty book = All (λ node. node ≡ None) book.nodes
