-- How nodes are opened and linked.
use Rattle.std.specs.Prelude.{◌≡◌, ◌⊎◌, ◌-◌, ◌^◌, ◌<◌, ℕ, Option, None, Some, IsSome, slice_get, All}
use Rattle.bio_records.specs.declared.bio.Pad.{Pad}
use Rattle.bio_records.specs.Items.{Item}
use Rattle.bio_books.specs.Books.{VectorItem, SlipItem, Holding, Node, BookState, node_at, with_node, nothing_held, holding_vector, unmastered, top_node, child_node, master_node, leg_node, with_kept_part, raised}

-- what a call that opens a node answers: its place, or what it was to hold, where there is no room or the named parent is not open
pub data Linked : Type 0 where
  Made : (place : ℕ) → Linked
  NoRoom : (back : Holding) → Linked
  Stray : (back : Holding) → Linked

-- no node is open at this place of the book
abbrev pub IsVacant : BookState → ℕ → Type 0
IsVacant book place = slice_get book.nodes place ≡ Some None

-- a node is open at each place of the book
abbrev pub HasNoVacant : BookState → Type 0
HasNoVacant book = All IsSome book.nodes

-- a write gets its top node at any vacant place; where there is none, the vector comes back (`bio_alloc_bioset`, block/bio.c, which Linux
-- lets wait)
abbrev pub Opens : BookState → ℕ → Option VectorItem → Linked → BookState → Type 0
Opens old write vector (Made place) new = IsVacant old place × (new ≡ with_node old place (Some (top_node write vector)))
Opens old write vector (NoRoom back) new = HasNoVacant old × (back ≡ holding_vector vector) × (new ≡ old)
Opens old write vector (Stray back) new = ⊥

-- an open node gets a child at any vacant place, and waits for it (`bio_chain`, block/bio.c); none where there is no vacant place, or
-- where it waits for as many ends as can be counted
abbrev pub ChainsTo : BookState → ℕ → Node → Linked → BookState → Type 0
ChainsTo old parent node (Made place) new =
    (node.count < 2 ^ 64 - 1) × IsVacant old place
    × (new ≡ with_node (with_node old place (Some (child_node node.write parent))) parent (Some (raised node)))
ChainsTo old parent node (NoRoom back) new = (HasNoVacant old ⊎ (node.count ≡ 2 ^ 64 - 1)) × (back ≡ nothing_held) × (new ≡ old)
ChainsTo old parent node (Stray back) new = ⊥

-- the same by what stands at the parent's place: no node, and the call is stray
abbrev pub ChainsAt : BookState → ℕ → Option Node → Linked → BookState → Type 0
ChainsAt old parent (Some node) answer new = ChainsTo old parent node answer new
ChainsAt old parent None (Stray back) new = (back ≡ nothing_held) × (new ≡ old)
ChainsAt old parent None (Made place) new = ⊥
ChainsAt old parent None (NoRoom back) new = ⊥

abbrev pub Chains : BookState → ℕ → Linked → BookState → Type 0
Chains old parent answer new = ChainsAt old parent (node_at old parent) answer new

-- an open node gets a master at any vacant place, which stands for its own part, and keeps that part meanwhile; it waits for no further
-- end (`raid1_write_request`, drivers/md/raid1.c, whose `master_bio` is the bio that the mirror serves)
abbrev pub MastersTo : BookState → ℕ → Node → Item Pad → SlipItem → ℕ → Linked → BookState → Type 0
MastersTo old parent node part slip legs (Made place) new =
    IsVacant old place × (new ≡ with_node (with_node old place (Some (master_node node.write parent slip legs))) parent (Some (with_kept_part part node)))
MastersTo old parent node part slip legs (NoRoom back) new = HasNoVacant old × (back ≡ unmastered part slip) × (new ≡ old)
MastersTo old parent node part slip legs (Stray back) new = ⊥

abbrev pub MastersAt : BookState → ℕ → Option Node → Item Pad → SlipItem → ℕ → Linked → BookState → Type 0
MastersAt old parent (Some node) part slip legs answer new = MastersTo old parent node part slip legs answer new
MastersAt old parent None part slip legs (Stray back) new = (back ≡ unmastered part slip) × (new ≡ old)
MastersAt old parent None part slip legs (Made place) new = ⊥
MastersAt old parent None part slip legs (NoRoom back) new = ⊥

abbrev pub Masters : BookState → ℕ → Item Pad → SlipItem → ℕ → Linked → BookState → Type 0
Masters old parent part slip legs answer new = MastersAt old parent (node_at old parent) part slip legs answer new

-- an open node gets a leg at any vacant place; a master has counted its legs already, so no node waits for one end more
abbrev pub LegsTo : BookState → ℕ → Node → Linked → BookState → Type 0
LegsTo old master node (Made place) new = IsVacant old place × (new ≡ with_node old place (Some (leg_node node.write master)))
LegsTo old master node (NoRoom back) new = HasNoVacant old × (back ≡ nothing_held) × (new ≡ old)
LegsTo old master node (Stray back) new = ⊥

abbrev pub LegsAt : BookState → ℕ → Option Node → Linked → BookState → Type 0
LegsAt old master (Some node) answer new = LegsTo old master node answer new
LegsAt old master None (Stray back) new = (back ≡ nothing_held) × (new ≡ old)
LegsAt old master None (Made place) new = ⊥
LegsAt old master None (NoRoom back) new = ⊥

abbrev pub Legs : BookState → ℕ → Linked → BookState → Type 0
Legs old master answer new = LegsAt old master (node_at old master) answer new
