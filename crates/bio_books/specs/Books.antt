-- A book, as contracts see it: its writer, and what stands at each of its places.
use Rattle.std.specs.Prelude.{◌+◌, ◌-◌, ℕ, List, Option, None, Some, slice_index_or, slice_set}
use Rattle.elem_ledger.specs.Ledger.{LedgerId}
use Rattle.stack_base.specs.declared.ids.Status.{Status}
use Rattle.stack_base.specs.declared.ids.Status.TheVariants.{Ok, Io, Medium, NoSpace}
use Rattle.bio_records.specs.declared.bio.Pad.{Pad}
use Rattle.bio_records.specs.declared.segment.Segment.{Segment}
use Rattle.bio_records.specs.Items.{Item}
use Rattle.bio_books.specs.declared.node.Role.{Role}
use Rattle.bio_books.specs.declared.node.Role.TheVariants.{Top, Chain, Master, Leg}

-- a vector without its box: its segments, and the ledger that its share is of
pub record VectorItem : Type 0 where
  pub segments : List Segment
  pub share : LedgerId

-- a record of a mirror without its box: how many legs it has, and the ledger that its share is of
pub record SlipItem : Type 0 where
  pub legs : ℕ
  pub share : LedgerId

-- the elements that a node keeps until it closes
pub record Holding : Type 0 where
  pub bio : Option (Item Pad)
  pub vector : Option VectorItem
  pub slip : Option SlipItem

-- a part of a write that has not ended: what it is to others, its write, how many ends it waits for, how it has ended so far, and what it
-- keeps (the bio that `bio_chain`, block/bio.c, makes the parent of others, with its `__bi_remaining` and `bi_status`)
pub record Node : Type 0 where
  pub role : Role
  pub write : ℕ
  pub count : ℕ
  pub status : Status
  pub held : Holding

-- the number of the book's writer, and for each place the node that is open there, if any is
pub record BookState : Type 0 where
  pub writer : ℕ
  pub nodes : List (Option Node)

-- the node that is open at a place
abbrev pub node_at : BookState → ℕ → Option Node
node_at book place = slice_index_or book.nodes place None

-- the book with this at a place
abbrev pub with_node : BookState → ℕ → Option Node → BookState
with_node book place node = record book { nodes = slice_set book.nodes place node }

-- the node that a node is a child of
abbrev pub parent_of : Role → Option ℕ
parent_of Top = None
parent_of (Chain parent) = Some parent
parent_of (Master parent) = Some parent
parent_of (Leg parent) = Some parent

abbrev pub nothing_held : Holding
nothing_held = record { bio = None; vector = None; slip = None }

-- what a new top node holds, and what is handed back where there is no room for it
abbrev pub holding_vector : Option VectorItem → Holding
holding_vector vector = record { bio = None; vector = vector; slip = None }

-- what a new master holds: the mirror's record, which has the number of its legs from then on
abbrev pub holding_slip : SlipItem → ℕ → Holding
holding_slip slip legs = record { bio = None; vector = None; slip = Some (record slip { legs = legs }) }

-- what is handed back where there is no room for a master: the bio and the record as they came
abbrev pub unmastered : Item Pad → SlipItem → Holding
unmastered part slip = record { bio = Some part; vector = None; slip = Some slip }

-- a new top node, of one end
abbrev pub top_node : ℕ → Option VectorItem → Node
top_node write vector = record { role = Top; write = write; count = 1; status = Ok; held = holding_vector vector }

-- a new child of a node, of the same write and of one end
abbrev pub child_node : ℕ → ℕ → Node
child_node write parent = record { role = Chain parent; write = write; count = 1; status = Ok; held = nothing_held }

-- a new master, which stands for the own part of a node, and is of the same write: of as many ends as the mirror has legs, none of which
-- was well so far (`alloc_r1bio` with `remaining`, drivers/md/raid1.c, and `R1BIO_Uptodate`, which is not set)
abbrev pub master_node : ℕ → ℕ → SlipItem → ℕ → Node
master_node write parent slip legs = record { role = Master parent; write = write; count = legs; status = Io; held = holding_slip slip legs }

-- a new leg of a node, of the same write and of one end
abbrev pub leg_node : ℕ → ℕ → Node
leg_node write parent = record { role = Leg parent; write = write; count = 1; status = Ok; held = nothing_held }

-- a node that keeps this part, in place of one that it kept
abbrev pub with_kept_part : Item Pad → Node → Node
with_kept_part part node = record node { held = record node.held { bio = Some part } }

-- a node that waits for one more end (`bio_inc_remaining`, block/bio.c)
abbrev pub raised : Node → Node
raised node = record node { count = node.count + 1 }

-- of two ends, the first that failed
abbrev pub first_failing : Status → Status → Status
first_failing Ok later = later
first_failing Io later = Io
first_failing Medium later = Medium
first_failing NoSpace later = NoSpace

-- of two ends, one that was well, if one was
abbrev pub any_well : Status → Status → Status
any_well old Ok = Ok
any_well old Io = old
any_well old Medium = old
any_well old NoSpace = old

-- how a node of a role has ended, with one more end: a master is marked by `Ok` as soon as one leg ended well (`raid1_end_write_request`,
-- drivers/md/raid1.c, sets `R1BIO_Uptodate`), and any other node keeps the first end that failed (`__bio_chain_endio`, block/bio.c, writes
-- the parent's `bi_status` where the child failed and the parent had not)
abbrev pub kept_with : Role → Status → Status → Status
kept_with Top old new = first_failing old new
kept_with (Chain parent) old new = first_failing old new
kept_with (Master parent) old new = any_well old new
kept_with (Leg parent) old new = first_failing old new

-- well where the mark is set, else with an error of no kind (`call_bio_endio`, drivers/md/raid1.c)
abbrev pub by_mark : Status → Status
by_mark Ok = Ok
by_mark Io = Io
by_mark Medium = Io
by_mark NoSpace = Io

-- how a node of a role ends as it closes
abbrev pub closing : Role → Status → Status
closing Top status = status
closing (Chain parent) status = status
closing (Master parent) status = by_mark status
closing (Leg parent) status = status

-- a part that comes takes the place of one that was kept
abbrev pub later_part : Option (Item Pad) → Option (Item Pad) → Option (Item Pad)
later_part held None = held
later_part held (Some part) = Some part

-- a node with one of its ends told, its count apart
abbrev pub told : Node → Status → Option (Item Pad) → Node
told node status part = record node {
  status = kept_with node.role node.status status;
  held = record node.held { bio = later_part node.held.bio part };
}

-- a node that waits for one end less (`atomic_dec_and_test` in `bio_remaining_done`, block/bio.c)
abbrev pub lowered : Node → Node
lowered node = record node { count = node.count - 1 }
