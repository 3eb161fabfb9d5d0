-- What elements, nodes and answers are without their boxes.
use Rattle.std.specs.Prelude.{Option, None, Some}
use Rattle.elem_ledger.specs.declared.element.Element.{Element}
use Rattle.bio_records.specs.declared.bio.Pad.{Pad}
use Rattle.bio_records.specs.declared.bio.Slip.{Slip}
use Rattle.bio_records.specs.declared.segment.Vector.{Vector}
use Rattle.bio_records.specs.declared.body.BioBody.{BioBody}
use Rattle.bio_records.specs.Items.{Item, item_of, IsAlone}
use Rattle.bio_books.specs.declared.node.Back.{Back}
use Rattle.bio_books.specs.declared.node.ClosedNode.{ClosedNode}
use Rattle.bio_books.specs.declared.book.Link.{Link}
use Rattle.bio_books.specs.declared.book.Link.TheVariants as link
use Rattle.bio_books.specs.declared.book.Dropped.{Dropped}
use Rattle.bio_books.specs.declared.book.Dropped.TheVariants as dropped
use Rattle.bio_books.specs.Books.{VectorItem, SlipItem, Holding}
use Rattle.bio_books.specs.Links.{Linked, Made, NoRoom, Stray}
use Rattle.bio_books.specs.Drops.{Closed, DropOutcome}
use Rattle.bio_books.specs.Drops as ended

abbrev pub bio_of : Option (Element (BioBody Pad)) → Option (Item Pad)
bio_of None = None
bio_of (Some element) = Some (item_of element)

abbrev pub vector_of : Option (Element Vector) → Option VectorItem
vector_of None = None
vector_of (Some element) = Some (record { segments = element.body.value.segments.items; share = element.share })

abbrev pub slip_item : Element Slip → SlipItem
slip_item element = record { legs = element.body.value.legs; share = element.share }

abbrev pub slip_of : Option (Element Slip) → Option SlipItem
slip_of None = None
slip_of (Some element) = Some (slip_item element)

abbrev pub holding_of : Back → Holding
holding_of back = record { bio = bio_of back.bio; vector = vector_of back.vector; slip = slip_of back.slip }

-- the bio, if there is one, is in no list
abbrev pub IsAlonePart : Option (Element (BioBody Pad)) → Type 0
IsAlonePart None = Unit {0}
IsAlonePart (Some element) = IsAlone element

abbrev pub linked_of : Link → Linked
linked_of (link.Made place) = Made place
linked_of (link.NoRoom back) = NoRoom (holding_of back)
linked_of (link.Stray back) = Stray (holding_of back)

abbrev pub closed_node_of : ClosedNode → Closed
closed_node_of node = record { held = holding_of node.held; parent = node.parent; write = node.write; status = node.status }

abbrev pub drop_outcome_of : Dropped → DropOutcome
drop_outcome_of dropped.Left = ended.Left
drop_outcome_of (dropped.Up node) = ended.Up (closed_node_of node)
drop_outcome_of (dropped.Top node) = ended.Top (closed_node_of node)
drop_outcome_of (dropped.Stray part) = ended.Stray (bio_of part)

-- each bio that came back of a call that opens a node is in no list; where the node was made, nothing came back
abbrev pub IsLinkAlone : Link → Type 0
IsLinkAlone (link.Made place) = Unit {0}
IsLinkAlone (link.NoRoom back) = IsAlonePart back.bio
IsLinkAlone (link.Stray back) = IsAlonePart back.bio

-- each bio that came back of a drop, alone or in what a closed node held, is in no list; of `Left` nothing came back
abbrev pub IsDroppedAlone : Dropped → Type 0
IsDroppedAlone dropped.Left = Unit {0}
IsDroppedAlone (dropped.Up node) = IsAlonePart node.held.bio
IsDroppedAlone (dropped.Top node) = IsAlonePart node.held.bio
IsDroppedAlone (dropped.Stray part) = IsAlonePart part
