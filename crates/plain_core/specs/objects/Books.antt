-- What an event tells of a node that was told of an end.
use Rattle.std.specs.Prelude.{◌≡◌, ◌-◌, ◌^◌, ◌<◌, ℕ, Bool, MatchBool, Option, None, Some, Result, Ok, Err}
use Rattle.stack_base.specs.declared.ids.Status.{Status}
use Rattle.bio_records.specs.declared.bio.Pad.{Pad}
use Rattle.bio_records.specs.Items.{Item}
use Rattle.bio_books.specs.Books.{BookState, Node, VectorItem, with_kept_part, lowered, node_at, raised, told, with_node}
use Rattle.bio_books.specs.Drops.{Drops, Closed, closed_of}
use Rattle.bio_books.specs.Drops as drop
use Rattle.bio_books.specs.Links.{IsVacant, Made, Opens}
use Rattle.run_machine.specs.declared.event.End.{End}
use Rattle.run_machine.specs.declared.event.End.TheVariants as end
use Rattle.plain_core.specs.declared.objects.book.NodeOutcome.{NodeOutcome}
use Rattle.plain_core.specs.declared.objects.book.NodeOutcome.TheVariants as ended
use Rattle.plain_core.specs.declared.fault.CoreFault.{CoreFault}
use Rattle.plain_core.specs.declared.fault.CoreFault.TheVariants as fault

-- what an end left of a node, and how an event tells it
abbrev pub ended_of_plain : NodeOutcome → drop.DropOutcome
ended_of_plain ended.Left = drop.Left
ended_of_plain (ended.Up closed) = drop.Up closed
ended_of_plain (ended.Top closed) = drop.Top closed

abbrev pub end_of : NodeOutcome → End
end_of ended.Left = end.Left
end_of (ended.Up closed) = end.Up
end_of (ended.Top closed) = end.Top

abbrev pub IsToldBy : End → drop.DropOutcome → Type 0
IsToldBy end.Left drop.Left = Unit {0}
IsToldBy end.Up (drop.Up closed) = Unit {0}
IsToldBy end.Top (drop.Top closed) = Unit {0}
IsToldBy tells ended = ⊥

-- a node was told of an end, or can't be told so that the event tells it
abbrev pub IsEndTold : BookState → ℕ → Status → Option (Item Pad) → End → Option NodeOutcome → BookState → Type 0
IsEndTold old place status part end None new =
    (new ≡ old) × ((answer : drop.DropOutcome) (new : BookState) → IsToldBy end answer → Drops old place status part answer new → ⊥)
IsEndTold old place status part end (Some ended) new = IsToldBy end (ended_of_plain ended) × Drops old place status part (ended_of_plain ended) new

-- the node at this place waits for one end more
abbrev pub IsRaisedAt : BookState → ℕ → BookState → Type 0
IsRaisedAt old place new = (node : Node) → node_at old place ≡ Some node → node.count < 2 ^ 64 - 1 → new ≡ with_node old place (Some (raised node))

-- the node at this place keeps this part, in place of one that it kept
abbrev pub IsKeptAt : BookState → ℕ → Item Pad → BookState → Type 0
IsKeptAt old place part new = (node : Node) → node_at old place ≡ Some node → new ≡ with_node old place (Some (with_kept_part part node))

-- the node at this place was told of an end that was not its last
abbrev pub IsLoweredAt : BookState → ℕ → Status → Option (Item Pad) → BookState → Type 0
IsLoweredAt old place status part new =
    (node : Node) → node_at old place ≡ Some node → 1 < node.count → new ≡ with_node old place (Some (lowered (told node status part)))

-- it was told of an end and has closed, whatever it waited for, and this is left of it
abbrev pub IsClosedAt : BookState → ℕ → Status → Option (Item Pad) → Closed → BookState → Type 0
IsClosedAt old place status part closed new =
    (node : Node) → node_at old place ≡ Some node → (closed ≡ closed_of (told node status part)) × (new ≡ with_node old place None)

-- whether the node of a write was opened at this place: it was, or the place is not vacant
abbrev pub OpensIfVacant : Bool → BookState → ℕ → Option VectorItem → ℕ → BookState → Type 0
OpensIfVacant opened old write vector place new = MatchBool opened (Opens old write vector (Made place) new) ((new ≡ old) × (IsVacant old place → ⊥))

-- A node was opened so, or none can be, or one could be but for memory.
abbrev pub OpensSo : BookState → (BookState → Type 0) → Result (Unit {0}) CoreFault → BookState → Type 0
OpensSo old Does (Ok done) new = Does new
OpensSo old Does (Err fault.NotEnabled) new = (new ≡ old) × ((next : BookState) → Does next → ⊥)
OpensSo old Does (Err fault.Memory) new = (new ≡ old) × (next : BookState) × Does next
