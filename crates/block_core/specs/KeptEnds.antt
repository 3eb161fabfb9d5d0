-- What nodes keep of the ends that a run told them of.
use Rattle.std.specs.Prelude.{◌≡◌, ◌≢◌, ◌++◌, ◌==◌, ◌&&◌, ◌⊎◌, if◌then◌else◌, ℕ, Bool, true, false, List, [], ◌∷◌, All, Contains, Some}
use Rattle.stack_base.specs.declared.ids.Status.{Status}
use Rattle.stack_base.specs.declared.ids.Status.TheVariants.{Ok}
use Rattle.bio_books.specs.Books.{Node, node_at}
use Rattle.run_machine.specs.declared.event.Event.{Event}
use Rattle.run_machine.specs.declared.event.What.{What}
use Rattle.run_machine.specs.declared.event.What.TheVariants as what
use Rattle.run_machine.specs.Runs.{State}
use Rattle.block_core.specs.Touches.{is_master}

-- the ends that the node at place k of writer w's book was told of, since it was opened there last, once this event has come
abbrev pub ends_after : (w k : ℕ) → What → List Status → List Status
ends_after w k (what.Link writer how node) ends = if writer == w && node == k then [] else ends
ends_after w k (what.Drop writer node status end) ends = if writer == w && node == k then ends ++ status ∷ [] else ends
ends_after w k what ends = ends

-- and once all these have
abbrev pub ends_told : (w k : ℕ) → List Event → List Status → List Status
ends_told w k [] ends = ends
ends_told w k (event ∷ events) ends = ends_told w k events (ends_after w k event.what ends)

-- a node that is no master keeps `Ok` exactly where each end was `Ok`, and else one of them that was not
abbrev pub KeepsFailure : List Status → Status → Type 0
KeepsFailure ends status = ((status ≡ Ok) × All (λ end. end ≡ Ok) ends) ⊎ ((status ≢ Ok) × Contains ends status)

-- a master keeps `Ok`, its mark, exactly where one of its legs ended so
abbrev pub KeepsMark : List Status → Status → Type 0
KeepsMark ends status = ((status ≡ Ok) × Contains ends Ok) ⊎ ((status ≢ Ok) × All (λ end. end ≢ Ok) ends)

abbrev pub KeepsEnds : (is_master : Bool) → List Status → Status → Type 0
KeepsEnds false ends status = KeepsFailure ends status
KeepsEnds true ends status = KeepsMark ends status

-- each open node keeps what these events told it since it was opened
abbrev pub EndsAreKept : List Event → State → Type 0
EndsAreKept events state = (w k : ℕ) (node : Node) → node_at (state.objects.book w) k ≡ Some node → KeepsEnds (is_master node.role) (ends_told w k events []) node.status
