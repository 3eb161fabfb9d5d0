-- Cutting a run piece by piece: what the heads say of where the next piece begins.
use Rattle.std.specs.Prelude.{◌≡◌, ◌+◌, ◌-◌, ◌%◌, ◌<◌, ◌≤◌, if◌then◌else◌, nat_lt, min, ℕ, zero, suc, List, [], ◌∷◌}
use Rattle.stack_base.specs.declared.stack.Kind.{Kind}
use Rattle.stack_base.specs.declared.stack.Kind.TheVariants.{Disk, Linear, Stripe, Zoned, Limit, Mirror}
use Rattle.stack_base.specs.Mapping.{Slot, slot, head}

-- the first sector behind the member that holds r; past the end each sector is a piece of its own
unfoldable pub next_member : List ℕ → ℕ → ℕ
next_member [] r = r + 1
next_member (size ∷ sizes) r = if nat_lt r size then size else size + next_member sizes (r - size)

-- where the piece that begins at r ends, if the run goes on
unfoldable pub piece_end : Kind → List ℕ → ℕ → ℕ
piece_end Linear sizes r = next_member sizes r
piece_end (Stripe chunk) sizes r = (r - r % chunk) + chunk
piece_end (Zoned chunk) sizes r = (r - r % chunk) + chunk
piece_end (Limit longest zero) sizes r = r + longest
piece_end (Limit longest (suc chunk)) sizes r = min (r + longest) ((r - r % suc chunk) + suc chunk)
piece_end (Disk sectors bad) sizes r = r + 1
piece_end (Mirror records) sizes r = r + 1

-- a device that cuts, with numbers that are not 0
abbrev pub CanCut : Kind → Type 0
CanCut Linear = Unit {0}
CanCut (Stripe chunk) = 1 ≤ chunk
CanCut (Zoned chunk) = 1 ≤ chunk
CanCut (Limit longest chunk) = 1 ≤ longest
CanCut (Disk sectors bad) = ⊥
CanCut (Mirror records) = ⊥

-- what heads, ends and slots have to do with each other: the sectors from r to the next end are one piece that lies in one member
pub record IsCut (head : ℕ → ℕ → ℕ) (next : ℕ → ℕ) (slot : ℕ → Slot) : Type 0 where
  pub ahead : (r : ℕ) → r < next r
  pub here : (r s : ℕ) → r ≤ s → s < next r → head r s ≡ r
  pub later : (r s : ℕ) → next r ≤ s → head r s ≡ head (next r) s
  pub along : (r s : ℕ) → r ≤ s → s < next r → slot s ≡ record { member = (slot r).member; at = (slot r).at + (s - r) }

-- the lengths of a kind's pieces are not 0
abbrev pub HasLengths : Kind → Type 0
HasLengths (Stripe chunk) = 1 ≤ chunk
HasLengths (Zoned chunk) = 1 ≤ chunk
HasLengths (Limit longest chunk) = 1 ≤ longest
HasLengths Linear = Unit {0}
HasLengths (Disk sectors bad) = Unit {0}
HasLengths (Mirror records) = Unit {0}

-- a rest that is submitted again is cut where the whole run is: from a head of the run on, the heads are the same
abbrev pub HeadsStay : Type 0
HeadsStay =
    (kind : Kind) (sizes : List ℕ) (r r2 s : ℕ) → HasLengths kind → r ≤ r2 → head kind sizes r r2 ≡ r2 → r2 ≤ s
    → head kind sizes r2 s ≡ head kind sizes r s

-- the head of a sector is a head, in the run and not behind the sector
abbrev pub HeadsAreHeads : Type 0
HeadsAreHeads =
    (kind : Kind) (sizes : List ℕ) (r s : ℕ) → HasLengths kind → r ≤ s
    → (r ≤ head kind sizes r s) × (head kind sizes r s ≤ s) × (head kind sizes r (head kind sizes r s) ≡ head kind sizes r s)

-- at each kind that cuts, the sectors from one on to the next end are one piece
abbrev pub PiecesAreCuts : Type 0
PiecesAreCuts = (kind : Kind) (sizes : List ℕ) → CanCut kind → IsCut (head kind sizes) (piece_end kind sizes) (slot kind sizes)
