-- How a run ends on a disk: what decides it are the bad ranges of the disk, in the order in which they are declared.
use Rattle.std.specs.Prelude.{◌≡◌, ◌⊎◌, ◌+◌, ◌<◌, ◌≤◌, ◌&&◌, if◌then◌else◌, nat_lt, fold, max, min, slice_get, ℕ, Bool, true, false, IsTrue, List, [], Option, None, Some}
use Rattle.std.specs.Option.{option_map_or}
use Rattle.stack_base.specs.declared.ids.Range.{Range}
use Rattle.stack_base.specs.declared.ids.Bad.{Bad}
use Rattle.stack_base.specs.declared.ids.Status.{Status}
use Rattle.stack_base.specs.declared.ids.Status.TheVariants as status
use Rattle.stack_base.specs.declared.stack.Kind.{Kind}
use Rattle.stack_base.specs.declared.stack.Kind.TheVariants.{Disk, Linear, Stripe, Zoned, Limit, Mirror}

abbrev pub status_eq : Status → Status → Bool
status_eq status.Ok status.Ok = true
status_eq status.Io status.Io = true
status_eq status.Medium status.Medium = true
status_eq status.NoSpace status.NoSpace = true
status_eq one other = false

-- the bad ranges of a disk; no other device has any
abbrev pub bads_of_kind : Kind → List Bad
bads_of_kind (Disk sectors bad) = bad.items
bads_of_kind Linear = []
bads_of_kind (Stripe chunk) = []
bads_of_kind (Zoned chunk) = []
bads_of_kind (Limit longest chunk) = []
bads_of_kind (Mirror records) = []

-- whether two ranges share a sector: the later start is before the earlier end. A range of no sectors shares none
abbrev pub touches : Range → Range → Bool
touches one other = nat_lt (max one.start other.start) (min (one.start + one.len) (other.start + other.len))

-- whether a bad range starts before the one that was found so far, if any was
abbrev pub starts_before : Bad → Option Bad → Bool
starts_before bad None = true
starts_before bad (Some found) = nat_lt bad.range.start found.range.start

-- what is found so far, and the next bad range
abbrev pub better : Range → Option Bad → Bad → Option Bad
better range found bad = if touches bad.range range && starts_before bad found then Some bad else found

-- the bad range that decides how a run ends: of those that the run touches the one that starts first, and of these the earliest
abbrev pub deciding : Range → List Bad → Option Bad
deciding range bads = fold (better range) None bads

-- how a run ends where these ranges are bad
abbrev pub fault : List Bad → Range → Status
fault bads range = option_map_or (λ (bad : Bad). bad.kind) (deciding range bads) status.Ok

-- the run touches none of them
abbrev pub AreUntouched : List Bad → Range → Type 0
AreUntouched bads range = (place : ℕ) (bad : Bad) → slice_get bads place ≡ Some bad → touches bad.range range ≡ false

-- the bad range at this place decides how the run ends: the run touches it, and each other that it touches starts behind it, or with it
-- and is declared later
pub record DecidesAt (bads : List Bad) (range : Range) (place : ℕ) (bad : Bad) : Type 0 where
  pub there : slice_get bads place ≡ Some bad
  pub touched : IsTrue (touches bad.range range)
  pub first : (other_place : ℕ) (other : Bad) → slice_get bads other_place ≡ Some other → IsTrue (touches other.range range)
      → (bad.range.start < other.range.start) ⊎ ((bad.range.start ≡ other.range.start) × (place ≤ other_place))

-- the sector is one of the range's
abbrev pub IsInRange : ℕ → Range → Type 0
IsInRange x range = (range.start ≤ x) × (x < range.start + range.len)

-- a run touches a bad range where they share a sector; one that touches none ends well, and any other as the one that decides it says; no
-- two decide it
pub record FaultsAreDecided : Type 0 where
  pub shared : (one other : Range) → IsTrue (touches one other) → (x : ℕ) × IsInRange x one × IsInRange x other
  pub touched : (one other : Range) (x : ℕ) → IsInRange x one → IsInRange x other → IsTrue (touches one other)
  pub decided : (bads : List Bad) (range : Range)
      → (AreUntouched bads range × (fault bads range ≡ status.Ok))
      ⊎ ((place : ℕ) × (bad : Bad) × DecidesAt bads range place bad × (fault bads range ≡ bad.kind))
  pub once : (bads : List Bad) (range : Range) (p q : ℕ) (a b : Bad) → DecidesAt bads range p a → DecidesAt bads range q b → (p ≡ q) × (a ≡ b)
