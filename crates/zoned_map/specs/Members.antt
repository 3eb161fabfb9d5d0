-- What a zoned device keeps, and which of its sectors a sector of a member is.
use Rattle.std.specs.Prelude.{◌≡◌, ◌^◌, ◌<◌, ◌≤◌, ◌*◌, ◌/◌, ℕ, List, length, sum, slice_index, Option, None, Some}
use Rattle.stack_base.specs.declared.stack.Kind.TheVariants.{Zoned}
use Rattle.stack_base.specs.Mapping.{size_of, slot, whole_chunks, Zone, zones}
use Rattle.stack_base.specs.Stack.{HasShape}

-- the sectors of a chunk, and the sizes of the members
pub record Members : Type 0 where
  pub chunk : ℕ
  pub sizes : List ℕ

-- they are those of a zoned device, whose size and zones are kept beside
pub record IsZoned (chunk : ℕ) (sizes : List ℕ) (sectors : ℕ) (kept : List Zone) : Type 0 where
  pub shape : HasShape (Zoned chunk) (length sizes)
  pub small : sum sizes < 2 ^ 32
  pub whole : sectors ≡ size_of (Zoned chunk) sizes
  pub zones : kept ≡ zones (whole_chunks chunk sizes)

-- sector s of the device is this sector of the member
abbrev pub IsPlace : ℕ → List ℕ → ℕ → ℕ → ℕ → Type 0
IsPlace chunk sizes member at s =
    (s < size_of (Zoned chunk) sizes) × (slot (Zoned chunk) sizes s ≡ record { member = member; at = at })

-- which sector of the device a sector of a member is: exactly one where it is in a whole chunk of the member, and else none
abbrev pub IsSectorOf : ℕ → List ℕ → ℕ → ℕ → Option ℕ → Type 0
IsSectorOf chunk sizes member at None =
    (slice_index sizes member / chunk * chunk ≤ at) × ((other : ℕ) → IsPlace chunk sizes member at other → ⊥)
IsSectorOf chunk sizes member at (Some s) =
    (at < slice_index sizes member / chunk * chunk) × IsPlace chunk sizes member at s
    × ((other : ℕ) → IsPlace chunk sizes member at other → other ≡ s)
