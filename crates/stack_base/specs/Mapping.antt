-- Where a device puts its sectors, and where it cuts a run. A device is seen by its kind and the sizes of its members, in their order.
use Rattle.std.specs.Prelude.{◌+◌, ◌-◌, ◌*◌, ◌/◌, ◌%◌, if◌then◌else◌, nat_lt, nat_le, nat_eq, max, min, ℕ, zero, suc, List, [], ◌∷◌, length, map, sum, fold, slice_index}
use Rattle.std.specs.List.{filter, list_any, range_with_len}
use Rattle.stack_base.specs.declared.stack.Kind.{Kind}
use Rattle.stack_base.specs.declared.stack.Kind.TheVariants.{Disk, Linear, Stripe, Zoned, Limit, Mirror}

-- a member of a device, by its place, and a sector of it
pub record Slot : Type 0 where
  pub member : ℕ
  pub at : ℕ

unfoldable pub smallest : List ℕ → ℕ
smallest [] = 0
smallest (size ∷ sizes) = fold min size sizes

-- how many whole chunks each member has
abbrev pub whole_chunks : ℕ → List ℕ → List ℕ
whole_chunks chunk sizes = map (λ size. size / chunk) sizes

-- how many sectors a device has
unfoldable pub size_of : Kind → List ℕ → ℕ
size_of (Disk sectors bad) sizes = sectors
size_of Linear sizes = sum sizes
size_of (Stripe chunk) sizes = length sizes * chunk * (smallest sizes / chunk)
size_of (Zoned chunk) sizes = chunk * sum (whole_chunks chunk sizes)
size_of (Limit longest chunk) sizes = smallest sizes
size_of (Mirror records) sizes = smallest sizes

-- members one behind the other: the first whose sizes up to it pass s, and how far s stands behind the sizes before.
-- Behind the last member each sector is a piece of its own
unfoldable pub among : List ℕ → ℕ → Slot
among [] s = record { member = 0; at = 0 }
among (size ∷ sizes) s =
    if nat_lt s size then record { member = 0; at = s }
    else (let behind = among sizes (s - size) in record { member = behind.member + 1; at = behind.at })

-- a zone of a zoned device: which members it goes round, the chunk of each of them that it begins at, and how many chunks it has
pub record Zone : Type 0 where
  pub members : List ℕ
  pub base : ℕ
  pub chunks : ℕ

-- the levels at which zones end: the different positive numbers of chunks that members have, rising
unfoldable pub levels : List ℕ → List ℕ
levels counts = filter (λ level. list_any (λ count. nat_eq count level) counts) (range_with_len 1 (fold max 0 counts))

-- the members that have at least so many chunks, in their order
unfoldable pub reaching : List ℕ → ℕ → List ℕ
reaching counts level = filter (λ member. nat_le level (slice_index counts member)) (range_with_len 0 (length counts))

-- a zone goes from one level to the next, round the members that reach the latter
unfoldable pub zones_from : List ℕ → ℕ → List ℕ → List Zone
zones_from counts base [] = []
zones_from counts base (level ∷ levels) =
    let members = reaching counts level in
    record { members = members; base = base; chunks = length members * (level - base) } ∷ zones_from counts level levels

-- the zones of members that have so many chunks
abbrev pub zones : List ℕ → List Zone
zones counts = zones_from counts 0 (levels counts)

-- the member and the chunk of it that the chunk with this number in a zone is: chunks go round the zone's members
abbrev pub in_zone : Zone → ℕ → Slot
in_zone zone number =
    record { member = slice_index zone.members (number % length zone.members); at = zone.base + number / length zone.members }

-- zones stand one behind the other
unfoldable pub in_zones : List Zone → ℕ → Slot
in_zones [] number = record { member = 0; at = 0 }
in_zones (zone ∷ zones) number = if nat_lt number zone.chunks then in_zone zone number else in_zones zones (number - zone.chunks)

-- the member and the sector of it that sector s is; a mirror's members all have it at s
unfoldable pub slot : Kind → List ℕ → ℕ → Slot
slot Linear sizes s = among sizes s
slot (Stripe chunk) sizes s = record { member = (s / chunk) % length sizes; at = (s / chunk) / length sizes * chunk + s % chunk }
slot (Zoned chunk) sizes s =
    let to = in_zones (zones (whole_chunks chunk sizes)) (s / chunk) in
    record { member = to.member; at = to.at * chunk + s % chunk }
slot (Limit longest chunk) sizes s = record { member = 0; at = s }
slot (Disk sectors bad) sizes s = record { member = 0; at = s }
slot (Mirror records) sizes s = record { member = 0; at = s }

-- the start of the block that holds s, where blocks of 0 sectors stand for no boundary at all
abbrev pub block : ℕ → ℕ → ℕ
block zero s = 0
block (suc chunk) s = s - s % suc chunk

-- the first sector of the piece that holds s, where a run that starts at r is cut; r is at most s
unfoldable pub head : Kind → List ℕ → ℕ → ℕ → ℕ
head Linear sizes r s = max r (s - (among sizes s).at)
head (Stripe chunk) sizes r s = max r (s - s % chunk)
head (Zoned chunk) sizes r s = max r (s - s % chunk)
head (Limit longest chunk) sizes r s = let b = max r (block chunk s) in b + (s - b) / longest * longest
head (Disk sectors bad) sizes r s = r
head (Mirror records) sizes r s = r
