-- The checks of a device's line, by what they read of the devices before it.
use Rattle.std.specs.Prelude.{◌≡◌, ◌+◌, ◌==◌, ◌&&◌, ◌||◌, if◌then◌else◌, nat_lt, nat_le, not, Bool, false, List, [], ◌∷◌, ℕ, length, map, is_none, is_some, slice_index_or, Option, None, Some}
use Rattle.std.specs.List.{list_any}
use Rattle.stack_base.specs.Tree.{size}
use Rattle.decl_text.specs.Known.{Declared, all_members, device_of, declares_mirror, number_in, tree_over, trees}
use Rattle.decl_text.specs.Checks.{all_sectors, disks, has_count, is_among, repeats}
use Rattle.decl_text.specs.declared.reason.Reason.{Reason}
use Rattle.decl_text.specs.declared.reason.Reason.TheVariants as reason
use Rattle.decl_text.specs.declared.item.What.{What}
use Rattle.decl_text.specs.declared.item.What.TheVariants as what

-- it is one device, one disk or some sectors more than there may be
abbrev pub has_no_room : List Declared → What → Bool
has_no_room devices (what.Disk sectors) = nat_le 32 (length devices) || nat_le 16 (disks devices) || nat_lt 262144 (all_sectors devices + sectors)
has_no_room devices _ = nat_le 32 (length devices)

-- these numbers have a flag too, beside those that had one
abbrev pub SetsFlags : List Bool → List ℕ → List Bool → Type 0
SetsFlags old numbers new = (n : ℕ) → slice_index_or new n false ≡ (slice_index_or old n false || is_among numbers n)

-- the reserves of its pools
abbrev pub pool_reserves : What → ℕ → List ℕ
pool_reserves (what.Disk sectors) reserve = []
pool_reserves (what.Mirror records) reserve = records ∷ reserve ∷ []
pool_reserves _ reserve = reserve ∷ []

-- one of them is above what there may be, or 0
abbrev pub is_large : What → ℕ → Bool
is_large does reserve = list_any (nat_lt 1024) (pool_reserves does reserve)

abbrev pub has_zero : What → ℕ → Bool
has_zero does reserve = list_any (λ r. r == 0) (pool_reserves does reserve)

-- members that others have, or that stand twice
abbrev pub takes_taken : List Declared → List (List ℕ) → Bool
takes_taken devices members =
    list_any (is_among (all_members devices)) (map (number_in devices) members) || repeats (map (number_in devices) members)

-- the size of what does this over these
abbrev pub size_with : List Declared → What → List ℕ → ℕ
size_with devices does members =
    size (tree_over (trees devices) (record { name = []; what = does; members = members; reserve = 0; rescuer = false }))

-- why its line is refused
abbrev pub device_reason : List Declared → List ℕ → What → List (List ℕ) → ℕ → Bool → Option Reason
device_reason devices name does members reserve rescuer =
    if is_some (device_of devices name) then Some reason.NameTaken
    else (if list_any (λ member. is_none (device_of devices member)) members then Some reason.NoSuchDevice
    else (if takes_taken devices members then Some reason.MemberTaken
    else (if not (has_count does (length members)) then Some reason.BadShape
    else (if has_no_room devices does || is_large does reserve then Some reason.TooLarge
    else (if size_with devices does (map (number_in devices) members) == 0 then Some reason.EmptyDevice
    else (if has_zero does reserve then Some reason.ReserveZero
    else (if declares_mirror does && nat_le 2 (length members) && not rescuer then Some reason.NeedsRescuer
    else None)))))))
