-- What the marks of sectors tell of the writes so far.
use Rattle.std.specs.Prelude.{◌≡◌, ◌⊎◌, ◌+◌, ◌*◌, ◌^◌, ◌/◌, ◌%◌, ◌<◌, ◌≤◌, ◌==◌, ◌&&◌, if◌then◌else◌, nat_le, nat_lt, Bool, false, List, [], ℕ, length, map, replicate, slice_get, slice_index_or, Some}
use Rattle.std.specs.List.{list_any, range_with_len}
use Rattle.stack_base.specs.Tree.{tree, size}
use Rattle.stack_base.specs.declared.stack.Stack.{Stack}
use Rattle.decl_text.specs.Accepting.{shown_devices}
use Rattle.decl_text.specs.Checks.{is_among}
use Rattle.decl_text.specs.Known.{Written, all_members}

-- a device that is a member of another
abbrev pub is_member : Stack → ℕ → Bool
is_member stack dev = is_among (all_members (shown_devices stack)) dev

-- the write has this sector of the device
abbrev pub covers : ℕ → ℕ → Written → Bool
covers dev at write = (write.dev == dev) && (nat_le write.start at && nat_lt at (write.start + write.count))

-- this mark of a device stands where one of these writes has the sector, and no greater one does; a device that is no member has a place
-- for each sector
pub record IsRow (stack : Stack) (mark : ℕ) (writes : List Written) (dev : ℕ) (row : List ℕ) : Type 0 where
  pub long : is_member stack dev ≡ false → length row ≡ size (tree stack dev)
  pub told : (at : ℕ) → at < length row → (slice_index_or row at 0 == mark) ≡ list_any (covers dev at) writes
  pub past : (at : ℕ) → at < length row → slice_index_or row at 0 ≤ mark

-- The marks of a device by pages of 4,096 sectors. A page is empty up to the first mark that is set in it.
abbrev pub mark_in : List (List ℕ) → ℕ → ℕ
mark_in pages at = slice_index_or (slice_index_or pages (at / 4096) []) (at % 4096) 0

abbrev pub marks_in : ℕ → List (List ℕ) → List ℕ
marks_in count pages = map (mark_in pages) (range_with_len 0 count)

-- there is a page for each of so many sectors, as many as a word counts
pub record ArePages (count : ℕ) (pages : List (List ℕ)) : Type 0 where
  pub there : count ≤ 4096 * length pages
  pub small : count < 2 ^ 64

-- blank pages, enough for so many sectors
abbrev pub AreBlankFor : ℕ → List (List ℕ) → Type 0
AreBlankFor sectors pages = (pages ≡ replicate (length pages) []) × (sectors ≤ 4096 * length pages)

-- a page has room for its marks, and all of them or none
pub record IsPage (capacity count : ℕ) : Type 0 where
  pub room : 4096 ≤ capacity
  pub whole : (count ≡ 0) ⊎ (count ≡ 4096)

-- the mark at this place is set, and the others are as before
abbrev pub IsSetAt : ℕ → ℕ → (ℕ → ℕ) → (ℕ → ℕ) → Type 0
IsSetAt place mark old new = (at : ℕ) → new at ≡ (if at == place then mark else old at)

-- the mark stands at `count` places from `start` on, and the others are as before
abbrev pub IsMarked : ℕ → ℕ → ℕ → List ℕ → List ℕ → Type 0
IsMarked mark start count old new = (at : ℕ) → slice_index_or new at 0 ≡ (if nat_le start at && nat_lt at (start + count) then mark else slice_index_or old at 0)

pub record AreMarks (stack : Stack) (mark : ℕ) (writes : List Written) (marks : List (List ℕ)) : Type 0 where
  pub count : length marks ≡ length stack.devices.items
  pub each : (dev : ℕ) (row : List ℕ) → slice_get marks dev ≡ Some row → IsRow stack mark writes dev row
