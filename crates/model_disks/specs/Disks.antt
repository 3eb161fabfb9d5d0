-- A disk of the model, as contracts see it.
use Rattle.std.specs.Prelude.{◌≡◌, ◌+◌, ◌-◌, ◌*◌, ◌/◌, ◌%◌, ◌^◌, ◌<◌, ◌≤◌, ℕ, List, length, min, sum, sum_by, take, drop}
use Rattle.stack_base.specs.declared.ids.DevId.{DevId}
use Rattle.stack_base.specs.declared.ids.Bad.{Bad}
use Rattle.stack_base.specs.declared.ids.Status.TheVariants as status
use Rattle.bio_records.specs.declared.bio.Pad.{Pad}
use Rattle.bio_records.specs.Items.{Item}

pub record DiskState : Type 0 where
  -- the device that it is
  pub dev : DevId
  -- its bad ranges, in the order of their declaration
  pub bad : List Bad
  -- its sectors, of 64 words each
  pub image : List (List ℕ)
  -- the bios that wait in it, in the order of their pushes
  pub pending : List (Item Pad)

-- how many bios wait in a disk, as far as 64 bits tell
abbrev pub waiting_count : DiskState → ℕ
waiting_count disk = min (length disk.pending) (2 ^ 64 - 1)

-- the sum of all words of an image, modulo 2 ^ 64
abbrev pub sum_of_words : List (List ℕ) → ℕ
sum_of_words image = sum_by sum image % 2 ^ 64

-- these words are those of the sectors from one on, 64 of each, one sector behind the other
abbrev pub HasSectorsFrom : (ℕ → List ℕ) → ℕ → List ℕ → Type 0
HasSectorsFrom sector at words = (i : ℕ) → i < length words / 64 → take 64 (drop (64 * i) words) ≡ sector (at + i)

-- a bad range of a disk of so many sectors: it has a sector, ends within the disk, and lets no bio end well
pub record IsBadRange (sectors : ℕ) (bad : Bad) : Type 0 where
  pub some : 0 < bad.range.len
  pub within : bad.range.start + bad.range.len ≤ sectors
  pub fails : bad.kind ≡ status.Ok → ⊥
