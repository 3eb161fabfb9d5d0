-- What each call makes of a disk.
use Rattle.std.specs.Prelude.{◌≡◌, ◌⊎◌, ◌+◌, ◌*◌, ◌<◌, ◌≤◌, if◌then◌else◌, List, [], ◌∷◌, ◌++◌, ℕ, map, length, take, drop, replicate, remove, slice_get, slice_index_or, Some}
use Rattle.std.specs.List.{range_with_len}
use Rattle.stack_base.specs.declared.ids.DevId.{DevId}
use Rattle.stack_base.specs.declared.ids.Bad.{Bad}
use Rattle.stack_base.specs.declared.ids.Status.{Status}
use Rattle.stack_base.specs.declared.ids.Status.TheVariants.{Ok}
use Rattle.stack_base.specs.Words.{sector_from, zero_sector}
use Rattle.stack_base.specs.Fault.{status_eq, fault}
use Rattle.bio_records.specs.declared.bio.Bio.{Bio}
use Rattle.bio_records.specs.declared.bio.Pad.{Pad}
use Rattle.bio_records.specs.Items.{Item}
use Rattle.model_disks.specs.Disks.{DiskState}

-- a new disk: its sectors are zeros, and no bio waits
abbrev pub blank_disk : DevId → ℕ → List Bad → DiskState
blank_disk dev sectors bad = record { dev = dev; bad = bad; image = replicate sectors zero_sector; pending = [] }

-- a disk after one more bio was pushed
abbrev pub pushed : Item Pad → DiskState → DiskState
pushed item disk = record disk { pending = disk.pending ++ item ∷ [] }

-- an image after a bio: what stood before its run, its sectors, of which sector j holds the words from word + 64 * j on, and what stood
-- behind
unfoldable pub written : Bio → List (List ℕ) → List (List ℕ)
written bio image =
    take bio.range.start image
    ++ (map (λ j. sector_from (bio.word + 64 * j)) (range_with_len 0 bio.range.len) ++ drop (bio.range.start + bio.range.len) image)

-- the bio at this place is done, and ends so
pub record Completes (old : DiskState) (index : ℕ) (item : Item Pad) (ending : Status) (new : DiskState) : Type 0 where
  -- it waited there
  pub taken : slice_get old.pending index ≡ Some item
  -- the bad ranges of the disk say how it ends
  pub status : ending ≡ fault old.bad item.bio.range
  -- its sectors are written where it ends well, and the others keep their order
  pub after : new
      ≡ record old { image = if status_eq ending Ok then written item.bio old.image else old.image; pending = remove old.pending index }

-- what a bio that ends within the image makes of it: it keeps its size, each sector of the bio holds its data, and the others are as before
pub record BiosWriteTheirSectors : Type 0 where
  pub size : (bio : Bio) (image : List (List ℕ)) → bio.range.start + bio.range.len ≤ length image → length (written bio image) ≡ length image
  pub inside : (bio : Bio) (image : List (List ℕ)) → bio.range.start + bio.range.len ≤ length image
      → (j : ℕ) → j < bio.range.len → slice_index_or (written bio image) (bio.range.start + j) [] ≡ sector_from (bio.word + 64 * j)
  pub outside : (bio : Bio) (image : List (List ℕ)) → bio.range.start + bio.range.len ≤ length image
      → (x : ℕ) → (x < bio.range.start) ⊎ (bio.range.start + bio.range.len ≤ x) → slice_index_or (written bio image) x [] ≡ slice_index_or image x []
