-- The sectors that a bio writes, and what becomes of them as it is split.
use Rattle.std.specs.Prelude.{◌≡◌, ℕ, ◌+◌, ◌-◌, ◌*◌, ◌/◌, ◌%◌, ◌^◌, ◌<◌, ◌≤◌, List, map, ◌++◌}
use Rattle.std.specs.List.{range_with_len}
use Rattle.bio_records.specs.declared.bio.Bio.{Bio}
use Rattle.bio_records.specs.declared.bio.Iter.{Iter}

-- a sector that a bio writes
pub record Sector : Type 0 where
  -- where, at the bio's device
  pub at : ℕ
  -- the first word of its data
  pub word : ℕ
  -- its place in the write's segments, as a number of sectors
  pub place : ℕ

-- a place in a write's segments, as a number of sectors, of which a segment has eight
abbrev pub place_number : Iter → ℕ
place_number at = 8 * at.segment + at.done

abbrev pub place_at : ℕ → Iter
place_at n = record { segment = n / 8; done = n % 8 }

-- sector j of a bio: words are counted modulo 2 ^ 64, and places modulo the 2 ^ 35 that a u32 of segments has
abbrev pub sector_at : Bio → ℕ → Sector
sector_at bio j = record {
  at = bio.range.start + j;
  word = (bio.word + 64 * j) % 2 ^ 64;
  place = (place_number bio.at + j) % 2 ^ 35;
}

-- the sectors of a bio, in their order
abbrev pub run_of : Bio → List Sector
run_of bio = map (λ j. sector_at bio j) (range_with_len 0 bio.range.len)

-- a bio of its first n sectors
abbrev pub fronted : Bio → ℕ → Bio
fronted bio n = record bio { range = record bio.range { len = n } }

-- a bio of the sectors behind its first n
abbrev pub advanced : Bio → ℕ → Bio
advanced bio n = record bio {
  range = record { start = bio.range.start + n; len = bio.range.len - n };
  word = (bio.word + 64 * n) % 2 ^ 64;
  at = place_at ((place_number bio.at + n) % 2 ^ 35);
}

-- the first n sectors of a bio and then the others are its sectors
abbrev pub FrontAndRestAreTheRun : Type 0
FrontAndRestAreTheRun = (bio : Bio) (n : ℕ) → n ≤ bio.range.len → run_of (fronted bio n) ++ run_of (advanced bio n) ≡ run_of bio

-- to move on by m sectors and then by n is to move on by m + n
abbrev pub TwoAdvancesAreOne : Type 0
TwoAdvancesAreOne = (bio : Bio) (m n : ℕ) → advanced (advanced bio m) n ≡ advanced bio (m + n)

-- a place is told by its number
abbrev pub PlacesAreNumbers : Type 0
PlacesAreNumbers = (n : ℕ) → (place_number (place_at n) ≡ n) × ((place_at n).done < 8)
