-- How the sectors of a disk are kept: by their first words. What the end of a bio makes of a disk.
use Rattle.std.specs.Prelude.{◌≡◌, ◌+◌, ◌*◌, ◌%◌, ◌^◌, ◌++◌, if◌then◌else◌, ℕ, List, map, take, drop, MatchOption, Option, None, Some}
use Rattle.std.specs.List.{range_with_len}
use Rattle.stack_base.specs.declared.ids.Status.{Status}
use Rattle.stack_base.specs.declared.ids.Status.TheVariants.{Ok}
use Rattle.stack_base.specs.Fault.{status_eq}
use Rattle.stack_base.specs.Words.{sector_from, zero_sector}
use Rattle.bio_records.specs.declared.bio.Bio.{Bio}
use Rattle.bio_records.specs.declared.bio.Pad.{Pad}
use Rattle.bio_records.specs.Items.{Item}
use Rattle.model_disks.specs.Disks.{DiskState}
use Rattle.model_disks.specs.Moves.{written, Completes}

-- the words of a sector that nothing was written to, or of one whose words count up from this one
abbrev pub sector_of : Option ℕ → List ℕ
sector_of None = zero_sector
sector_of (Some word) = sector_from word

-- the first words of the sectors after a write of so many, from this word on
abbrev pub firsts_after : ℕ → ℕ → ℕ → List (Option ℕ) → List (Option ℕ)
firsts_after start len word firsts =
    take start firsts ++ (map (λ j. Some ((word + 64 * j) % 2 ^ 64)) (range_with_len 0 len) ++ drop (start + len) firsts)

-- an image after a bio that ended so
abbrev pub image_after : Status → Bio → List (List ℕ) → List (List ℕ)
image_after status bio image = if status_eq status Ok then written bio image else image

-- the bio at a place ended so, or none there can
abbrev pub CompletesOrNot : DiskState → ℕ → Status → Option (Item Pad) → DiskState → Type 0
CompletesOrNot old index status ended new =
    MatchOption ended
    ((new ≡ old) × ((part : Item Pad) (after : DiskState) → Completes old index part status after → ⊥))
    (λ part. Completes old index part status new)
