-- The data of a sector: its 512 bytes as 64 words of 8 bytes, the first byte of a word being the lowest.
use Rattle.std.specs.Prelude.{ℕ, ◌+◌, ◌*◌, ◌%◌, ◌^◌, ◌==◌, Bool, not, List, map, replicate}
use Rattle.std.specs.List.{range_with_len, list_any}

-- the sector whose words count up from this number, each modulo 2 ^ 64
unfoldable pub sector_from : ℕ → List ℕ
sector_from first = map (λ i. (first + i) % 2 ^ 64) (range_with_len 0 64)

-- sector j of a write with this tag, whose word i is tag + 64 * j + i modulo 2 ^ 64
abbrev pub sector_data : ℕ → ℕ → List ℕ
sector_data tag j = sector_from (tag + 64 * j)

-- the sector of a new disk
unfoldable pub zero_sector : List ℕ
zero_sector = replicate 64 0

-- whether a sector holds data: some word is not zero
unfoldable pub is_written : List ℕ → Bool
is_written sector = list_any (λ word. not (word == 0)) sector
