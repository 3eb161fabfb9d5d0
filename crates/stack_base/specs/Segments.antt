-- How many segments the data of a write has.
use Rattle.std.specs.Prelude.{ℕ, ◌+◌, ◌/◌}

-- how many segments of eight sectors so many sectors have, of which the last may be a part of one
abbrev pub segment_count : ℕ → ℕ
segment_count count = (count + 7) / 8
