-- The number on the device of a chunk of a member.
use Rattle.std.specs.Prelude.{◌+◌, min, nat_lt, ℕ, List, length, slice_index}
use Rattle.std.specs.List.{filter, range_with_len, sum_by}

-- behind the chunks of all members before this row, and those in this row of the members before this one
abbrev pub chunk_number : List ℕ → ℕ → ℕ → ℕ
chunk_number counts member row =
    sum_by (λ i. min (slice_index counts i) row) (range_with_len 0 (length counts))
    + length (filter (λ i. nat_lt row (slice_index counts i)) (range_with_len 0 member))
