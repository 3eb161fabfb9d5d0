-- Words that write numbers.
use Rattle.std.specs.Prelude.{if◌then◌else◌, ◌&&◌, nat_le, List, ℕ, Option, None, Some}
use Rattle.std.specs.Option.{option_and_then}
pub use Rattle.stack_base.specs.Numerals.{is_number}
unfoldable pub use Rattle.stack_base.specs.Numerals.{number_of}

-- a number as one of threads, which may be from 1 to 16
abbrev pub as_workers : ℕ → Option ℕ
as_workers n = if nat_le 1 n && nat_le n 16 then Some n else None

-- the number of threads that a word says
abbrev pub workers_of : List ℕ → Option ℕ
workers_of word = option_and_then as_workers (number_of word)
