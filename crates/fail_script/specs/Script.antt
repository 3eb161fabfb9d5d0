-- Which takes of a pool may have ordinary memory.
use Rattle.std.specs.Prelude.{ℕ, Bool, List, [], length, slice_index_or}

-- an entry for each of the first takes, and the answer for all takes behind them
pub record Answers : Type 0 where
  pub entries : List Bool
  pub tail : Bool

abbrev pub entries_of : Answers → ℕ
entries_of script = length script.entries

-- whether the take at a position may have ordinary memory: the entry there, or the tail
abbrev pub allows_at : Answers → ℕ → Bool
allows_at script pos = slice_index_or script.entries pos script.tail

-- the script of a tail alone
abbrev pub only_tail : Bool → Answers
only_tail tail = record { entries = []; tail = tail }
