-- How takes use up the entries of a script.
use Rattle.std.specs.Prelude.{ℕ, ◌+◌, Bool, nat_lt, if◌then◌else◌}
use Rattle.fail_script.specs.Script.{Answers, entries_of}

-- whether a take at a position uses up an entry of the script
abbrev pub uses_entry : Answers → ℕ → Bool
uses_entry script pos = nat_lt pos (entries_of script)

-- the position behind a take: one further while there are entries
abbrev pub next_pos : Answers → ℕ → ℕ
next_pos script pos = if uses_entry script pos then pos + 1 else pos
