-- The lines of a text that tell events.
use Rattle.std.specs.Prelude.{◌+◌, if◌then◌else◌, ℕ, Bool, false, List, [], ◌∷◌, codes}
use Rattle.std.specs.Str.{bytes_eq}
use Rattle.decl_text.specs.Text.{lines, words}

-- the first word is `event`
abbrev pub begins_event : List (List ℕ) → Bool
begins_event [] = false
begins_event (word ∷ more) = bytes_eq word (codes "event")

abbrev pub is_told : List ℕ → Bool
is_told line = begins_event (words line)

-- those of these lines whose first word is `event`, with their numbers: the first line has this number. All others are passed over.
unfoldable pub told_lines : ℕ → List (List ℕ) → List (ℕ × List ℕ)
told_lines number [] = []
told_lines number (line ∷ more) =
    if is_told line then (number, line) ∷ told_lines (number + 1) more else told_lines (number + 1) more

-- the lines of this text, of which the first has this number
abbrev pub told_in : ℕ → List ℕ → List (ℕ × List ℕ)
told_in first text = told_lines first (lines text)
