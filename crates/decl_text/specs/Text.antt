-- The lines of a text, their words, and what a word may be.
use Rattle.std.specs.Prelude.{◌≡◌, ◌==◌, ◌&&◌, ◌||◌, nat_lt, nat_le, not, Bool, true, false, List, [], ◌∷◌, ℕ, filter, length, codes, MatchOption, Option}
use Rattle.std.specs.List.{slice_split, list_all, list_any, before_first, after_first}
use Rattle.std.specs.Char.{is_ascii_alphabetic, is_ascii_alphanumeric}
use Rattle.std.specs.Str.{bytes_eq}
pub use Rattle.stack_base.specs.Numerals.{is_number}
unfoldable pub use Rattle.stack_base.specs.Numerals.{number_of}

-- a text may have so many bytes
abbrev pub most_bytes : ℕ
most_bytes = 4194304

-- parts between separators, but for an empty last one
unfoldable pub without_empty_end : List (List ℕ) → List (List ℕ)
without_empty_end [] = []
without_empty_end ([] ∷ []) = []
without_empty_end (part ∷ parts) = part ∷ without_empty_end parts

-- the lines of a text, separated by byte 10, which the last one may lack
abbrev pub lines : List ℕ → List (List ℕ)
lines text = without_empty_end (slice_split (λ byte. byte == 10) text)

-- blanks are a space, a tab and a carriage return
abbrev pub is_blank : ℕ → Bool
is_blank byte = byte == 32 || byte == 9 || byte == 13

abbrev pub is_some_text : List ℕ → Bool
is_some_text [] = false
is_some_text (byte ∷ bytes) = true

-- the parts of a line between blanks, which may be empty
abbrev pub between_blanks : List ℕ → List (List ℕ)
between_blanks line = slice_split is_blank line

-- the parts of a line are this one and those of the rest
abbrev pub IsFirstPart : List ℕ → List ℕ → List ℕ → Type 0
IsFirstPart line front rest = between_blanks line ≡ front ∷ between_blanks rest

-- A line is cut at its first blank: this stands before it, and behind it what the rest says, where there is one.
abbrev pub IsCutLine : {R : Type 0} → List ℕ → List ℕ → Option R → (R → List ℕ) → Type 0
IsCutLine line front rest text = MatchOption rest (between_blanks line ≡ front ∷ []) (λ r. IsFirstPart line front (text r))

-- the words of a line: its maximal parts without blanks
abbrev pub words : List ℕ → List (List ℕ)
words line = filter is_some_text (between_blanks line)

-- blanks and the visible characters of ASCII
abbrev pub is_text_byte : ℕ → Bool
is_text_byte byte = is_blank byte || (nat_lt 32 byte && nat_lt byte 127)

abbrev pub is_text : List ℕ → Bool
is_text line = list_all is_text_byte line

-- an option is a word with `=` in it: its key stands before the first one, its value behind it
abbrev pub is_option : List ℕ → Bool
is_option word = list_any (λ byte. byte == 61) word

abbrev pub key : List ℕ → List ℕ
key word = before_first (λ byte. byte == 61) word

abbrev pub value : List ℕ → List ℕ
value word = after_first (λ byte. byte == 61) word

-- the word is an option, and these are its key and its value
abbrev pub IsOption : List ℕ → List ℕ → List ℕ → Type 0
IsOption word front back = (is_option word ≡ true) × (front ≡ key word) × (back ≡ value word)

-- letters, digits, `_` and `-`
abbrev pub is_name_byte : ℕ → Bool
is_name_byte byte = is_ascii_alphanumeric byte || byte == 95 || byte == 45

abbrev pub begins_with_letter : List ℕ → Bool
begins_with_letter [] = false
begins_with_letter (first ∷ more) = is_ascii_alphabetic first

-- 1 to 16 letters, digits, `_` and `-`, a letter first, and not the name of the writers' set
unfoldable pub is_name : List ℕ → Bool
is_name word = nat_le (length word) 16 && not (bytes_eq word (codes "fs")) && begins_with_letter word && list_all is_name_byte word

-- an entry of a script: `+` where the attempt may succeed, `-` where it fails
abbrev pub is_entry : ℕ → Bool
is_entry byte = byte == 43 || byte == 45

-- entries of a script, one or more, or a dot for none
abbrev pub is_pattern : List ℕ → Bool
is_pattern word = bytes_eq word (codes ".") || (is_some_text word && list_all is_entry word)
