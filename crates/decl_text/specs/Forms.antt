-- The forms of lines: what stands behind the first word of each, and which words are wrong there.
use Rattle.std.specs.Prelude.{◌^◌, ◌-◌, ◌==◌, ◌&&◌, ◌||◌, if◌then◌else◌, nat_lt, not, Bool, true, false, List, [], ◌∷◌, ℕ, drop, length, zip, count_by, is_some, Option, None, Some}
use Rattle.std.specs.List.{list_any}
use Rattle.std.specs.Str.{bytes_eq}
use Rattle.decl_text.specs.Text.{is_option, key, value}
use Rattle.decl_text.specs.Words.{is_word, has_number, key_word}
use Rattle.decl_text.specs.declared.form.Few.TheVariants as few
use Rattle.decl_text.specs.declared.form.Key.{Key}
use Rattle.decl_text.specs.declared.form.Key.TheVariants.{Reserve, Rescuer, Chunk, Max, Records, Bios, Vecs}
use Rattle.decl_text.specs.declared.form.Place.{Place}
use Rattle.decl_text.specs.declared.form.Place.TheVariants.{Name, Mention, Number, OneOf, Pattern}
use Rattle.decl_text.specs.declared.form.Setting.{Setting}
use Rattle.decl_text.specs.declared.command.Command.{Command}
use Rattle.decl_text.specs.declared.command.Command.TheVariants.{Disk, Bad, Linear, Stripe, Zoned, Limit, Mirror, Fs, Script, Memory, Write, Sync, Resize}

pub record Form : Type 0 where
  -- what stands right behind the first word
  pub places : List Place
  -- the options that may stand behind that, each once
  pub settings : List Setting
  -- whether other words, which name members, may stand among these
  pub members : Bool

-- any number from this one on
abbrev pub number_from : ℕ → Place
number_from least = Number least (2 ^ 64 - 1)

abbrev pub any_number : Place
any_number = number_from 0

abbrev pub may : Key → Place → Setting
may key place = record { key = key; wanted = false; place = place }

abbrev pub must : Key → Place → Setting
must key place = record { key = key; wanted = true; place = place }

-- a line whose words have their places
abbrev pub fixed : List Place → Form
fixed places = record { places = places; settings = []; members = false }

-- a device over members, with options of its own besides those of every such device
abbrev pub device_form : List Setting → Form
device_form own = record {
  places = Name ∷ [];
  settings = may Reserve any_number ∷ may Rescuer (OneOf few.YesNo) ∷ own;
  members = true;
}

abbrev pub form : Command → Form
form Disk = fixed (Name ∷ any_number ∷ [])
form Bad = fixed (Mention ∷ any_number ∷ number_from 1 ∷ OneOf few.Faults ∷ [])
form Linear = device_form []
form Stripe = device_form (must Chunk (number_from 1) ∷ [])
form Zoned = device_form (must Chunk (number_from 1) ∷ [])
form Limit = device_form (must Max (number_from 1) ∷ may Chunk any_number ∷ [])
form Mirror = device_form (may Records any_number ∷ [])
form Fs = record { places = []; settings = may Bios any_number ∷ may Vecs any_number ∷ []; members = false }
form Script = fixed (Mention ∷ Pattern ∷ OneOf few.Tails ∷ [])
form Memory = fixed (OneOf few.None ∷ [])
form Write = fixed (Number 0 7 ∷ Mention ∷ any_number ∷ number_from 1 ∷ any_number ∷ [])
form Sync = fixed []
form Resize = fixed (Mention ∷ any_number ∷ [])

-- the words behind the places
abbrev pub behind_places : Form → List (List ℕ) → List (List ℕ)
behind_places form words = drop (length form.places) words

-- the value of an option of this key
abbrev pub value_of : Key → List ℕ → Option (List ℕ)
value_of name word = if is_option word && bytes_eq (key word) (key_word name) then Some (value word) else None

-- how often there is one
abbrev pub times : Key → List (List ℕ) → ℕ
times name words = count_by (λ word. is_some (value_of name word)) words

-- it has a value, and that has no place there
abbrev pub fails : (List ℕ → Bool) → Option (List ℕ) → Bool
fails may None = false
fails may (Some value) = not (may value)

-- an option that belongs to the line
abbrev pub is_setting : List Setting → List ℕ → Bool
is_setting settings word = list_any (λ setting. bytes_eq (key word) (key_word setting.key)) settings

-- a word behind the places that does not belong there: an option that is unknown, or another word where none may stand
abbrev pub is_strange : Form → List ℕ → Bool
is_strange form word = if is_option word then not (is_setting form.settings word) else not form.members

-- an option that is repeated or missing, or has a word that is not one of a few
abbrev pub is_misset : List (List ℕ) → Setting → Bool
is_misset words setting =
    nat_lt 1 (times setting.key words) || (setting.wanted && times setting.key words == 0)
    || list_any (λ word. fails (is_word setting.place) (value_of setting.key word)) words

-- an option that has no number that may stand there
abbrev pub is_missized : List (List ℕ) → Setting → Bool
is_missized words setting = list_any (λ word. fails (has_number setting.place) (value_of setting.key word)) words

-- a word at its place that is an option, or may not stand there
abbrev pub is_misplaced : Place → List ℕ → Bool
is_misplaced place word = is_option word || not (is_word place word)

-- some word is wrong, whatever the numbers
abbrev pub is_malformed : Form → List (List ℕ) → Bool
is_malformed form words =
    nat_lt (length words) (length form.places)
    || list_any (λ at. is_misplaced at.0 at.1) (zip form.places words)
    || list_any (is_strange form) (behind_places form words)
    || list_any (is_misset (behind_places form words)) form.settings

-- some number is wrong
abbrev pub is_misnumbered : Form → List (List ℕ) → Bool
is_misnumbered form words =
    list_any (λ at. not (has_number at.0 at.1)) (zip form.places words)
    || list_any (is_missized (behind_places form words)) form.settings
