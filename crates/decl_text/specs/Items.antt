-- What lines say, and how a line by itself may be wrong.
use Rattle.std.specs.Prelude.{◌==◌, if◌then◌else◌, not, Bool, true, false, List, [], ◌∷◌, ℕ, filter, map, codes, Option, None, Some}
use Rattle.std.specs.Option.{option_or}
use Rattle.std.specs.Str.{bytes_eq}
use Rattle.std.specs.Str.Parse.{digits_value}
use Rattle.fail_script.specs.Script.{Answers}
use Rattle.stack_base.specs.declared.ids.Status.{Status}
use Rattle.stack_base.specs.declared.ids.Status.TheVariants as status
use Rattle.decl_text.specs.Text.{words, is_option}
use Rattle.decl_text.specs.Commands.{command_of}
use Rattle.decl_text.specs.Forms.{form, is_malformed, is_misnumbered, value_of}
use Rattle.decl_text.specs.declared.form.Key.{Key}
use Rattle.decl_text.specs.declared.form.Key.TheVariants as key
use Rattle.decl_text.specs.declared.command.Command.{Command}
use Rattle.decl_text.specs.declared.command.Command.TheVariants as command
use Rattle.decl_text.specs.declared.item.What.{What}
use Rattle.decl_text.specs.declared.item.What.TheVariants as what
use Rattle.decl_text.specs.declared.item.Item.{Item}
use Rattle.decl_text.specs.declared.item.Item.TheVariants as item

-- the number that a word of digits writes
abbrev pub number : List ℕ → ℕ
number word = digits_value 10 word

-- the value of the first option of this key
abbrev pub value_in : Key → List (List ℕ) → Option (List ℕ)
value_in name [] = None
value_in name (word ∷ words) = option_or (value_of name word) (value_in name words)

-- the number of an option, or the one that stands for it where there is none
abbrev pub number_or : ℕ → Option (List ℕ) → ℕ
number_or default None = default
number_or default (Some word) = number word

-- whether an option says yes
abbrev pub yes_or : Bool → Option (List ℕ) → Bool
yes_or default None = default
yes_or default (Some word) = bytes_eq word (codes "yes")

abbrev pub members : List (List ℕ) → List (List ℕ)
members words = filter (λ word. not (is_option word)) words

-- a device over its members; its pool has two bios where the line does not say otherwise
abbrev pub device : List ℕ → What → Bool → List (List ℕ) → Item
device name does rescuer rest = item.Device name does (members rest) (number_or 2 (value_in key.Reserve rest)) (yes_or rescuer (value_in key.Rescuer rest))

abbrev pub kind_of_bad : List ℕ → Status
kind_of_bad word = if bytes_eq word (codes "io") then status.Io else (if bytes_eq word (codes "medium") then status.Medium else status.NoSpace)

-- the entries of a script, and none for a dot
abbrev pub entries : List ℕ → List Bool
entries pattern = if bytes_eq pattern (codes ".") then [] else map (λ byte. byte == 43) pattern

abbrev pub script : List ℕ → List ℕ → Answers
script pattern tail = record { entries = entries pattern; tail = bytes_eq tail (codes "+") }

-- what the words behind the first one say, where they have its form
unfoldable pub meaning : Command → List (List ℕ) → Option Item
meaning command.Disk (name ∷ sectors ∷ []) = Some (item.Device name (what.Disk (number sectors)) [] 0 false)
meaning command.Bad (disk ∷ from ∷ count ∷ kind ∷ []) = Some (item.Bad disk (record { start = number from; len = number count }) (kind_of_bad kind))
meaning command.Linear (name ∷ rest) = Some (device name what.Linear false rest)
meaning command.Stripe (name ∷ rest) = Some (device name (what.Stripe (number_or 0 (value_in key.Chunk rest))) false rest)
meaning command.Zoned (name ∷ rest) = Some (device name (what.Zoned (number_or 0 (value_in key.Chunk rest))) false rest)
meaning command.Limit (name ∷ rest) = Some (device name (what.Limit (number_or 0 (value_in key.Max rest)) (number_or 0 (value_in key.Chunk rest))) false rest)
meaning command.Mirror (name ∷ rest) = Some (device name (what.Mirror (number_or 2 (value_in key.Records rest))) true rest)
meaning command.Fs rest = Some (item.Fs (number_or 2 (value_in key.Bios rest)) (number_or 2 (value_in key.Vecs rest)))
meaning command.Script (pool ∷ pattern ∷ tail ∷ []) = Some (item.Script pool (script pattern tail))
meaning command.Memory rest = Some item.NoMemory
meaning command.Write (task ∷ dev ∷ start ∷ count ∷ tag ∷ []) = Some (item.Write (number task) dev (record { start = number start; len = number count }) (number tag))
meaning command.Sync rest = Some item.Sync
meaning command.Resize (pool ∷ min ∷ []) = Some (item.Resize pool (number min))
meaning _ _ = None

-- a line that is skipped: it has no words, or its first one begins with `#`
abbrev pub is_comment : List ℕ → Bool
is_comment [] = false
is_comment (byte ∷ bytes) = byte == 35

-- what holds of the first word's command and of the words behind it: of an unknown command so, and of a line that is skipped not
abbrev pub command_is : (Command → List (List ℕ) → Bool) → Bool → List (List ℕ) → Option Command → Bool
command_is holds unknown rest None = unknown
command_is holds unknown rest (Some command) = holds command rest

abbrev pub line_is : (Command → List (List ℕ) → Bool) → Bool → List (List ℕ) → Bool
line_is holds unknown [] = false
line_is holds unknown (first ∷ rest) = if is_comment first then false else command_is holds unknown rest (command_of first)

-- a line with these words is wrong by its words, whatever the numbers; and it is by its numbers
abbrev pub malformed : List (List ℕ) → Bool
malformed line = line_is (λ command rest. is_malformed (form command) rest) true line

abbrev pub misnumbered : List (List ℕ) → Bool
misnumbered line = line_is (λ command rest. is_misnumbered (form command) rest) false line

-- it is a write or a `sync` line, and so no declaration
abbrev pub is_work : Command → Bool
is_work command.Write = true
is_work command.Sync = true
is_work _ = false

abbrev pub begins_work : List (List ℕ) → Bool
begins_work line = line_is (λ command rest. is_work command) false line

-- what it says
abbrev pub command_says : List (List ℕ) → Option Command → Option Item
command_says rest None = None
command_says rest (Some command) = meaning command rest

abbrev pub said : List (List ℕ) → Option Item
said [] = None
said (first ∷ rest) = if is_comment first then None else command_says rest (command_of first)
