-- What a line says, or why it says nothing.
use Rattle.std.specs.Prelude.{◌≡◌, if◌then◌else◌, true, false, List, [], ◌∷◌, ℕ, Option, None, Some, Result, Ok, Err}
use Rattle.decl_text.specs.Text.{words}
use Rattle.decl_text.specs.Forms.{form, is_malformed, is_misnumbered}
use Rattle.decl_text.specs.Commands.{command_of}
use Rattle.decl_text.specs.Items.{said, meaning, is_comment}
use Rattle.decl_text.specs.Known.{Declarations}
use Rattle.decl_text.specs.Stands.{stand_of}
use Rattle.decl_text.specs.declared.stand.Stand.{Stand}
use Rattle.decl_text.specs.Refusals.{first_found, line_checks}
use Rattle.decl_text.specs.declared.reason.Reason.TheVariants.{BadWord, BadNumber}
use Rattle.decl_text.specs.declared.command.Command.{Command}
use Rattle.decl_text.specs.declared.item.Item.{Item}
use Rattle.decl_text.specs.declared.line.First.{First}
use Rattle.decl_text.specs.declared.line.First.TheVariants as first
use Rattle.decl_text.specs.declared.line.LineFault.{LineFault}
use Rattle.decl_text.specs.declared.line.LineFault.TheVariants.{Wrong, Memory}

-- what the first word says
abbrev pub first_of : Option Command → First
first_of None = first.Unknown
first_of (Some command) = first.Command command

abbrev pub command_first : List (List ℕ) → First
command_first [] = first.Skipped
command_first (word ∷ rest) = if is_comment word then first.Skipped else first_of (command_of word)

-- the words behind the command say this, or one is wrong, or a number is
abbrev pub CommandSays : Command → List (List ℕ) → Result Item LineFault → Type 0
CommandSays command rest (Ok item) = (is_malformed (form command) rest ≡ false) × (is_misnumbered (form command) rest ≡ false) × (meaning command rest ≡ Some item)
CommandSays command rest (Err (Wrong BadWord)) = is_malformed (form command) rest ≡ true
CommandSays command rest (Err (Wrong BadNumber)) = (is_malformed (form command) rest ≡ false) × (is_misnumbered (form command) rest ≡ true)
CommandSays command rest (Err Memory) = Unit {0}
CommandSays command rest (Err (Wrong other)) = ⊥

-- the line says this behind what is known, or is wrong there by its words, by the first check that finds it
abbrev pub SaysBehind : Declarations → List ℕ → Result (Option Item) LineFault → Type 0
SaysBehind known line (Ok item) = (first_found line_checks known line ≡ None) × (said (words line) ≡ item)
SaysBehind known line (Err (Wrong reason)) = first_found line_checks known line ≡ Some reason
SaysBehind known line (Err Memory) = Unit {0}

-- so it does behind all by which it stands there
abbrev pub LineSays : Stand → List ℕ → Result (Option Item) LineFault → Type 0
LineSays stand line result = (known : Declarations) → stand_of known ≡ stand → SaysBehind known line result
