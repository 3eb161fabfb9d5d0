-- What is read of the declarations of a text, before they are checked against each other.
use Rattle.std.specs.Prelude.{◌≡◌, ◌+◌, ◌<◌, ◌≤◌, false, List, [], ◌∷◌, ◌++◌, ℕ, drop, length, is_some, Bool, Option, None, Some, Result, Ok, Err}
use Rattle.std.specs.List.{before_first}
use Rattle.std.specs.Option.{option_map, option_or}
use Rattle.decl_text.specs.Text.{lines, words, most_bytes}
use Rattle.decl_text.specs.Items.{said, begins_work}
use Rattle.decl_text.specs.Known.{Declarations, nothing_declared, after}
use Rattle.decl_text.specs.Refusals.{Check, first_found, line_checks, refused}
use Rattle.decl_text.specs.declared.reason.Reason.{Reason}
use Rattle.decl_text.specs.declared.reason.Reason.TheVariants.{TooLong}
use Rattle.decl_text.specs.declared.reason.Refusal.{Refusal}
use Rattle.decl_text.specs.declared.reason.ReadFault.{ReadFault}
use Rattle.decl_text.specs.declared.reason.ReadFault.TheVariants.{Refused, Memory}
use Rattle.decl_text.specs.declared.item.Item.{Item}
use Rattle.decl_text.specs.declared.decl.Numbered.{Numbered}
use Rattle.decl_text.specs.Read.{Read}

-- no element passes
abbrev pub NonePass : {X : Type 0} → (X → Bool) → List X → Type 0
NonePass p [] = Unit {0}
NonePass p (x ∷ xs) = (p x ≡ false) × NonePass p xs

-- a line of a write, or a `sync` line
abbrev pub is_work_line : List ℕ → Bool
is_work_line line = begins_work (words line)

-- the lines before the first write or `sync` line
abbrev pub declarations : List (List ℕ) → List (List ℕ)
declarations all = before_first is_work_line all

-- a line is wrong by itself, whatever stands before it
abbrev pub is_wrong : List ℕ → Bool
is_wrong line = is_some (first_found line_checks nothing_declared line)

-- these lines up to the first that is wrong by itself
abbrev pub right_lines : List (List ℕ) → List (List ℕ)
right_lines all = before_first is_wrong all

-- what lines say up to the first that is wrong by itself, and why it is
pub record Formed : Type 0 where
  pub items : List Numbered
  pub fault : Option Refusal

abbrev pub with_item : ℕ → Option Item → Formed → Formed
with_item number None more = more
with_item number (Some said) more = record more { items = record { line = number; item = said } ∷ more.items }

-- after these
abbrev pub added : List Numbered → Formed → Formed
added items more = record more { items = items ++ more.items }

abbrev pub formed_by : Option Reason → ℕ → Option Item → Formed → Formed
formed_by None number said more = with_item number said more
formed_by (Some reason) number said more = record { items = []; fault = Some (refused number reason) }

-- these lines, the first of which has this number
unfoldable pub formed : ℕ → List (List ℕ) → Formed
formed number [] = record { items = []; fault = None }
formed number (line ∷ lines) = formed_by (first_found line_checks nothing_declared line) number (said (words line)) (formed (number + 1) lines)

-- lines of which none is a write or a `sync` line say these items, and the first that is wrong by itself has this fault
abbrev pub AreOfLines : List Numbered → Option Refusal → Type 0
AreOfLines items fault = (all : List (List ℕ)) × NonePass is_work_line all × (record { items = items; fault = fault } ≡ formed 1 all)

-- the lines that were read: those of the declarations, up to the first that is wrong by itself
abbrev pub read_lines : List ℕ → List (List ℕ)
read_lines text = right_lines (declarations (lines text))

pub record IsReadDecl (text : List ℕ) (read : Read) : Type 0 where
  pub formed : record { items = read.items; fault = read.fault } ≡ formed 1 (declarations (lines text))
  pub within : read.rest ≤ length text
  pub few : read.line ≤ read.rest + 1
  -- the reading stopped behind these
  pub rest : lines (drop read.rest text) ≡ drop (length (read_lines text)) (lines text)
  pub line : read.line ≡ length (read_lines text) + 1

-- a text is refused for its length, or these are its declarations
abbrev pub ReadsDecl : List ℕ → Result Read ReadFault → Type 0
ReadsDecl text (Ok read) = (length text ≤ most_bytes) × IsReadDecl text read
ReadsDecl text (Err (Refused refusal)) = (most_bytes < length text) × (refusal ≡ refused 0 TooLong)
ReadsDecl text (Err Memory) = Unit {0}

-- the first refusal of what lines say, behind what is known, and else the fault of the line behind them
unfoldable pub refusal_of_items : List (Check Item) → Declarations → List Numbered → Option Refusal → Option Refusal
refusal_of_items checks known [] fault = fault
refusal_of_items checks known (next ∷ more) fault =
    option_or (option_map (refused next.line) (first_found checks known next.item))
    (refusal_of_items checks (after known next.item) more fault)

-- what is known behind it
abbrev pub known_of_items : Declarations → List Numbered → Declarations
known_of_items known [] = known
known_of_items known (next ∷ more) = known_of_items (after known next.item) more
