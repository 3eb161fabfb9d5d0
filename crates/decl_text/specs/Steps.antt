-- A step of reading declarations, line by line.
use Rattle.std.specs.Prelude.{◌≡◌, ◌+◌, ◌≤◌, true, false, Bool, List, [], ◌∷◌, ◌++◌, ℕ, length, drop, Option, None}
use Rattle.std.specs.Option.{option_map, option_to_list}
use Rattle.decl_text.specs.Text.{lines}
use Rattle.decl_text.specs.Read.{AreDeclarations, Read}
use Rattle.decl_text.specs.Reading.{Formed, IsReadDecl, NonePass, added, formed, declarations, is_wrong, is_work_line}
use Rattle.decl_text.specs.declared.decl.DeclParts.{DeclParts}
use Rattle.decl_text.specs.declared.item.Item.{Item}

-- the first element passes, where there is one
abbrev pub FirstPasses : {X : Type 0} → (X → Bool) → List X → Type 0
FirstPasses p [] = Unit {0}
FirstPasses p (x ∷ xs) = p x ≡ true

abbrev pub read_of : DeclParts → Read
read_of parts = record { items = parts.items.items; fault = parts.fault; rest = parts.rest; line = parts.line }

-- what was read behind a line that says this, or nothing, where the next one begins at that place
abbrev pub passed : Read → Option Item → ℕ → Read
passed read said place = record {
  items = read.items ++ option_to_list (option_map (λ item. record { line = read.line; item = item }) said);
  fault = read.fault;
  rest = place;
  line = read.line + 1;
}

-- what is read in the end, where these lines are left: what was read so far, and what they say
abbrev pub read_in_the_end : Read → List (List ℕ) → Formed
read_in_the_end read left = added read.items (formed read.line (declarations left))

-- no line was wrong and none was a write or a `sync` line so far
pub record IsSoFar (text : List ℕ) (read : Read) : Type 0 where
  pub fine : read.fault ≡ None
  pub within : read.rest ≤ length text
  pub few : read.line ≤ read.rest + 1
  pub items : AreDeclarations read.items
  pub passed : List (List ℕ)
  pub cut : lines text ≡ passed ++ lines (drop read.rest text)
  pub none : NonePass is_work_line passed
  pub right : NonePass is_wrong passed
  pub counted : read.line ≡ length passed + 1
  pub whole : read_in_the_end read (lines (drop read.rest text)) ≡ formed 1 (declarations (lines text))

-- more declarations may follow, or all were read
abbrev pub IsReadSoFar : Bool → List ℕ → Read → Type 0
IsReadSoFar true text read = IsSoFar text read
IsReadSoFar false text read = IsReadDecl text read × AreDeclarations read.items
