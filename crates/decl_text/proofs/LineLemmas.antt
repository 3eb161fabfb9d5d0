-- What a line says, by its first word.
use Rattle.std.proofs.Common.{◌≡◌, ◌||◌, ℕ, Bool, true, false, not, List, [], ◌∷◌, Some, None, Option, Ok, Err, if◌then◌else◌, drop, refl, sym, ap, ◌∙◌, arith}
use Rattle.std.proofs.lemmas.Option.{none-some}
use Rattle.std.proofs.Math.Bool.{or-true, or-false}
use Rattle.decl_text.specs.Text.{is_text, words}
use Rattle.decl_text.specs.Commands.{command_of}
use Rattle.decl_text.specs.Forms.{form, is_malformed, is_misnumbered}
use Rattle.decl_text.specs.Items.{is_comment, said, meaning, malformed, misnumbered}
use Rattle.decl_text.specs.Known.{Declarations}
use Rattle.decl_text.specs.Stands.{may_stand, misplaced, stand_of}
use Rattle.decl_text.specs.declared.stand.Stand.{Stand}
use Rattle.decl_text.specs.Refusals.{first_found, line_checks}
use Rattle.decl_text.specs.Lines.{CommandSays, LineSays, command_first, first_of}
use Rattle.decl_text.specs.declared.reason.Reason.{Reason}
use Rattle.decl_text.specs.declared.reason.Reason.TheVariants.{BadWord, BadNumber, NameTaken, NoSuchDevice, MemberTaken, BadShape, TooLarge, EmptyDevice, ReserveZero, NeedsRescuer, NotATop, PastEnd, Overlap, TooManySegments, NoSuchPool, TooLong, NotText, TooMuchWork}
use Rattle.decl_text.specs.declared.command.Command.{Command}
use Rattle.decl_text.specs.declared.item.Item.{Item}
use Rattle.decl_text.specs.declared.line.First.{First}
use Rattle.decl_text.specs.declared.line.First.TheVariants as first
use Rattle.decl_text.specs.declared.line.LineFault.{LineFault}
use Rattle.decl_text.specs.declared.line.LineFault.TheVariants.{Wrong, Memory}

-- the first check of a line that finds something, by what each finds
abbrev by_checks : (text malformed misplaced misnumbered : Bool) → Option Reason
by_checks text malformed misplaced misnumbered =
    if not text then Some NotText else (if malformed || misplaced then Some BadWord else (if misnumbered then Some BadNumber else None))

found_by : (known : Declarations) (line : List ℕ) (all : List (List ℕ)) → words line ≡ all
    → first_found line_checks known line ≡ by_checks (is_text line) (malformed all) (misplaced (stand_of known) all) (misnumbered all)
unfolding first_found
found_by known line all is = rw is refl

some_none : {A : Type 0} {x : A} → Some x ≡ None → ⊥
some_none {x = x} is = none-some x (sym is)

-- what is right of a line that is not wrong where it stands
pub record AreRight (stand : Stand) (line : List (List ℕ)) : Type 0 where
  pub formed : malformed line ≡ false
  pub placed : misplaced stand line ≡ false
  pub numbered : misnumbered line ≡ false

right_by : (text malformed misplaced misnumbered : Bool) → by_checks text malformed misplaced misnumbered ≡ None → (malformed ≡ false) × (misplaced ≡ false) × (misnumbered ≡ false)
right_by false m p n none = absurd (some_none none)
right_by true true p n none = absurd (some_none none)
right_by true false true n none = absurd (some_none none)
right_by true false false true none = absurd (some_none none)
right_by true false false false none = (refl, refl, refl)

pub told_parts : (known : Declarations) (line : List ℕ) → first_found line_checks known line ≡ None → AreRight (stand_of known) (words line)
told_parts known line none =
    let parts = right_by (is_text line) (malformed (words line)) (misplaced (stand_of known) (words line)) (misnumbered (words line)) (sym (found_by known line (words line) refl) ∙ none) in
    record { formed = parts.0; placed = parts.1; numbered = parts.2 }

-- of what is known, the checks of a line go by where it stands
pub same_found : (a b : Declarations) (line : List ℕ) → stand_of a ≡ stand_of b → first_found line_checks a line ≡ first_found line_checks b line
same_found a b line same =
    found_by a line (words line) refl
    ∙ ap (λ (s : Stand). by_checks (is_text line) (malformed (words line)) (misplaced s (words line)) (misnumbered (words line))) same
    ∙ sym (found_by b line (words line) refl)

pub says_no_text : (stand : Stand) (line : List ℕ) → is_text line ≡ false → LineSays stand line (Err (Wrong NotText))
says_no_text stand line odd = λ known at. rw (found_by known line (words line) refl, odd) refl

-- a line of text is as its words are
told : (known : Declarations) (line : List ℕ) (all : List (List ℕ)) → is_text line ≡ true → words line ≡ all
    → first_found line_checks known line ≡ (if malformed all || misplaced (stand_of known) all then Some BadWord else (if misnumbered all then Some BadNumber else None))
told known line all text is = rw (found_by known line all is, text) refl

-- the kinds of first words differ
abbrev tag : First → ℕ
tag first.Skipped = 0
tag first.Unknown = 1
tag (first.Command command) = 2

skipped_unknown : first.Skipped ≡ first.Unknown → ⊥
skipped_unknown is = absurd (let e = ap tag is in omega (arith, e))

skipped_command : (command : Command) → first.Skipped ≡ first.Command command → ⊥
skipped_command command is = absurd (let e = ap tag is in omega (arith, e))

unknown_command : (command : Command) → first.Unknown ≡ first.Command command → ⊥
unknown_command command is = absurd (let e = ap tag is in omega (arith, e))

command_unknown : (command : Command) → first.Command command ≡ first.Unknown → ⊥
command_unknown command is = unknown_command command (sym is)

same_command : (a b : Command) → first.Command a ≡ first.Command b → a ≡ b
same_command a b is = cc

never_skipped : (command : Option Command) → first_of command ≡ first.Skipped → ⊥
never_skipped None is = skipped_unknown (sym is)
never_skipped (Some command) is = skipped_command command (sym is)

-- a line that is skipped
skipped_by : (comment : Bool) (word : List ℕ) (rest : List (List ℕ)) → is_comment word ≡ comment → (if comment then first.Skipped else first_of (command_of word)) ≡ first.Skipped → is_comment word ≡ true
skipped_by true word rest is first = is
skipped_by false word rest is first = absurd (never_skipped (command_of word) first)

pub says_nothing : (stand : Stand) (line : List ℕ) (all : List (List ℕ)) → is_text line ≡ true → words line ≡ all → command_first all ≡ first.Skipped → LineSays stand line (Ok None)
says_nothing stand line [] text is skipped = λ known at. (told known line [] text is, rw is refl)
says_nothing stand line (word ∷ rest) text is skipped =
    let comment = skipped_by (is_comment word) word rest refl skipped in
    λ known at. (rw (told known line (word ∷ rest) text is, comment) refl, rw (is, comment) refl)

-- a line with a first word that no line has
unknown_by : (comment : Bool) (command : Option Command) → (if comment then first.Skipped else first_of command) ≡ first.Unknown → (comment ≡ false) × (command ≡ None)
unknown_by true command is = absurd (let e : first.Skipped ≡ first.Unknown = is in skipped_unknown e)
unknown_by false None is = (refl, refl)
unknown_by false (Some command) is = absurd (command_unknown command is)

pub says_unknown : (stand : Stand) (line : List ℕ) (all : List (List ℕ)) → is_text line ≡ true → words line ≡ all → command_first all ≡ first.Unknown → LineSays stand line (Err (Wrong BadWord))
says_unknown stand line [] text is unknown = absurd (skipped_unknown unknown)
says_unknown stand line (word ∷ rest) text is unknown =
    let parts = unknown_by (is_comment word) (command_of word) unknown in
    λ known at. rw (told known line (word ∷ rest) text is, parts.0, parts.1) refl

-- a line of a command
command_by : (comment : Bool) (found : Option Command) (command : Command) → (if comment then first.Skipped else first_of found) ≡ first.Command command → (comment ≡ false) × (found ≡ Some command)
command_by true found command is = absurd (skipped_command command is)
command_by false None command is = absurd (unknown_command command is)
command_by false (Some other) command is = (refl, rw (same_command other command is) refl)

pub record Commanded (stand : Stand) (line : List ℕ) (command : Command) (rest : List (List ℕ)) : Type 0 where
  pub told : (known : Declarations) → stand_of known ≡ stand
      → first_found line_checks known line
      ≡ (if is_malformed (form command) rest || not (may_stand stand command) then Some BadWord else (if is_misnumbered (form command) rest then Some BadNumber else None))
  pub said : said (words line) ≡ meaning command rest

commanded : (stand : Stand) (line word : List ℕ) (rest : List (List ℕ)) (command : Command) → is_text line ≡ true → words line ≡ word ∷ rest → command_first (word ∷ rest) ≡ first.Command command
    → Commanded stand line command rest
commanded stand line word rest command text is first_is =
    let parts = command_by (is_comment word) (command_of word) command first_is in
    record { told = λ known at. rw (told known line (word ∷ rest) text is, parts.0, parts.1, at) refl; said = rw (is, parts.0, parts.1) refl }

-- it may not stand there
late_said : (stand : Stand) (line : List ℕ) (rest : List (List ℕ)) (command : Command) → Commanded stand line command rest → may_stand stand command ≡ false → LineSays stand line (Err (Wrong BadWord))
late_said stand line rest command c late = λ known at. rw (c.told known at, late, or-true) refl

-- it may
told_there : (stand : Stand) (line : List ℕ) (rest : List (List ℕ)) (command : Command) → Commanded stand line command rest → may_stand stand command ≡ true
    → (known : Declarations) → stand_of known ≡ stand → first_found line_checks known line ≡ (if is_malformed (form command) rest then Some BadWord else (if is_misnumbered (form command) rest then Some BadNumber else None))
told_there stand line rest command c stands known at = rw (c.told known at, stands, or-false) refl

item_said : (stand : Stand) (line : List ℕ) (rest : List (List ℕ)) (command : Command) (item : Item) → Commanded stand line command rest → may_stand stand command ≡ true
    → CommandSays command rest (Ok item) → LineSays stand line (Ok (Some item))
item_said stand line rest command item c stands says = λ known at. (rw (told_there stand line rest command c stands known at, says.0, says.1) refl, rw c.said says.2)

fault_said : (stand : Stand) (line : List ℕ) (rest : List (List ℕ)) (command : Command) (fault : LineFault) → Commanded stand line command rest → may_stand stand command ≡ true
    → CommandSays command rest (Err fault) → LineSays stand line (Err fault)
fault_said stand line rest command (Wrong BadWord) c stands says = λ known at. rw (told_there stand line rest command c stands known at, says) refl
fault_said stand line rest command (Wrong BadNumber) c stands says = λ known at. rw (told_there stand line rest command c stands known at, says.0, says.1) refl
fault_said stand line rest command Memory c stands says = λ known at. tt
fault_said stand line rest command (Wrong NameTaken) c stands says = absurd says
fault_said stand line rest command (Wrong NoSuchDevice) c stands says = absurd says
fault_said stand line rest command (Wrong MemberTaken) c stands says = absurd says
fault_said stand line rest command (Wrong BadShape) c stands says = absurd says
fault_said stand line rest command (Wrong TooLarge) c stands says = absurd says
fault_said stand line rest command (Wrong EmptyDevice) c stands says = absurd says
fault_said stand line rest command (Wrong ReserveZero) c stands says = absurd says
fault_said stand line rest command (Wrong NeedsRescuer) c stands says = absurd says
fault_said stand line rest command (Wrong NotATop) c stands says = absurd says
fault_said stand line rest command (Wrong PastEnd) c stands says = absurd says
fault_said stand line rest command (Wrong Overlap) c stands says = absurd says
fault_said stand line rest command (Wrong TooManySegments) c stands says = absurd says
fault_said stand line rest command (Wrong NoSuchPool) c stands says = absurd says
fault_said stand line rest command (Wrong TooLong) c stands says = absurd says
fault_said stand line rest command (Wrong NotText) c stands says = absurd says
fault_said stand line rest command (Wrong TooMuchWork) c stands says = absurd says

pub says_late : (stand : Stand) (line : List ℕ) (all : List (List ℕ)) (command : Command) → is_text line ≡ true → words line ≡ all → command_first all ≡ first.Command command
    → may_stand stand command ≡ false → LineSays stand line (Err (Wrong BadWord))
says_late stand line [] command text is first_is late = absurd (skipped_command command first_is)
says_late stand line (word ∷ rest) command text is first_is late = late_said stand line rest command (commanded stand line word rest command text is first_is) late

pub says_item : (stand : Stand) (line : List ℕ) (all : List (List ℕ)) (command : Command) (item : Item) → is_text line ≡ true → words line ≡ all → command_first all ≡ first.Command command
    → may_stand stand command ≡ true → CommandSays command (drop 1 all) (Ok item) → LineSays stand line (Ok (Some item))
says_item stand line [] command item text is first_is stands says = absurd (skipped_command command first_is)
says_item stand line (word ∷ rest) command item text is first_is stands says = item_said stand line rest command item (commanded stand line word rest command text is first_is) stands says

pub says_fault : (stand : Stand) (line : List ℕ) (all : List (List ℕ)) (command : Command) (fault : LineFault) → is_text line ≡ true → words line ≡ all → command_first all ≡ first.Command command
    → may_stand stand command ≡ true → CommandSays command (drop 1 all) (Err fault) → LineSays stand line (Err fault)
says_fault stand line [] command fault text is first_is stands says = absurd (skipped_command command first_is)
says_fault stand line (word ∷ rest) command fault text is first_is stands says = fault_said stand line rest command fault (commanded stand line word rest command text is first_is) stands says
