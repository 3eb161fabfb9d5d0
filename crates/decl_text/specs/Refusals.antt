-- Which line of a text is refused, and why.
use Rattle.std.specs.Prelude.{◌+◌, if◌then◌else◌, Bool, List, [], ◌∷◌, ℕ, fold, Option, None, Some}
use Rattle.std.specs.Option.{option_map, option_or}
use Rattle.decl_text.specs.Text.{words}
use Rattle.decl_text.specs.Items.{said}
use Rattle.decl_text.specs.Known.{Declarations, after_line}
use Rattle.decl_text.specs.Checks.{not_text, bad_word, bad_number, name_taken, no_such_device, member_taken, bad_shape, too_large, empty_device, reserve_zero, needs_rescuer, not_a_top, past_end, overlap, too_many_segments, no_such_pool}
use Rattle.decl_text.specs.Reasons.{number_of_reason}
use Rattle.decl_text.specs.declared.reason.Reason.{Reason}
use Rattle.decl_text.specs.declared.reason.Reason.TheVariants as reason
use Rattle.decl_text.specs.declared.reason.Refusal.{Refusal}
use Rattle.decl_text.specs.declared.item.Item.{Item}

-- a check: its reason, and what it finds wrong
pub record Check (A : Type 0) : Type 0 where
  pub reason : Reason
  pub finds : Declarations → A → Bool

abbrev pub check : {A : Type 0} → Reason → (Declarations → A → Bool) → Check A
check reason finds = record { reason = reason; finds = finds }

-- the reason of the first check that finds something
unfoldable pub first_found : {A : Type 0} → List (Check A) → Declarations → A → Option Reason
first_found [] known line = None
first_found (check ∷ checks) known line = if check.finds known line then Some check.reason else first_found checks known line

-- the checks of a line as it stands, in their order
abbrev pub line_checks : List (Check (List ℕ))
line_checks = check reason.NotText not_text ∷ check reason.BadWord bad_word ∷ check reason.BadNumber bad_number ∷ []

-- the checks of what it says, in their order behind those
abbrev pub item_checks : List (Check Item)
item_checks = check reason.NameTaken name_taken ∷ check reason.NoSuchDevice no_such_device ∷ check reason.MemberTaken member_taken
    ∷ check reason.BadShape bad_shape ∷ check reason.TooLarge too_large ∷ check reason.EmptyDevice empty_device
    ∷ check reason.ReserveZero reserve_zero ∷ check reason.NeedsRescuer needs_rescuer ∷ check reason.NotATop not_a_top
    ∷ check reason.PastEnd past_end ∷ check reason.Overlap overlap ∷ check reason.TooManySegments too_many_segments
    ∷ check reason.NoSuchPool no_such_pool ∷ []

-- the reason why a line is refused that says this, and a line that says nothing is not
abbrev pub said_reason : List (Check Item) → Declarations → Option Item → Option Reason
said_reason checks known None = None
said_reason checks known (Some said) = first_found checks known said

abbrev pub line_reason : List (Check Item) → Declarations → List ℕ → Option Reason
line_reason checks known line = option_or (first_found line_checks known line) (said_reason checks known (said (words line)))

abbrev pub refused : ℕ → Reason → Refusal
refused line reason = record { number = number_of_reason reason; line = line }

-- the first refusal of these lines, the first of which has this number, behind what is known: each line is checked against those before it
unfoldable pub refusal : List (Check Item) → Declarations → ℕ → List (List ℕ) → Option Refusal
refusal checks known number [] = None
refusal checks known number (line ∷ lines) =
    option_or (option_map (refused number) (line_reason checks known line))
    (refusal checks (after_line known (said (words line))) (number + 1) lines)

-- what is known behind these lines
abbrev pub known_after : Declarations → List (List ℕ) → Declarations
known_after known lines = fold (λ so_far line. after_line so_far (said (words line))) known lines
