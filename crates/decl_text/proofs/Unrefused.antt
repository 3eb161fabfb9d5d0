-- Lines that are not refused: no check finds anything in one of them, and what each line keeps holds of all that they declare.
use Rattle.std.proofs.Common.{◌≡◌, ℕ, zero, suc, ◌+◌, Bool, true, false, cond, List, [], ◌∷◌, Option, None, Some, refl, sym, ap, ◌∙◌}
use Rattle.std.specs.Prelude.{slice_get}
use Rattle.std.specs.Option.{option_map, option_or}
use Rattle.std.proofs.lemmas.Option.{none-some, same_Some}
use Rattle.decl_text.specs.Text.{words}
use Rattle.decl_text.specs.Items.{said}
use Rattle.decl_text.specs.Known.{Declarations, after_line}
use Rattle.decl_text.specs.Reading.{NonePass, is_work_line}
use Rattle.decl_text.specs.Refusals.{Check, first_found, known_after, line_checks, line_reason, refusal, refused, said_reason}
use Rattle.decl_text.specs.declared.item.Item.{Item}

pub or_none : {A : Type 0} (a b : Option A) → option_or a b ≡ None → (a ≡ None) × (b ≡ None)
or_none None b none = (refl, none)
or_none (Some x) b none = absurd (none-some x (sym none))

pub map_none : {A B : Type 0} (f : A → B) (a : Option A) → option_map f a ≡ None → a ≡ None
map_none f None none = refl
map_none f (Some x) none = absurd (none-some (f x) (sym none))

pub cond_none : {A : Type 0} (b : Bool) (x : A) (more : Option A) → cond b (Some x) more ≡ None → (b ≡ false) × (more ≡ None)
cond_none true x more none = absurd (none-some x (sym none))
cond_none false x more none = (refl, none)

-- where no check finds anything, the one at this place does not
pub finds_nothing : {A : Type 0} (checks : List (Check A)) (known : Declarations) (x : A) (place : ℕ) (check : Check A)
    → first_found checks known x ≡ None → slice_get checks place ≡ Some check → check.finds known x ≡ false
unfolding first_found
finds_nothing [] known x place check none there = cc
finds_nothing (first ∷ checks) known x zero check none there =
    let parts = cond_none (first.finds known x) first.reason (first_found checks known x) none in
    ap (λ (c : Check _). c.finds known x) (sym (same_Some first check there)) ∙ parts.0
finds_nothing (first ∷ checks) known x (suc place) check none there =
    let parts = cond_none (first.finds known x) first.reason (first_found checks known x) none in
    finds_nothing checks known x place check parts.1 there

-- a line is not refused, and none of those behind it is
pub none_refused : (checks : List (Check Item)) (known : Declarations) (number : ℕ) (line : List ℕ) (left : List (List ℕ)) → refusal checks known number (line ∷ left) ≡ None
    → (line_reason checks known line ≡ None) × (refusal checks (after_line known (said (words line))) (number + 1) left ≡ None)
unfolding refusal
none_refused checks known number line left none =
    let parts = or_none (option_map (refused number) (line_reason checks known line)) (refusal checks (after_line known (said (words line))) (number + 1) left) none in
    (map_none (refused number) (line_reason checks known line) parts.0, parts.1)

-- neither by its words nor by what it says
pub line_passes : (checks : List (Check Item)) (known : Declarations) (line : List ℕ) → line_reason checks known line ≡ None
    → (first_found line_checks known line ≡ None) × (said_reason checks known (said (words line)) ≡ None)
line_passes checks known line none = or_none (first_found line_checks known line) (said_reason checks known (said (words line))) none

module _ (checks : List (Check Item)) (Holds : Declarations → Type 0) where
  -- what each line keeps that is not refused
  abbrev pub EachLineKeeps : Type 0
  EachLineKeeps = (known : Declarations) (line : List ℕ) → line_reason checks known line ≡ None → Holds known → Holds (after_line known (said (words line)))

  -- it holds behind lines of which none is refused
  pub kept_behind : EachLineKeeps → (known : Declarations) (number : ℕ) (left : List (List ℕ)) → refusal checks known number left ≡ None → Holds known → Holds (known_after known left)
  kept_behind keeps known number [] none here = here
  kept_behind keeps known number (line ∷ left) none here =
      let parts = none_refused checks known number line left none in
      kept_behind keeps (after_line known (said (words line))) (number + 1) left parts.1 (keeps known line parts.0 here)

  -- the same of lines that are no writes and no `sync` lines
  abbrev pub IsKeptInFront : Type 0
  IsKeptInFront =
      (known : Declarations) (line : List ℕ) → is_work_line line ≡ false → line_reason checks known line ≡ None → Holds known → Holds (after_line known (said (words line)))

  pub kept_in_front : IsKeptInFront → (known : Declarations) (number : ℕ) (left : List (List ℕ)) → NonePass is_work_line left → refusal checks known number left ≡ None
      → Holds known → Holds (known_after known left)
  kept_in_front keeps known number [] front none here = here
  kept_in_front keeps known number (line ∷ left) front none here =
      let parts = none_refused checks known number line left none in
      kept_in_front keeps (after_line known (said (words line))) (number + 1) left front.1 parts.1 (keeps known line front.0 parts.0 here)
