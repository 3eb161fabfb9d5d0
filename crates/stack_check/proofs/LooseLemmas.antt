-- What passes the checks passes some of them.
use Rattle.std.proofs.Common.{◌≡◌, ℕ, ◌+◌, ◌==◌, Bool, true, false, not, cond, List, [], ◌∷◌, Option, None, Some, refl, ap, ◌∙◌, arith}
use Rattle.std.specs.Prelude.{filter}
use Rattle.std.specs.Option.{option_map, option_or}
use Rattle.decl_text.specs.Text.{words}
use Rattle.decl_text.specs.Items.{said}
use Rattle.decl_text.specs.Known.{Declarations, after_line, nothing_declared}
use Rattle.decl_text.specs.Reasons.{number_of_reason}
use Rattle.decl_text.specs.Refusals.{Check, first_found, item_checks, line_reason, refusal, refused, said_reason}
use Rattle.decl_text.specs.Accepting.{loose_checks}
use Rattle.decl_text.proofs.Unrefused.{cond_none, line_passes, none_refused}
use Rattle.decl_text.specs.declared.item.Item.{Item}
use Rattle.decl_text.specs.declared.reason.Reason.{Reason}
use Rattle.decl_text.specs.declared.reason.Refusal.{Refusal}

kept :
    (b : Bool) (check : Check Item) (checks : List (Check Item)) (known : Declarations) (said : Item) → check.finds known said ≡ false → first_found checks known said ≡ None
    → first_found (cond b (check ∷ checks) checks) known said ≡ None
unfolding first_found
kept true check checks known said right none = ap (λ f. cond f (Some check.reason) (first_found checks known said)) right ∙ none
kept false check checks known said right none = none

some_checks :
    (keeps : Check Item → Bool) (checks : List (Check Item)) (known : Declarations) (said : Item) → first_found checks known said ≡ None
    → first_found (filter keeps checks) known said ≡ None
unfolding first_found
some_checks keeps [] known said none = refl
some_checks keeps (check ∷ checks) known said none =
    let parts = cond_none (check.finds known said) check.reason (first_found checks known said) none in
    kept (keeps check) check (filter keeps checks) known said parts.0 (some_checks keeps checks known said parts.1)

-- a line without a refusal, and those behind it
pub map_or_none : (number : ℕ) (o : Option Reason) (rest : Option Refusal) → option_or (option_map (refused number) o) rest ≡ None → (o ≡ None) × (rest ≡ None)
map_or_none number None rest none = (refl, none)
map_or_none number (Some reason) rest none = absurd (grind arith)

some_reason :
    (keeps : Check Item → Bool) (checks : List (Check Item)) (known : Declarations) (o : Option Item) → said_reason checks known o ≡ None → said_reason (filter keeps checks) known o ≡ None
some_reason keeps checks known None none = refl
some_reason keeps checks known (Some said) none = some_checks keeps checks known said none

some_pass :
    (keeps : Check Item → Bool) (checks : List (Check Item)) (known : Declarations) (number : ℕ) (all : List (List ℕ)) → refusal checks known number all ≡ None
    → refusal (filter keeps checks) known number all ≡ None
unfolding refusal
some_pass keeps checks known number [] none = refl
some_pass keeps checks known number (line ∷ lines) none =
    let parts = none_refused checks known number line lines none in
    let fine = line_passes checks known line parts.0 in
    let here : line_reason (filter keeps checks) known line ≡ None =
    ap (λ o. option_or o (said_reason (filter keeps checks) known (said (words line)))) fine.0 ∙ some_reason keeps checks known (said (words line)) fine.1 in
    ap (λ o. option_or (option_map (refused number) o) (refusal (filter keeps checks) (after_line known (said (words line))) (number + 1) lines)) here
    ∙ some_pass keeps checks (after_line known (said (words line))) (number + 1) lines parts.1

-- all checks but that of rescuers find nothing where all do
pub passes_loose : (all : List (List ℕ)) → refusal item_checks nothing_declared 1 all ≡ None → refusal loose_checks nothing_declared 1 all ≡ None
passes_loose all passes = some_pass (λ check. not (number_of_reason check.reason == 10)) item_checks nothing_declared 1 all passes
