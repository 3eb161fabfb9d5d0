-- Lines that all checks pass, the loose ones pass.
use Rattle.std.proofs.Common.{◌≡◌, ◌+◌, ◌==◌, if◌then◌else◌, not, ℕ, Bool, true, false, List, [], ◌∷◌, filter, Option, None, Some, refl, ap, ◌∙◌}
use Rattle.std.specs.Option.{option_map, option_or}
use Rattle.decl_text.specs.Items.{said}
use Rattle.decl_text.specs.Known.{Declarations, after_line, nothing_declared}
use Rattle.decl_text.specs.Reasons.{number_of_reason}
use Rattle.decl_text.specs.Refusals.{Check, first_found, line_reason, refusal, refused, said_reason}
use Rattle.decl_text.specs.Text.{words}
use Rattle.decl_text.specs.declared.item.Item.{Item}
use Rattle.decl_text.proofs.Unrefused.{cond_none, line_passes, none_refused}
use Rattle.work_text.specs.Work.{all_checks, checks_by}

module _ (keeps : Check Item → Bool) where
  kept_pass : (checks : List (Check Item)) (known : Declarations) (item : Item) → first_found checks known item ≡ None → first_found (filter keeps checks) known item ≡ None
  unfolding first_found
  kept_pass [] known item none = refl
  kept_pass (check ∷ checks) known item none =
      let parts = cond_none (check.finds known item) check.reason (first_found checks known item) none in
      by (keeps check) parts.0 (kept_pass checks known item parts.1)
    where
      by : (keep : Bool) → check.finds known item ≡ false → first_found (filter keeps checks) known item ≡ None
          → first_found (if keep then check ∷ filter keeps checks else filter keeps checks) known item ≡ None
      by true right rest = ap (λ finds. if finds then Some check.reason else first_found (filter keeps checks) known item) right ∙ rest
      by false right rest = rest

  said_pass : (checks : List (Check Item)) (known : Declarations) (o : Option Item) → said_reason checks known o ≡ None → said_reason (filter keeps checks) known o ≡ None
  said_pass checks known None none = refl
  said_pass checks known (Some item) none = kept_pass checks known item none

  lines_pass : (checks : List (Check Item)) (known : Declarations) (number : ℕ) (all : List (List ℕ)) → refusal checks known number all ≡ None
      → refusal (filter keeps checks) known number all ≡ None
  unfolding refusal
  lines_pass checks known number [] none = refl
  lines_pass checks known number (line ∷ left) none =
      let parts = none_refused checks known number line left none in
      let fine = line_passes checks known line parts.0 in
      let here : line_reason (filter keeps checks) known line ≡ None =
      ap (λ o. option_or o (said_reason (filter keeps checks) known (said (words line)))) fine.0 ∙ said_pass checks known (said (words line)) fine.1 in
      ap (λ o. option_or (option_map (refused number) o) (refusal (filter keeps checks) (after_line known (said (words line))) (number + 1) left)) here
      ∙ lines_pass checks (after_line known (said (words line))) (number + 1) left parts.1

-- the loose ones are all but that of rescuers
pub loosely : (all : List (List ℕ)) → refusal all_checks nothing_declared 1 all ≡ None → refusal (checks_by true) nothing_declared 1 all ≡ None
loosely all none = lines_pass (λ check. not (number_of_reason check.reason == 10)) all_checks nothing_declared 1 all none
