-- Lines one behind the other: the refusal of all of them by that of the rest.
use Rattle.std.proofs.Common.{◌≡◌, ℕ, ◌+◌, not, cond, Bool, true, false, List, [], ◌∷◌, take, None, Ok, Err, refl, ap, sym, ◌∙◌, one-add}
use Rattle.std.specs.List.{position_or_len}
use Rattle.std.specs.Option.{option_map, option_or}
use Rattle.decl_text.specs.Text.{words}
use Rattle.decl_text.specs.Items.{said}
use Rattle.decl_text.specs.Known.{Declarations, after_line}
use Rattle.decl_text.specs.Stands.{stand_of}
use Rattle.decl_text.specs.declared.stand.Stand.TheVariants.{Front}
use Rattle.decl_text.specs.Reading.{declarations, is_work_line}
use Rattle.decl_text.specs.Refusals.{first_found, known_after, line_checks, line_reason, refusal, refused}
use Rattle.decl_text.specs.declared.reason.ReadFault.{ReadFault}
use Rattle.decl_text.specs.declared.reason.ReadFault.TheVariants.{Refused, Memory}
use Rattle.decl_text.proofs.Unrefused.{line_passes}
use Rattle.work_text.specs.Work.{all_checks}
use Rattle.work_text.specs.Lines.{ReadsLines, ReadsNumbered}
use Rattle.work_text.proofs.Rests.{IsPaired, never_front, step}

refusal_step : (before : Declarations) (number : ℕ) (line : List ℕ) (more : List (List ℕ))
    → refusal all_checks before number (line ∷ more)
    ≡ option_or (option_map (refused number) (line_reason all_checks before line)) (refusal all_checks (after_line before (said (words line))) (number + 1) more)
unfolding refusal
refusal_step before number line more = refl

refusal_end : (before : Declarations) (number : ℕ) → refusal all_checks before number [] ≡ None
unfolding refusal
refusal_end before number = refl

-- a line that is not refused leaves the refusal to the rest
pub refused_on : (before behind : Declarations) (number : ℕ) (line : List ℕ) (more all : List (List ℕ)) → all ≡ line ∷ more → line_reason all_checks before line ≡ None
    → behind ≡ after_line before (said (words line)) → refusal all_checks behind (number + 1) more ≡ refusal all_checks before number all
refused_on before behind number line more all is none known =
    ap (λ k. refusal all_checks k (number + 1) more) known
    ∙ sym (ap (λ r. option_or (option_map (refused number) r) (refusal all_checks (after_line before (said (words line))) (number + 1) more)) none)
    ∙ sym (refusal_step before number line more)
    ∙ ap (refusal all_checks before number) (sym is)

pub known_on : (before behind : Declarations) (line : List ℕ) (more all : List (List ℕ)) → all ≡ line ∷ more → behind ≡ after_line before (said (words line)) → known_after behind more ≡ known_after before all
known_on before behind line more all is known = ap (λ k. known_after k more) known ∙ ap (known_after before) (sym is)

-- the first line that is refused
pub refused_here : (before start behind : Declarations) (number first : ℕ) (line : List ℕ) (more rest all : List (List ℕ)) (fault : ReadFault) → rest ≡ line ∷ more
    → refusal all_checks before number rest ≡ refusal all_checks start first all → ReadsNumbered before number line behind (Err fault) → ReadsLines start first all behind (Err fault)
refused_here before start behind number first line more rest all Memory is whole reads = tt
refused_here before start behind number first line more rest all (Refused refusal_is) is whole reads =
    sym whole ∙ ap (refusal all_checks before number) is ∙ refusal_step before number line more
    ∙ ap (λ r. option_or r (refusal all_checks (after_line before (said (words line))) (number + 1) more)) reads

-- no line is left
pub refused_end : (before start : Declarations) (number first : ℕ) (rest all : List (List ℕ)) → rest ≡ [] → refusal all_checks before number rest ≡ refusal all_checks start first all
    → known_after before rest ≡ known_after start all → ReadsLines start first all before (Ok tt)
refused_end before start number first rest all none whole known =
    (sym whole ∙ ap (refusal all_checks before number) none ∙ refusal_end before number, ap (known_after before) (sym none) ∙ known)

-- what is before the first one is nothing where the first of all is it
first_by : {X : Type 0} (b : Bool) (n : ℕ) (x : X) (xs : List X) → take (cond (not b) (1 + n) 0) (x ∷ xs) ≡ [] → b ≡ true
first_by true n x xs none = refl
first_by false n x xs none = let front = rw (one-add n) at none in cc

pub first_works : (line : List ℕ) (more : List (List ℕ)) → declarations (line ∷ more) ≡ [] → is_work_line line ≡ true
first_works line more none = first_by (is_work_line line) (position_or_len is_work_line more) line more none

-- behind a line that is not refused some write or `sync` line is known, or nothing but one of these may come
pub stands_on : (before behind : Declarations) (line : List ℕ) (more all : List (List ℕ)) → IsPaired before → all ≡ line ∷ more → line_reason all_checks before line ≡ None
    → behind ≡ after_line before (said (words line)) → (stand_of before ≡ Front → declarations all ≡ []) → stand_of behind ≡ Front → declarations more ≡ []
stands_on before behind line more all paired is none known stands front =
    let alone : first_found line_checks before line ≡ None = (line_passes all_checks before line none).0 in
    let next = step before line paired (λ first. first_works line more (sym (ap declarations is) ∙ stands first)) alone in
    absurd (never_front (after_line before (said (words line))) next.behind (ap stand_of (sym known) ∙ front))
