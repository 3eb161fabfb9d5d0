-- Lines before all writes need no elements: their refusal is by the other checks.
use Rattle.std.proofs.Common.{◌≡◌, ℕ, ◌+◌, false, List, [], ◌∷◌, ◌++◌, length, Option, None, Some, refl, ◌∙◌, ap, arith}
use Rattle.std.specs.Prelude.{if◌then◌else◌}
use Rattle.std.specs.Option.{option_map, option_or}
use Rattle.std.proofs.lemmas.List.Sums.{fold-append}
use Rattle.decl_text.specs.Text.{words}
use Rattle.decl_text.specs.Items.{said}
use Rattle.decl_text.specs.Known.{Declarations, after_line}
use Rattle.decl_text.specs.Read.{IsDeclaration}
use Rattle.decl_text.specs.Reading.{NonePass, is_work_line}
use Rattle.decl_text.specs.Refusals.{Check, check, first_found, line_checks, said_reason, refused, refusal, known_after}
use Rattle.decl_text.specs.declared.reason.Reason.{Reason}
use Rattle.decl_text.specs.declared.reason.Reason.TheVariants.{TooMuchWork}
use Rattle.decl_text.specs.declared.item.Item.{Item}
use Rattle.decl_text.specs.declared.item.Item.TheVariants as item
use Rattle.decl_text.proofs.Declaring.{Declares}
use Rattle.decl_text.proofs.Fronts.{IsFront, front_declares, line_front}
use Rattle.decl_text.proofs.Unrefused.{map_none, or_none}
use Rattle.work_text.specs.Work.{too_much_work}

or_assoc : {A : Type 0} (a b c : Option A) → option_or a (option_or b c) ≡ option_or (option_or a b) c
or_assoc None b c = refl
or_assoc (Some a) b c = refl

-- the refusal of joined lines is the first one's, or else the second one's behind what is known then
pub refusal-append : (checks : List (Check Item)) (known : Declarations) (number : ℕ) (front back : List (List ℕ))
    → refusal checks known number (front ++ back)
    ≡ option_or (refusal checks known number front) (refusal checks (known_after known front) (number + length front) back)
unfolding refusal
refusal-append checks known number [] back = ap (λ n. refusal checks known n back) (omega arith)
refusal-append checks known number (line ∷ lines) back =
    let behind = after_line known (said (words line)) in
    let here = option_map (refused number) (option_or (first_found line_checks known line) (said_reason checks known (said (words line)))) in
    let place : (number + 1) + length lines ≡ number + length (line ∷ lines) = omega arith in
    ap (option_or here) (refusal-append checks behind (number + 1) lines back)
    ∙ or_assoc here (refusal checks behind (number + 1) lines) (refusal checks (known_after behind lines) ((number + 1) + length lines) back)
    ∙ ap (λ n. option_or (option_or here (refusal checks behind (number + 1) lines)) (refusal checks (known_after behind lines) n back)) place

pub known-append : (known : Declarations) (front back : List (List ℕ)) → known_after known (front ++ back) ≡ known_after (known_after known front) back
known-append known front back = fold-append (λ so_far line. after_line so_far (said (words line))) known front back

-- a last check that finds nothing
last_silent : {A : Type 0} (checks : List (Check A)) (last : Check A) (known : Declarations) (x : A) → last.finds known x ≡ false
    → first_found (checks ++ last ∷ []) known x ≡ first_found checks known x
unfolding first_found
last_silent [] last known x silent = rw silent refl
last_silent (check ∷ checks) last known x silent = ap (λ r. if check.finds known x then Some check.reason else r) (last_silent checks last known x silent)

-- checks, and behind them that of work
abbrev behind : List (Check Item) → List (Check Item)
behind checks = checks ++ check TooMuchWork too_much_work ∷ []

no_work : (known : Declarations) (said : Item) → IsDeclaration said → too_much_work known said ≡ false
no_work known (item.Write task dev range tag) is = absurd is
no_work known _ is = refl

reason_alike : (checks : List (Check Item)) (known : Declarations) (o : Option Item) → Declares o → said_reason (behind checks) known o ≡ said_reason checks known o
reason_alike checks known None is = refl
reason_alike checks known (Some said) is = last_silent checks (record { reason = TooMuchWork; finds = too_much_work }) known said (no_work known said is)

alike_step : (checks : List (Check Item)) (known : Declarations) (number : ℕ) (lines : List (List ℕ)) (f : Option Reason) (o : Option Item) → (f ≡ None → Declares o)
    → (f ≡ None → refusal (behind checks) (after_line known o) (number + 1) lines ≡ refusal checks (after_line known o) (number + 1) lines)
    → option_or (option_map (refused number) (option_or f (said_reason (behind checks) known o))) (refusal (behind checks) (after_line known o) (number + 1) lines)
    ≡ option_or (option_map (refused number) (option_or f (said_reason checks known o))) (refusal checks (after_line known o) (number + 1) lines)
alike_step checks known number lines (Some reason) o declares rest = refl
alike_step checks known number lines None o declares rest =
    ap (λ r. option_or (option_map (refused number) r) (refusal (behind checks) (after_line known o) (number + 1) lines)) (reason_alike checks known o (declares refl))
    ∙ ap (option_or (option_map (refused number) (said_reason checks known o))) (rest refl)

pub front_alike : (checks : List (Check Item)) (known : Declarations) (number : ℕ) (lines : List (List ℕ)) → IsFront known → NonePass is_work_line lines
    → refusal (behind checks) known number lines ≡ refusal checks known number lines
unfolding refusal
front_alike checks known number [] front others = refl
front_alike checks known number (line ∷ lines) front others =
    let declares = front_declares known line front others.0 in
    alike_step checks known number lines (first_found line_checks known line) (said (words line)) declares
    (λ none. front_alike checks (after_line known (said (words line))) (number + 1) lines (line_front known (said (words line)) (declares none) front) others.1)

none_declares : (checks : List (Check Item)) (known : Declarations) (line : List ℕ) (number : ℕ) (left : List (List ℕ)) → IsFront known → is_work_line line ≡ false
    → option_or (option_map (refused number) (option_or (first_found line_checks known line) (said_reason checks known (said (words line))))) (refusal checks (after_line known (said (words line))) (number + 1) left) ≡ None
    → Declares (said (words line)) × (refusal checks (after_line known (said (words line))) (number + 1) left ≡ None)
none_declares checks known line number left front other none =
    let parts = or_none (option_map (refused number) (option_or (first_found line_checks known line) (said_reason checks known (said (words line)))))
    (refusal checks (after_line known (said (words line))) (number + 1) left) none in
    let here = or_none (first_found line_checks known line) (said_reason checks known (said (words line))) (map_none (refused number) _ parts.0) in
    (front_declares known line front other here.0, parts.1)

-- lines before all writes leave it so, where none of them is refused
pub front_stays : (checks : List (Check Item)) (known : Declarations) (number : ℕ) (lines : List (List ℕ)) → IsFront known → NonePass is_work_line lines → refusal checks known number lines ≡ None → IsFront (known_after known lines)
unfolding refusal
front_stays checks known number [] front others none = front
front_stays checks known number (line ∷ lines) front others none =
    let parts = none_declares checks known line number lines front others.0 none in
    front_stays checks (after_line known (said (words line))) (number + 1) lines (line_front known (said (words line)) parts.0 front) others.1 parts.1
