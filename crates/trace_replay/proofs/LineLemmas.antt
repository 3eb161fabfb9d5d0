-- Lines that tell events, and the others.
use Rattle.std.proofs.Common.{◌≡◌, ◌+◌, ℕ, true, false, List, [], ◌∷◌, Some, refl, ap}
use Rattle.std.specs.Prelude.{codes, slice_get}
use Rattle.std.proofs.lemmas.Option.{same_Some}
use Rattle.std.specs.Str.{bytes_eq}
use Rattle.trace_replay.specs.Lines.{begins_event, is_told, told_lines}

-- what the first of some words says
pub begins_with : (words : List (List ℕ)) (word : List ℕ) → slice_get words 0 ≡ Some word → begins_event words ≡ bytes_eq word (codes "event")
begins_with [] word is = absurd cc
begins_with (first ∷ more) word is = ap (λ (w : List ℕ). bytes_eq w (codes "event")) (same_Some first word is)

-- a line that tells an event, and one that is passed over
pub told_here : (number : ℕ) (line : List ℕ) (more : List (List ℕ)) → is_told line ≡ true → told_lines number (line ∷ more) ≡ (number, line) ∷ told_lines (number + 1) more
unfolding told_lines
told_here number line more is = rw is refl

pub passed_over : (number : ℕ) (line : List ℕ) (more : List (List ℕ)) → is_told line ≡ false → told_lines number (line ∷ more) ≡ told_lines (number + 1) more
unfolding told_lines
passed_over number line more is = rw is refl
