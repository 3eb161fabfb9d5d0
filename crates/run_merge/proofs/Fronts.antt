-- Whether a list has an element.
use Rattle.std.proofs.Common.{Bool, true, false, List, [], ◌∷◌}

abbrev pub has_some : {X : Type 0} → List X → Bool
has_some [] = false
has_some (x ∷ xs) = true

abbrev pub is_none : {X : Type 0} → List X → Bool
is_none [] = true
is_none (x ∷ xs) = false
