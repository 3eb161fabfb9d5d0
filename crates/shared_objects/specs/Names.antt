-- Names, each once.
use Rattle.std.specs.Prelude.{◌≡◌, not, Bool, false, List, [], ◌∷◌, filter}
use Rattle.std.specs.List.{list_any}

module _ {X : Type 0} (same : X → X → Bool) where
  -- no two of these are the same
  abbrev pub Apart : List X → Type 0
  Apart [] = Unit {0}
  Apart (x ∷ xs) = (list_any (same x) xs ≡ false) × Apart xs

  -- each once, in the order of first places
  abbrev pub once : List X → List X
  once [] = []
  once (x ∷ xs) = x ∷ filter (λ y. not (same x y)) (once xs)
