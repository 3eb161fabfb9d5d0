-- Maps from numbers.
use Rattle.std.specs.Prelude.{◌==◌, if◌then◌else◌, ℕ}

-- A map with one place changed. Nothing opens it but two lemmas, so that sums over all places change at one place.
unfoldable pub upd : {X : Type 0} → (ℕ → X) → ℕ → X → ℕ → X
upd f i x j = if j == i then x else f j
