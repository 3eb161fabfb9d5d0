-- What becomes of a choice.
use Rattle.std.specs.Prelude.{ℕ, Option}

-- a chooser was told that so many bios wait, and what it chose came to this one of them, or to none
abbrev pub IsAskedOf : {C : Type 0} → (C → ℕ → ℕ → C → Type 0) → (ℕ → ℕ → Option ℕ → Type 0) → ℕ → C → Option ℕ → C → Type 0
IsAskedOf chooses picks pending old picked new = (chosen : ℕ) × chooses old pending chosen new × picks pending chosen picked

-- so it was, of some number of bios
abbrev pub IsAsked : {C : Type 0} → (C → ℕ → ℕ → C → Type 0) → (ℕ → ℕ → Option ℕ → Type 0) → C → Option ℕ → C → Type 0
IsAsked chooses picks old picked new = (pending : ℕ) × IsAskedOf chooses picks pending old picked new
