-- What a call of a source or a sink in memory does. A source in memory is seen as the bytes that it has left.
use Rattle.std.specs.Prelude.{◌≡◌, ℕ, ◌-◌, ◌<◌, ◌≤◌, min, List, ◌++◌, length, take, drop, Result, Ok, Err}
use Rattle.outside_io.specs.Causes.{risen}

-- a sink in memory: the bytes held, how many it has room for in all, and how often it has failed
pub record MemSinkState : Type 0 where
  pub held : List ℕ
  pub room : ℕ
  pub faults : ℕ

-- A take from memory moves as many bytes as there are and as fit, and leaves the rest of `into`. It never fails.
abbrev pub TakesFromMemory : {E : Type 0} → (old new into filled : List ℕ) → Result ℕ E → Type 0
TakesFromMemory old new into filled (Ok n) =
    (n ≡ min (length into) (length old)) × (filled ≡ take n old ++ drop n into) × (new ≡ drop n old)
TakesFromMemory old new into filled (Err _) = ⊥

-- A put into memory appends as many bytes as still fit, and fails exactly where none fits.
abbrev pub PutsIntoMemory : {E : Type 0} → (old new : MemSinkState) (piece : List ℕ) → Result ℕ E → Type 0
PutsIntoMemory old new piece (Ok n) =
    (length old.held < old.room) × (n ≡ min (length piece) (old.room - length old.held))
    × (new ≡ record old { held = old.held ++ take n piece })
PutsIntoMemory old new piece (Err _) = (old.room ≤ length old.held) × (new ≡ record old { faults = risen old.faults })
