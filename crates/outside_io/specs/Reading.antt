-- What is read of a source.
use Rattle.std.specs.Prelude.{◌≡◌, ℕ, ◌≤◌, List, Option, IfSome, length, take, Result, Ok, Err}
use Rattle.std.specs.Io.KnownBytes.{Consumes}
use Rattle.outside_io.specs.Causes.{Rose}
use Rattle.outside_io.specs.declared.read.ReadError.{ReadError}
use Rattle.outside_io.specs.declared.read.ReadError.TheVariants.{Memory, Source as SourceFailed}

-- the text is what was left, to its end or to the limit
abbrev pub IsRead : ℕ → Option (List ℕ) → List ℕ → Type 0
IsRead limit left text = IfSome left (λ all. text ≡ take limit all)

-- some bytes were taken, and no more than the limit
abbrev pub TakesWithin : ℕ → Option (List ℕ) → Option (List ℕ) → Type 0
TakesWithin limit old new = (bytes : List ℕ) × (length bytes ≤ limit) × Consumes old new bytes

-- the count of faults rose where the source failed, and stayed otherwise
abbrev pub ReadCause : {T : Type 0} → ℕ → ℕ → Result T ReadError → Type 0
ReadCause before now (Ok _) = now ≡ before
ReadCause before now (Err SourceFailed) = Rose before now
ReadCause before now (Err Memory) = now ≡ before
