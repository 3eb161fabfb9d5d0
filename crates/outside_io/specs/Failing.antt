-- What a call of a source or a sink does that fails at calls of given numbers, the first call having number 1.
use Rattle.std.specs.Prelude.{◌≡◌, ◌⊎◌, ℕ, ◌-◌, ◌<◌, ◌≤◌, min, List, [], ◌++◌, length, take, drop, Contains, Result, Ok, Err}
use Rattle.outside_io.specs.Causes.{risen}

-- a failing source: the bytes left, the numbers of the calls that fail, the most bytes that one call moves,
-- how many calls there were, and how often it has failed
pub record FailSourceState : Type 0 where
  pub left : List ℕ
  pub fails : List ℕ
  pub most : ℕ
  pub calls : ℕ
  pub faults : ℕ

-- a failing sink: the bytes held, how many it has room for in all, and the rest as for a source
pub record FailSinkState : Type 0 where
  pub held : List ℕ
  pub room : ℕ
  pub fails : List ℕ
  pub most : ℕ
  pub calls : ℕ
  pub faults : ℕ

-- one that has all these bytes left and was not called, and a sink that holds nothing and was not called
abbrev pub new_source : (bytes fails : List ℕ) (most : ℕ) → FailSourceState
new_source bytes fails most = record { left = bytes; fails = fails; most = most; calls = 0; faults = 0 }

abbrev pub new_sink : (room : ℕ) (fails : List ℕ) (most : ℕ) → FailSinkState
new_sink room fails most = record { held = []; room = room; fails = fails; most = most; calls = 0; faults = 0 }

-- after so many calls, the next one has a number that is to fail
abbrev pub IsToFail : List ℕ → ℕ → Type 0
IsToFail fails calls = Contains fails (risen calls)

-- A take fails exactly where its number is to fail. Else it moves as many bytes as there are, as fit into
-- `into`, and as one call moves, and leaves the rest of `into`. The call is counted either way.
abbrev pub TakesOrFails : {E : Type 0} → (old new : FailSourceState) (into filled : List ℕ) → Result ℕ E → Type 0
TakesOrFails old new into filled (Ok n) =
    (¬ IsToFail old.fails old.calls) × (n ≡ min (min (length into) old.most) (length old.left))
    × (filled ≡ take n old.left ++ drop n into) × (new ≡ record old { left = drop n old.left; calls = risen old.calls })
TakesOrFails old new into filled (Err _) =
    IsToFail old.fails old.calls × (filled ≡ into)
    × (new ≡ record old { calls = risen old.calls; faults = risen old.faults })

-- A put fails exactly where its number is to fail or no byte fits. Else it appends as many bytes as there are,
-- as one call moves, and as still fit. The call is counted either way.
abbrev pub PutsOrFails : {E : Type 0} → (old new : FailSinkState) (piece : List ℕ) → Result ℕ E → Type 0
PutsOrFails old new piece (Ok n) =
    (¬ IsToFail old.fails old.calls) × (length old.held < old.room) × (n ≡ min (min (length piece) old.most) (old.room - length old.held))
    × (new ≡ record old { held = old.held ++ take n piece; calls = risen old.calls })
PutsOrFails old new piece (Err _) =
    (IsToFail old.fails old.calls ⊎ (old.room ≤ length old.held))
    × (new ≡ record old { calls = risen old.calls; faults = risen old.faults })
