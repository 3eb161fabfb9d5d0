-- How objects of one kind are opened: one behind the other, each with its place in a table.
use Rattle.std.specs.Prelude.{◌≡◌, ◌≢◌, ◌⊎◌, ◌<◌, ◌≤◌, ◌++◌, ℕ, Bool, true, false, List, [], ◌∷◌, length, map, filter, find, slice_set, Some, None}
use Rattle.std.specs.List.{range_with_len}
use Rattle.task_core.specs.Tables.{is_entry_of, IsEntryAt}

-- Of the first indices up to a bound, each that is used has its entry, which is as it should be and stands where the table says; no other number
-- has one, and entries stand in the order of indices.
pub record AreMade {E : Type 0} (key : E → ℕ) (number : ℕ → ℕ) (is_used : ℕ → Bool) (IsMade : ℕ → E → Type 0) (bound : ℕ) (entries : List E)
    (table : List ℕ) : Type 0 where
  pub few : length entries ≤ bound
  pub made : (index : ℕ) → index < bound → is_used index ≡ true
      → (entry : E) × (find (is_entry_of key (number index)) entries ≡ Some entry) × IsMade index entry
  pub entered : (index : ℕ) → index < bound → is_used index ≡ true → IsEntryAt key table entries (number index)
  pub no_other : (other : ℕ) → ((index : ℕ) → index < bound → is_used index ≡ true → number index ≢ other)
      → find (is_entry_of key other) entries ≡ None
  pub order : map key entries ≡ map number (filter is_used (range_with_len 0 bound))

-- an entry was put behind the others, and its place into the table
abbrev pub IsEntered : {E : Type 0} → List E → List ℕ → ℕ → E → List E → List ℕ → Type 0
IsEntered entries table number entry more after = (more ≡ entries ++ entry ∷ []) × (after ≡ slice_set table number (length entries))

-- the next index has its entry, where it is used
abbrev pub IsNext : {E : Type 0} → (E → ℕ) → (ℕ → ℕ) → (ℕ → Bool) → (ℕ → E → Type 0) → ℕ → List E → List ℕ → List E → List ℕ → Type 0
IsNext {E} key number is_used IsMade index entries table more after =
    ((is_used index ≡ true)
    × (entry : E) × IsMade index entry × (key entry ≡ number index) × (more ≡ entries ++ entry ∷ []) × (after ≡ slice_set table (number index) (length entries)))
    ⊎ ((is_used index ≡ false) × (more ≡ entries) × (after ≡ table))
