-- Lists of things with numbers: what is of a number, and where it stands.
use Rattle.std.specs.Prelude.{◌≡◌, ◌<◌, ◌==◌, ℕ, Bool, IsTrue, List, length, find, slice_index_or}
use Rattle.std.specs.List.{position_or_len}
use Rattle.std.specs.Option.{option_map_or}

-- whether an entry is of a number
abbrev pub is_entry_of : {E : Type 0} → (E → ℕ) → ℕ → E → Bool
is_entry_of key number entry = key entry == number

-- what the first entry of a number has, or this where there is none
abbrev pub look_up : {E X : Type 0} → (E → ℕ) → (E → X) → (ℕ → X) → List E → ℕ → X
look_up key value none entries number = option_map_or value (find (is_entry_of key number) entries) (none number)

-- The first entry of a number stands where a table says.
pub record IsEntryAt {E : Type 0} (key : E → ℕ) (table : List ℕ) (entries : List E) (number : ℕ) : Type 0 where
  pub there : slice_index_or table number 0 < length entries
  pub first : slice_index_or table number 0 ≡ position_or_len (is_entry_of key number) entries

-- so it is with each number that is used
abbrev pub AreAt : {E : Type 0} → (E → ℕ) → (ℕ → Bool) → List ℕ → List E → Type 0
AreAt key is_used table entries = (number : ℕ) → IsTrue (is_used number) → IsEntryAt key table entries number
