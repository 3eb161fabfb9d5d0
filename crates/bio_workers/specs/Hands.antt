-- Tasks of shared objects that are in hand.
use Rattle.std.specs.Prelude.{◌<◌, ◌⊎◌, ◌++◌, ℕ, List, IsPermutation, All, Contains, eqb, map, slice_index_or, Option}
use Rattle.std.specs.List.{IsDistinct}
use Rattle.shared_objects.specs.Rans.{RanKey, RanState}
use Rattle.shared_objects.specs.Shared.{IsBackStopped, IsOut}
use Rattle.shared_objects.specs.declared.shared.Shared.{Shared}

-- all of these keys were dealt: those of a hand, and the others are left
abbrev pub IsDealt : {K : Type 0} → List K → List K → List K → Type 0
IsDealt all hand left = IsPermutation all (hand ++ left)

abbrev pub numbers : List RanKey → List ℕ
numbers keys = map (λ (key : RanKey). key.number) keys

-- The tasks of these keys are those that are out: each of them is, no two are the same, and each other one that was handed out is back, and has
-- stopped.
pub record AreOut (shared : Shared) (keys : List RanKey) : Type 0 where
  pub out : All (IsOut shared) keys
  pub apart : IsDistinct eqb (numbers keys)
  pub others : (place : ℕ) (slot : Option RanState) → place < shared.next
      → IsBackStopped (slice_index_or shared.tasks.items place slot) ⊎ Contains (numbers keys) place
