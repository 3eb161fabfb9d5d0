-- Lists of entries by tickets, as one list.
use Rattle.std.specs.Prelude.{◌≡◌, ℕ, List, map, IsPermutation}
use Rattle.std.specs.List.{flat_map}
use Rattle.std.specs.List.Sorted.{IsNonDecreasingBy}
use Rattle.std.specs.Global.{Vec}

-- the elements of all these vectors
abbrev pub all_in : {X : Type 0} → List (Vec X) → List X
all_in {X} vectors = flat_map (λ (v : Vec X). v.items) vectors

-- these are all those elements, in the order of their tickets, and without the tickets
pub record IsJoinedByTicket {X : Type 0} (all : List (ℕ × X)) (joined : List X) : Type 0 where
  pub ordered : List (ℕ × X)
  pub same : IsPermutation all ordered
  pub rises : IsNonDecreasingBy (λ e. e.0) ordered
  pub values : joined ≡ map (λ e. e.1) ordered
