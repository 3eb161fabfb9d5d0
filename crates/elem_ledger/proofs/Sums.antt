-- A sum over a list of which one place changes.
use Rattle.std.proofs.Common.{◌≡◌, ◌<◌, ℕ, ◌+◌, List, length, set, arith, ap}
use Rattle.std.specs.Prelude.{sum_by}
use Rattle.std.proofs.lemmas.List.{length-drop}
use Rattle.std.proofs.lemmas.List.Sums.{sum_by-set}
use Rattle.atomic_table.proofs.Lists.{drop_at, set_again}
use mathlib.Core.Option.{some}
use lib.ListN.{get_elem?}

-- one place changes
pub sum_by-put : {A : Type 0} (f : A → ℕ) (xs : List A) (i : ℕ) (a b : A) → get_elem? xs i ≡ some a → sum_by f (set xs i b) + f a ≡ sum_by f xs + f b
sum_by-put f xs i a b e =
    let there : i < length xs = omega (arith, ap length (drop_at xs i a e), length-drop i xs) in
    omega (arith, sum_by-set f xs i b a there, sum_by-set f xs i a a there, ap (sum_by f) (set_again xs i a e))
