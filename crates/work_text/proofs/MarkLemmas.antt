-- Marks of sectors, and what it is to read and to set a run of them.
use Rattle.std.proofs.Common.{◌≡◌, ℕ, zero, suc, ◌+◌, ◌==◌, ◌≤◌, ◌&&◌, ◌||◌, Bool, nat_le, nat_lt, List, length, take, drop, get_or, refl, ap, arith}
use Rattle.std.specs.List.{list_any, range_with_len}
use Rattle.std.proofs.lemmas.List.{drop_more}

-- some place of a run has this mark
pub any_from : (mark : ℕ) (xs : List ℕ) (start count : ℕ) → start + count ≤ length xs
    → list_any (λ one. one == mark) (take count (drop start xs)) ≡ list_any (λ at. get_or xs at 0 == mark) (range_with_len start count)
any_from mark xs start zero le = refl
any_from mark xs start (suc count) le =
    rw (drop_more xs start 0 (omega arith)) (ap (λ b. (get_or xs start 0 == mark) || b) (any_from mark xs (start + 1) count (omega arith)))

-- whether sector k is one of those from start on and before end
abbrev pub inside : ℕ → ℕ → ℕ → Bool
inside start end k = nat_le start k && nat_lt k end
