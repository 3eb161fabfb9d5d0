-- At how many places of a book no node is open.
use Rattle.std.proofs.Common.{◌≡◌, ◌+◌, ◌<◌, ℕ, zero, suc, Bool, true, false, nat_lt, List, [], ◌∷◌, set, cond, Option, None, Some, refl, ap, arith}
use Rattle.std.specs.Prelude.{count_by, is_none, slice_get}
use Rattle.std.proofs.lemmas.Bool.Decides.{nat_tests}
use Rattle.std.proofs.lemmas.List.Sums.{sum_by-cons, sum_by-set}
use Rattle.std.proofs.lemmas.Option.{get_or_from_slice_get, slice_get_within}
use Rattle.bio_books.specs.Books.{Node}
use Rattle.plain_core.specs.objects.Questions.{IsDecisionOf}

-- 1 where none is open
abbrev one : Option Node → ℕ
one node = cond (is_none node) 1 0

-- one is put at a vacant place
pub filled : (nodes : List (Option Node)) (place : ℕ) (node : Node) → slice_get nodes place ≡ Some None
    → count_by is_none (set nodes place (Some node)) + 1 ≡ count_by is_none nodes
filled nodes place node vacant =
    omega (
      arith,
      sum_by-set one nodes place (Some node) None (slice_get_within nodes place None vacant),
      ap one (get_or_from_slice_get nodes place None None vacant),
    )

-- where some are vacant, one is found
found : (nodes : List (Option Node)) → 0 < count_by is_none nodes → (place : ℕ) × (slice_get nodes place ≡ Some None)
found [] some = absurd (omega (arith, some))
found (None ∷ nodes) some = (0, refl)
found (Some node ∷ nodes) some =
    let rest = found nodes (omega (arith, some, sum_by-cons one (Some node) nodes)) in
    (suc rest.0, rest.1)

-- a vacant place is counted
pub counted : (nodes : List (Option Node)) (place : ℕ) → slice_get nodes place ≡ Some None → 0 < count_by is_none nodes
counted [] place is = absurd cc
counted (None ∷ nodes) zero is = omega (arith, sum_by-cons one None nodes)
counted (Some node ∷ nodes) zero is = absurd cc
counted (x ∷ nodes) (suc place) is = omega (arith, counted nodes place is, sum_by-cons one x nodes)

-- so the number tells whether there is one
pub some_vacant : (nodes : List (Option Node)) (vacant : ℕ) → count_by is_none nodes ≡ vacant → IsDecisionOf (nat_lt 0 vacant) ((place : ℕ) × (slice_get nodes place ≡ Some None))
some_vacant nodes vacant is = by (nat_lt 0 vacant) refl
  where
    by : (answer : Bool) → nat_lt 0 vacant ≡ answer → IsDecisionOf answer ((place : ℕ) × (slice_get nodes place ≡ Some None))
    by true e = found nodes (grind (arith, nat_tests, e, is))
    by false e = λ there. let some = counted nodes there.0 there.1 in grind (arith, nat_tests, e, is, some)
