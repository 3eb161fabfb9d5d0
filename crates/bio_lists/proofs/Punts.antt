-- What is in the lists after a punt, and in what was moved.
use Rattle.std.proofs.Common.{◌≡◌, List, [], ◌∷◌, ◌++◌, Bool, true, false, filter, not, cond, refl, ap, arith}
use Rattle.std.specs.Prelude.{count_by}
use Rattle.std.proofs.lemmas.List.Sums.{sum_by-append}
use Rattle.std.proofs.lemmas.List.Filters.{sum_by-filter_both}
use Rattle.bio_records.specs.Sorting.{is_of, is_of_other}
use Rattle.bio_lists.specs.Punt.{NoneIsLostByPunt, OnePuntIsEnough}

pub none_is_lost_by_punt : NoneIsLostByPunt
none_is_lost_by_punt set lists which =
    omega (
      arith,
      sum_by-append (λ x. cond (which x) 1 0) (filter (is_of set) lists.list0) (filter (is_of set) lists.list1),
      sum_by-filter_both (is_of set) (is_of_other set) (λ x. refl) (λ x. cond (which x) 1 0) lists.list0,
      sum_by-filter_both (is_of set) (is_of_other set) (λ x. refl) (λ x. cond (which x) 1 0) lists.list1,
    )

-- none passes of those that did not
none_left : {X : Type 0} (p : X → Bool) (xs : List X) → filter p (filter (λ x. not (p x)) xs) ≡ []
none_left p [] = refl
none_left p (x ∷ xs) = by_case p x xs (p x) refl (none_left p xs)
  where
    by_case : {X : Type 0} (p : X → Bool) (x : X) (xs : List X) (b : Bool) → p x ≡ b → filter p (filter (λ x. not (p x)) xs) ≡ []
        → filter p (filter (λ x. not (p x)) (x ∷ xs)) ≡ []
    by_case p x xs true e rest = rw e rest
    by_case p x xs false e rest = rw e (rw e rest)

pub one_punt_is_enough : OnePuntIsEnough
one_punt_is_enough set lists which =
    ap (count_by which) ((λ k. none_left (is_of set) lists.list0 k ++ none_left (is_of set) lists.list1 k))
