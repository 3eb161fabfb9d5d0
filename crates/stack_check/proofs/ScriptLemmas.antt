-- Scripts of pools: the first of a pool, and what is left behind it.
use Rattle.std.proofs.Common.{◌≡◌, ◌≢◌, ℕ, zero, suc, ◌<◌, ◌≤◌, inl, inr, Bool, true, false, cond, List, [], ◌∷◌, length, get_or, None, Some, ap, ◌∙◌, sym, arith}
use Rattle.std.specs.Prelude.{find, position}
use Rattle.std.specs.List.{remove, position_or_len}
use lib.Dec.{ltb}
use Rattle.std.proofs.lemmas.Bool.{cases_Bool, ltb-false, ne_eqb, eqb-true}
use Rattle.std.proofs.lemmas.Option.{none-some, slice_get_past}
use Rattle.std.proofs.lemmas.List.Folds.{find_at}
use Rattle.std.proofs.lemmas.List.Quantifiers.{position-Some}
use Rattle.stack_base.specs.PoolId.{pool_number}
use Rattle.stack_base.specs.declared.ids.PoolId.{PoolId}
use Rattle.decl_text.specs.Known.{Scripted}
use Rattle.decl_text.specs.Checks.{is_of_pool}

-- what stands at the first place that passes
pub find_first : {X : Type 0} (p : X → Bool) (xs : List X) (i : ℕ) (x : X) → i < length xs → p (get_or xs i x) ≡ true → ((k : ℕ) → k < i → p (get_or xs k x) ≡ false) → find p xs ≡ Some (get_or xs i x)
find_first p [] i x lt here before = absurd (omega arith)
find_first p (y ∷ ys) zero x lt here before = ap (λ b. cond b (Some y) (find p ys)) here
find_first p (y ∷ ys) (suc i) x lt here before =
    ap (λ b. cond b (Some y) (find p ys)) (before 0 (omega arith))
    ∙ find_first p ys i x (omega arith) here (λ k less. before (suc k) (omega arith))

no_place : (i n : ℕ) → cond (ltb i n) (Some i) None ≡ None → n ≤ i
no_place i n none = elim (cases_Bool (ltb i n)) [
  | inl is ↦ absurd (none-some i (sym none ∙ ap (λ b. cond b (Some i) None) is))
  | inr is ↦ ltb-false i n is
]

-- nothing passes
pub find_none : {X : Type 0} (p : X → Bool) (xs : List X) → position p xs ≡ None → find p xs ≡ None
find_none p xs none = find_at p xs ∙ slice_get_past xs (position_or_len p xs) (no_place (position_or_len p xs) (length xs) none)

-- what does not pass may be taken away
pub find_removed : {X : Type 0} (p : X → Bool) (xs : List X) (i : ℕ) (x : X) → i < length xs → p (get_or xs i x) ≡ false → find p (remove xs i) ≡ find p xs
find_removed p [] i x lt other = absurd (omega arith)
find_removed p (y ∷ ys) zero x lt other = sym (ap (λ b. cond b (Some y) (find p ys)) other)
find_removed p (y ∷ ys) (suc i) x lt other = ap (λ o. cond (p y) (Some y) o) (find_removed p ys i x (omega arith) other)

module _ (given : List Scripted) (pool : PoolId) (at : ℕ) (d : Scripted) (found : position (is_of_pool pool) given ≡ Some at) where
  -- the script at the place of a pool is its first
  pub script_there : find (is_of_pool pool) given ≡ Some (get_or given at d)
  script_there =
      let first = position-Some (is_of_pool pool) given at d found in
      find_first (is_of_pool pool) given at d first.0 first.1 first.2

  -- and those of the others stay without it
  pub others_stay : (other : PoolId) → pool_number other ≢ pool_number pool → find (is_of_pool other) (remove given at) ≡ find (is_of_pool other) given
  others_stay other apart =
      let first = position-Some (is_of_pool pool) given at d found in
      find_removed (is_of_pool other) given at d first.0
      (ne_eqb (pool_number (get_or given at d).pool) (pool_number other) (λ same. apart (sym same ∙ eqb-true (pool_number (get_or given at d).pool) (pool_number pool) first.1)))
