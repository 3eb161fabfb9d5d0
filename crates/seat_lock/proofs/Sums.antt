-- Sums over a list of views, of which one changes.
use Rattle.std.proofs.Common.{◌≡◌, ◌≢◌, ℕ, zero, suc, ◌+◌, ◌<◌, ◌≤◌, ⊎_elim, List, length, [], ◌∷◌, ◌++◌, arith, refl, sym, ap, subst}
use Rattle.std.specs.Prelude.{sum_by, slice_set}
use Rattle.std.proofs.lemmas.List.{length-drop}
use Rattle.std.proofs.lemmas.List.Sums.{sum_by-cons, sum_by-set}
use mathlib.Core.Option.{some, some-injective, some-ne-none}
use lib.ListN.{get_elem?}
use Rattle.atomic_table.proofs.Lists.{at_set, at_snoc, drop_at, set_again}

module _ {V : Type 0} where
  -- one view changes
  pub sum_by-put : (f : V → ℕ) (xs : List V) (i : ℕ) (v w : V) → get_elem? xs i ≡ some v → sum_by f (slice_set xs i w) + f v ≡ sum_by f xs + f w
  sum_by-put f xs i v w e =
      let there : i < length xs = omega (arith, ap length (drop_at xs i v e), length-drop i xs) in
      omega (arith, sum_by-set f xs i w v there, sum_by-set f xs i v v there, ap (sum_by f) (set_again xs i v e))

  -- a view is part of the sum
  pub sum_by-at : (f : V → ℕ) (xs : List V) (i : ℕ) (v : V) → get_elem? xs i ≡ some v → f v ≤ sum_by f xs
  sum_by-at f [] i v e = absurd (some-ne-none v (sym e))
  sum_by-at f (x ∷ xs) zero v e =
      let same : f x ≡ f v = ap f (some-injective x v e) in
      rw (sum_by-cons f x xs) (omega arith)
  sum_by-at f (x ∷ xs) (suc i) v e = rw (sum_by-cons f x xs) (omega (arith, sum_by-at f xs i v e))

  -- two views are both part of the sum
  pub sum_by-two : (f : V → ℕ) (xs : List V) (i j : ℕ) (v w : V) → i ≢ j → get_elem? xs i ≡ some v → get_elem? xs j ≡ some w → f v + f w ≤ sum_by f xs
  sum_by-two f [] i j v w n e k = absurd (some-ne-none v (sym e))
  sum_by-two f (x ∷ xs) zero zero v w n e k = absurd (n refl)
  sum_by-two f (x ∷ xs) zero (suc j) v w n e k =
      let same : f x ≡ f v = ap f (some-injective x v e) in
      rw (sum_by-cons f x xs) (omega (arith, sum_by-at f xs j w k))
  sum_by-two f (x ∷ xs) (suc i) zero v w n e k =
      let same : f x ≡ f w = ap f (some-injective x w k) in
      rw (sum_by-cons f x xs) (omega (arith, sum_by-at f xs i v e))
  sum_by-two f (x ∷ xs) (suc i) (suc j) v w n e k = rw (sum_by-cons f x xs) (omega (arith, sum_by-two f xs i j v w (λ h. n (ap suc h)) e k))

  -- what is at most something else at each view is so in sum
  pub sum_by-most : (f g : V → ℕ) (xs : List V) → ((i : ℕ) (v : V) → get_elem? xs i ≡ some v → f v ≤ g v) → sum_by f xs ≤ sum_by g xs
  sum_by-most f g [] h = omega arith
  sum_by-most f g (x ∷ xs) h = rw (sum_by-cons f x xs, sum_by-cons g x xs) (omega (arith, h 0 x refl, sum_by-most f g xs (λ i v e. h (suc i) v e)))

  pub sum_of : (f g : V → ℕ) (xs : List V) → sum_by (λ v. f v + g v) xs ≡ sum_by f xs + sum_by g xs
  sum_of f g [] = refl
  sum_of f g (x ∷ xs) = rw (sum_by-cons (λ v. f v + g v) x xs, sum_by-cons f x xs, sum_by-cons g x xs) (omega (arith, sum_of f g xs))

  pub sum_none : (f : V → ℕ) (xs : List V) → ((i : ℕ) (v : V) → get_elem? xs i ≡ some v → f v ≡ 0) → sum_by f xs ≡ 0
  sum_none f [] h = refl
  sum_none f (x ∷ xs) h = rw (sum_by-cons f x xs) (omega (arith, h 0 x refl, sum_none f xs (λ i v e. h (suc i) v e)))

  pub set_at : (xs : List V) (id : ℕ) (v w : V) → get_elem? xs id ≡ some v → get_elem? (slice_set xs id w) id ≡ some w
  set_at [] id v w e = absurd (some-ne-none v (sym e))
  set_at (x ∷ xs) zero v w e = refl
  set_at (x ∷ xs) (suc id) v w e = set_at xs id v w e

  -- a fact of every view after one changed, and after one came
  pub put_all : (P : V → Type 0) (xs : List V) (id : ℕ) (w : V) → P w → ((i : ℕ) (v : V) → i ≢ id → get_elem? xs i ≡ some v → P v) → (i : ℕ) (v : V) → get_elem? (slice_set xs id w) i ≡ some v → P v
  put_all P xs id w h f i v e = ⊎_elim (λ t. subst P t.1 h) (λ t. f i v t.0 t.1) (at_set xs id i w v e)

  pub tail_all : (P : V → Type 0) (xs : List V) (w : V) → P w → ((i : ℕ) (v : V) → get_elem? xs i ≡ some v → P v) → (i : ℕ) (v : V) → get_elem? (xs ++ w ∷ []) i ≡ some v → P v
  tail_all P xs w h f i v e = ⊎_elim (λ t. f i v t) (λ t. subst P t h) (at_snoc xs w v i e)
