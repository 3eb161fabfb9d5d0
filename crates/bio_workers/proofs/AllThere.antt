-- Lists of options that are all there.
use Rattle.std.proofs.Common.{◌≡◌, ℕ, ◌<◌, List, [], ◌∷◌, ◌++◌, length, map, slice_index_or, slice_set, All, Option, Some, None, IfSome, true, false, is_some, option_to_list, arith, refl, ap}
use Prim.Native.Nat.{zero, suc}
use Rattle.std.proofs.lemmas.List.Elements.{All-head, All-tail}
use Rattle.bio_workers.specs.Somes.{somes, HoldsOne}

abbrev pub flat : {X : Type 0} → Option (Option X) → Option X
flat None = None
flat (Some x) = x

abbrev pub kept : {X : Type 0} → X → Option X → X
kept d None = d
kept d (Some x) = x

module _ {X : Type 0} where
  pub somes_append : (xs ys : List (Option X)) → somes (xs ++ ys) ≡ somes xs ++ somes ys
  somes_append [] ys = refl
  somes_append (Some x ∷ xs) ys = ap (λ l. x ∷ l) (somes_append xs ys)
  somes_append (None ∷ xs) ys = somes_append xs ys

  pub as_long : (xs : List (Option X)) → All HoldsOne xs → length (somes xs) ≡ length xs
  as_long [] a = refl
  as_long (Some x ∷ xs) a = ap suc (as_long xs (All-tail HoldsOne (Some x) xs a))
  as_long (None ∷ xs) a = absurd (All-head HoldsOne None xs a)

  pub popped : (xs : List (Option X)) (r : Option (Option X)) → IfSome r HoldsOne → somes (xs ++ option_to_list r) ≡ somes xs ++ option_to_list (flat r)
  popped xs None s = somes_append xs []
  popped xs (Some (Some x)) s = somes_append xs (Some x ∷ [])
  popped xs (Some None) s = absurd s

  pub some_set : (xs : List (Option X)) (at : ℕ) (x : X) → All HoldsOne xs → somes (slice_set xs at (Some x)) ≡ slice_set (somes xs) at x
  some_set [] at x a = refl
  some_set (Some y ∷ xs) zero x a = refl
  some_set (Some y ∷ xs) (suc at) x a = ap (λ l. y ∷ l) (some_set xs at x (All-tail HoldsOne (Some y) xs a))
  some_set (None ∷ xs) at x a = absurd (All-head HoldsOne None xs a)

  -- what stands at a place
  pub some_at : (xs : List (Option X)) (at : ℕ) (x d : X) (o : Option X) → All HoldsOne xs → at < length xs → slice_index_or xs at o ≡ Some x → slice_index_or (somes xs) at d ≡ x
  some_at [] at x d o a below e = absurd (omega arith)
  some_at (Some y ∷ xs) zero x d o a below e = ap (kept y) e
  some_at (Some y ∷ xs) (suc at) x d o a below e = some_at xs at x d o (All-tail HoldsOne (Some y) xs a) (omega arith) e
  some_at (None ∷ xs) at x d o a below e = absurd (All-head HoldsOne None xs a)

  -- a list that ends with something is not empty
  pub none_if_empty : (xs : List X) (r : Option X) → xs ++ option_to_list r ≡ [] → is_some r ≡ false
  none_if_empty xs None e = refl
  none_if_empty [] (Some x) e = absurd (cc)
  none_if_empty (y ∷ xs) (Some x) e = absurd (cc)

  -- where nothing is popped, nothing was there
  pub nothing_popped : (xs : List (Option X)) (r : Option (Option X)) → (0 < length xs → is_some r ≡ true) → IfSome r HoldsOne → is_some (flat r) ≡ false → xs ≡ []
  nothing_popped [] r some there none = refl
  nothing_popped (x ∷ xs) None some there none = let full = some (omega arith) in absurd (cc)
  nothing_popped (x ∷ xs) (Some None) some there none = absurd there
  nothing_popped (x ∷ xs) (Some (Some y)) some there none = absurd (cc)

  -- what is made of it stands at its place
  pub mapped_at : {Y : Type 0} (f : X → Y) (xs : List X) (at : ℕ) (x : X) → slice_index_or xs at x ≡ x → slice_index_or (map f xs) at (f x) ≡ f x
  mapped_at f [] at x e = refl
  mapped_at f (y ∷ xs) zero x e = ap f e
  mapped_at f (y ∷ xs) (suc at) x e = mapped_at f xs at x e
