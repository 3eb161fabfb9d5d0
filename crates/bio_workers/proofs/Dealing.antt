-- Hands that are dealt out of all tasks, and come back.
use Rattle.std.proofs.Common.{◌≡◌, ◌+◌, List, [], ◌∷◌, ◌++◌, length, All, IfNone, IfSome, IsPermutation, None, Option, Some, arith, ap, sym, subst, ◌∙◌}
use Rattle.std.proofs.lemmas.List.Sorted.{IsPermutation-trans, IsPermutation-append, IsPermutation-append_comm, IsPermutation-append_right, IsPermutation-refl, All-permutation, length_permutation}
use Rattle.std.proofs.lemmas.List.{length-append, append_assoc}
use Rattle.std.proofs.lemmas.List.Elements.{All-nil, All-cons, All-head, All-tail}

module _ {X : Type 0} where
  left_all : (P : X → Type 0) (xs ys : List X) → All P (xs ++ ys) → All P xs
  left_all P [] ys a = All-nil P
  left_all P (x ∷ xs) ys a = All-cons P x xs (All-head P x (xs ++ ys) a) (left_all P xs ys (All-tail P x (xs ++ ys) a))

  right_all : (P : X → Type 0) (xs ys : List X) → All P (xs ++ ys) → All P ys
  right_all P [] ys a = a
  right_all P (x ∷ xs) ys a = right_all P xs ys (All-tail P x (xs ++ ys) a)

  pub hand_can : (P : X → Type 0) (all hand rest : List X) → IsPermutation all (hand ++ rest) → All P all → All P hand
  hand_can P all hand rest p a = left_all P hand rest (All-permutation P all (hand ++ rest) p a)

  pub rest_can : (P : X → Type 0) (all hand rest : List X) → IsPermutation all (hand ++ rest) → All P all → All P rest
  rest_can P all hand rest p a = right_all P hand rest (All-permutation P all (hand ++ rest) p a)

  pub in_all : (all hand rest : List X) → IsPermutation all (hand ++ rest) → length all ≡ length hand + length rest
  in_all all hand rest p = sym (length_permutation all (hand ++ rest) p) ∙ length-append hand rest

  pub comes_back : (all hand rest back done out : List X) → IsPermutation all (hand ++ rest) → IsPermutation hand back → IsPermutation rest done
      → IsPermutation (back ++ done) out → IsPermutation all out
  comes_back all hand rest back done out p q r s =
      IsPermutation-trans all (hand ++ rest) out p (IsPermutation-trans (hand ++ rest) (back ++ done) out (IsPermutation-append hand back rest done q r) s)

  pub back_in_all : (all hand rest back : List X) → IsPermutation all (hand ++ rest) → IsPermutation hand back → length all ≡ length rest + length back
  back_in_all all hand rest back p q = let whole = in_all all hand rest p in let same = length_permutation hand back q in omega arith

  pub comes_in : (hand back rest out : List X) → IsPermutation hand back → IsPermutation (back ++ rest) out → IsPermutation (hand ++ rest) out
  comes_in hand back rest out q s = IsPermutation-trans (hand ++ rest) (back ++ rest) out (IsPermutation-append hand back rest rest q (IsPermutation-refl rest)) s

  -- what was started with, whether or not it was
  abbrev pub started_with : {C : Type 0} → (C → List X) → Option C → List X
  started_with of None = []
  started_with of (Some c) = of c

  pub dealt : {C : Type 0} (of : C → List X) (started : Option C) (all rest : List X) → IfSome started (λ c. IsPermutation all (of c ++ rest)) → IfNone started (IsPermutation all rest) → IsPermutation all (started_with of started ++ rest)
  dealt of None all rest some none = none
  dealt of (Some c) all rest some none = some

  moved_over : (xs ys : List X) (x : X) → IsPermutation ((xs ++ x ∷ []) ++ ys) (xs ++ (ys ++ x ∷ []))
  moved_over xs ys x = subst (λ l. IsPermutation l (xs ++ (ys ++ x ∷ []))) (sym (append_assoc xs (x ∷ []) ys)) (IsPermutation-append_right xs (x ∷ ys) (ys ++ x ∷ []) (IsPermutation-append_comm (x ∷ []) ys))

  -- the last of one list moved to the end of another
  pub moved : (xs xs' ys ys' : List X) (x : X) → xs ≡ xs' ++ x ∷ [] → ys' ≡ ys ++ x ∷ [] → IsPermutation (xs ++ ys) (xs' ++ ys')
  moved xs xs' ys ys' x e f =
      subst (λ o. IsPermutation (o ++ ys) (xs' ++ ys')) (sym e) (subst (λ t. IsPermutation ((xs' ++ x ∷ []) ++ ys) (xs' ++ t)) (sym f) (moved_over xs' ys x))

  pub one_less : (xs xs' : List X) (x : X) → xs ≡ xs' ++ x ∷ [] → length xs ≡ length xs' + 1
  one_less xs xs' x e = ap length e ∙ length-append xs' (x ∷ [])
