-- Tasks that are parted one by one.
use Rattle.std.proofs.Common.{◌≡◌, inl, inr, ◌+◌, List, [], ◌∷◌, ◌++◌, length, All, IsPermutation, arith, ap, sym, subst, ◌∙◌}
use Rattle.std.proofs.lemmas.List.Sorted.{IsPermutation-trans, IsPermutation-append_right, IsPermutation-sym, All-permutation}
use Rattle.std.proofs.lemmas.List.{append_assoc, append-nil}
use Rattle.std.proofs.lemmas.List.Elements.{All-push}
use Rattle.bio_workers.proofs.Dealing.{moved, one_less}
use Rattle.bio_workers.specs.Parting.{IsParting, PutBy}

module _ {T : Type 0} (P : T → Type 0) where
  -- the others are put back to those left
  pub all_back : (all own others left back : List T) → IsParting P all own others left → IsPermutation (others ++ left) back → IsPermutation all (own ++ back)
  all_back all own others left back so_far same =
      IsPermutation-trans all (own ++ (others ++ left)) (own ++ back) so_far.whole (IsPermutation-append_right own (others ++ left) back same)

  -- where nothing is left, only they are there
  pub others_back : (all own others left back : List T) → IsParting P all own others left → length left ≡ 0 → IsPermutation (others ++ left) back
      → All (λ t. P t → ⊥) back
  others_back all own others [] back so_far none same =
      All-permutation (λ t. P t → ⊥) (others ++ []) back same (subst (All (λ t. P t → ⊥)) (sym (append-nil others)) so_far.others_are)
  others_back all own others (x ∷ left) back so_far none same = absurd (omega arith)

  -- the last of those left was put to its own
  own_next : (all own others left left' own' : List T) (x : T) → left ≡ left' ++ x ∷ [] → own' ≡ own ++ x ∷ [] → IsPermutation (own ++ (others ++ left)) (own' ++ (others ++ left'))
  own_next all own others left left' own' x e f =
      let split : others ++ left ≡ (others ++ left') ++ x ∷ [] = ap (λ l. others ++ l) e ∙ sym (append_assoc others left' (x ∷ [])) in
      IsPermutation-sym (own' ++ (others ++ left')) (own ++ (others ++ left)) (moved own' own (others ++ left') (others ++ left) x f split)

  -- or to the others
  others_next : (own others left left' others' : List T) (x : T) → left ≡ left' ++ x ∷ [] → others' ≡ others ++ x ∷ [] → IsPermutation (own ++ (others ++ left)) (own ++ (others' ++ left'))
  others_next own others left left' others' x e f =
      IsPermutation-append_right own (others ++ left) (others' ++ left') (IsPermutation-sym (others' ++ left') (others ++ left) (moved others' others left' left x f e))

  pub parts : (all own others left left' own' others' : List T) (x : T) → left ≡ left' ++ x ∷ [] → IsParting P all own others left → PutBy P x own others own' others'
      → IsParting P all own' others' left'
  parts all own others left left' own' others' x e so_far (inl put) =
      record {
        whole = subst (λ l. IsPermutation all (own' ++ (l ++ left'))) (sym put.2) (IsPermutation-trans all (own ++ (others ++ left)) (own' ++ (others ++ left')) so_far.whole (own_next all own others left left' own' x e put.1));
        own_are = subst (All P) (sym put.1) (All-push P own x so_far.own_are put.0);
        others_are = subst (All (λ t. P t → ⊥)) (sym put.2) so_far.others_are;
      }
  parts all own others left left' own' others' x e so_far (inr put) =
      record {
        whole = subst (λ l. IsPermutation all (l ++ (others' ++ left'))) (sym put.1) (IsPermutation-trans all (own ++ (others ++ left)) (own ++ (others' ++ left')) so_far.whole (others_next own others left left' others' x e put.2));
        own_are = subst (All P) (sym put.1) so_far.own_are;
        others_are = subst (All (λ t. P t → ⊥)) (sym put.2) (All-push (λ t. P t → ⊥) others x so_far.others_are put.0);
      }

  -- they are as many as before
  pub as_many : (own others own' others' : List T) (x : T) → PutBy P x own others own' others' → length own' + length others' ≡ length own + length others + 1
  as_many own others own' others' x (inl put) = let more = one_less own' own x put.1 in let same = ap length put.2 in omega arith
  as_many own others own' others' x (inr put) = let same = ap length put.1 in let more = one_less others' others x put.2 in omega arith
