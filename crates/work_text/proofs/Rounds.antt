-- The writes of a round.
use Rattle.std.proofs.Common.{◌≡◌, ℕ, ◌==◌, ◌<◌, Bool, true, false, cond, List, [], ◌∷◌, ◌++◌, length, map, zip, refl, ap, arith}
use Rattle.std.specs.Prelude.{All, filter}
use Rattle.std.proofs.lemmas.Bool.{eq-eqb, ne_eqb}
use Rattle.std.proofs.lemmas.List.Elements.{All-head, All-tail}

module _ {X : Type 0} where
  -- those of the elements whose number is this one
  abbrev pub of_round : ℕ → List X → List ℕ → List X
  of_round n xs rounds = map (λ at. at.0) (filter (λ at. at.1 == n) (zip xs rounds))

  kept_first : (b : Bool) (x : X) (n : ℕ) (more : List (X × ℕ)) (ys : List X) → map (λ (at : X × ℕ). at.0) more ≡ ys
      → map (λ (at : X × ℕ). at.0) (cond b ((x, n) ∷ more) more) ≡ cond b (x ∷ ys) ys
  kept_first true x n more ys is = ap (λ zs. x ∷ zs) is
  kept_first false x n more ys is = is

  pub first_of_round : (n round : ℕ) (x : X) (xs : List X) (rounds : List ℕ) → of_round n (x ∷ xs) (round ∷ rounds) ≡ cond (round == n) (x ∷ of_round n xs rounds) (of_round n xs rounds)
  first_of_round n round x xs rounds = kept_first (round == n) x round (filter (λ at. at.1 == n) (zip xs rounds)) (of_round n xs rounds) refl

  pushed_by : (b : Bool) (x y : X) (xs : List X) → cond b (x ∷ (xs ++ y ∷ [])) (xs ++ y ∷ []) ≡ cond b (x ∷ xs) xs ++ y ∷ []
  pushed_by true x y xs = refl
  pushed_by false x y xs = refl

  last_of_round : (n : ℕ) (y : X) → of_round n (y ∷ []) (n ∷ []) ≡ y ∷ []
  last_of_round n y = rw (first_of_round n n y [] [], eq-eqb n n refl) refl

  -- one more of this round
  pub of_round_push : (n : ℕ) (xs : List X) (rounds : List ℕ) (y : X) → length rounds ≡ length xs → of_round n (xs ++ y ∷ []) (rounds ++ n ∷ []) ≡ of_round n xs rounds ++ y ∷ []
  of_round_push n [] [] y same = last_of_round n y
  of_round_push n [] (r ∷ rounds) y same = absurd (omega (arith, same))
  of_round_push n (x ∷ xs) [] y same = absurd (omega (arith, same))
  of_round_push n (x ∷ xs) (r ∷ rounds) y same =
      rw (first_of_round n r x (xs ++ y ∷ []) (rounds ++ n ∷ []), of_round_push n xs rounds y (omega (arith, same)), first_of_round n r x xs rounds)
      (pushed_by (r == n) x y (of_round n xs rounds))

  -- none is of a round behind all
  pub of_round_none : (n : ℕ) (xs : List X) (rounds : List ℕ) → All (λ round. round < n) rounds → of_round n xs rounds ≡ []
  of_round_none n [] rounds before = refl
  of_round_none n (x ∷ xs) [] before = refl
  of_round_none n (x ∷ xs) (r ∷ rounds) before =
      let first : r < n = All-head (λ round. round < n) r rounds before in
      rw (first_of_round n r x xs rounds, ne_eqb r n (λ same. omega (arith, same, first)))
      (of_round_none n xs rounds (All-tail (λ round. round < n) r rounds before))
