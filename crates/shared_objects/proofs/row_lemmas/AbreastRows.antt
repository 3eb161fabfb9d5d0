-- Rows of locks and seats, as they are shared: what stands at each place, from what opening, splitting and joining say of rows.
use Rattle.std.proofs.Common.{◌<◌, ℕ, zero, suc, List, [], ◌∷◌, arith, refl, length, map, get_or}
use Rattle.shared_objects.specs.Rows.{Abreast, AbreastThree}

-- rows abreast, from the front
module _ {X Y : Type 0} (P : X → Y → Type 0) where
  pub front : (x : X) (y : Y) (xs : List X) (ys : List Y) → Abreast P (x ∷ xs) (y ∷ ys) → P x y × Abreast P xs ys
  front x y xs ys are = (are.each 0 x y (omega arith), record { lens = let l = are.lens in omega (arith, l); each = λ place a b lt. are.each (suc place) a b (omega (arith, lt)) })

  pub none_left : (y : Y) (ys : List Y) → Abreast P [] (y ∷ ys) → ⊥
  none_left y ys are = let l = are.lens in absurd (omega (arith, l))

  pub none_right : (x : X) (xs : List X) → Abreast P (x ∷ xs) [] → ⊥
  none_right x xs are = let l = are.lens in absurd (omega (arith, l))

pub some_of : {X : Type 0} (xs : List X) (place : ℕ) → place < length xs → X
some_of [] place lt = absurd (omega (arith, lt))
some_of (x ∷ xs) place lt = x

module _ {X Y Z : Type 0} (P : X → Y → Z → Type 0) (xs : List X) (ys : List Y) (zs : List Z) (are : AbreastThree P xs ys zs) where
  -- what three rows have, by the first two of them, and by the last two
  pub first_two : (Q : X → Y → Type 0) → ((x : X) (y : Y) (z : Z) → P x y z → Q x y) → Abreast Q xs ys
  first_two Q give = record {
    lens = are.lens.0;
    each = λ place x y lt. let f = are.lens.1 in let z = some_of zs place (omega (arith, lt, f)) in
        give (get_or xs place x) (get_or ys place y) (get_or zs place z) (are.each place x y z lt);
  }

  pub last_two : (Q : Y → Z → Type 0) → ((x : X) (y : Y) (z : Z) → P x y z → Q y z) → Abreast Q ys zs
  last_two Q give = record {
    lens = let e = are.lens.0 in let f = are.lens.1 in omega (arith, e, f);
    each = λ place y z lt. let e = are.lens.0 in let x = some_of xs place (omega (arith, lt, e)) in
        give (get_or xs place x) (get_or ys place y) (get_or zs place z) (are.each place x y z (omega (arith, lt, e)));
  }

-- what rows have, they have in a weaker form
pub weaker_two : {X Y : Type 0} (P Q : X → Y → Type 0) → ((x : X) (y : Y) → P x y → Q x y) → (xs : List X) (ys : List Y) → Abreast P xs ys → Abreast Q xs ys
weaker_two P Q give xs ys are = record { lens = are.lens; each = λ place x y lt. give (get_or xs place x) (get_or ys place y) (are.each place x y lt) }

pub weaker_three : {X Y Z : Type 0} (P Q : X → Y → Z → Type 0) → ((x : X) (y : Y) (z : Z) → P x y z → Q x y z) → (xs : List X) (ys : List Y) (zs : List Z)
    → AbreastThree P xs ys zs → AbreastThree Q xs ys zs
weaker_three P Q give xs ys zs are = record {
  lens = are.lens;
  each = λ place x y z lt. give (get_or xs place x) (get_or ys place y) (get_or zs place z) (are.each place x y z lt);
}

module _ {W X Y : Type 0} (f : W → X) (P : X → Y → Type 0) where
  -- a row that was made of another one
  pub of_made : (ws : List W) (ys : List Y) → Abreast P (map f ws) ys → Abreast (λ w y. P (f w) y) ws ys
  of_made [] [] are = record { lens = refl; each = λ place w y lt. absurd (omega (arith, lt)) }
  of_made [] (y ∷ ys) are = absurd (none_left P y ys are)
  of_made (w ∷ ws) [] are = absurd (none_right P (f w) (map f ws) are)
  of_made (w ∷ ws) (y ∷ ys) are =
      let parts = front P (f w) y (map f ws) ys are in let rest = of_made ws ys parts.1 in record {
        lens = let l = rest.lens in omega (arith, l);
        each = λ place a b lt. at place a b parts.0 rest lt;
      }
    where
      at : (place : ℕ) (a : W) (b : Y) → P (f w) y → Abreast (λ w y. P (f w) y) ws ys → place < length (w ∷ ws) → P (f (get_or (w ∷ ws) place a)) (get_or (y ∷ ys) place b)
      at zero a b here rest lt = here
      at (suc place) a b here rest lt = rest.each place a b (omega (arith, lt))
