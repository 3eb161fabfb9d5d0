-- What is made by numbers.
use Rattle.std.proofs.Common.{◌≡◌, ◌+◌, ◌++◌, ℕ, List, [], ◌∷◌, map, sym, ap, ◌∙◌, arith}
use Rattle.std.specs.List.{range_with_len}
use Rattle.std.proofs.lemmas.List.FromFn.{map-range_with_len_more}

-- one more that is made by its number
pub mapped_more : {X : Type 0} (f : ℕ → X) (xs ys : List X) (n : ℕ) (x : X) → ys ≡ xs ++ x ∷ [] → xs ≡ map f (range_with_len 0 n) → x ≡ f n
    → ys ≡ map f (range_with_len 0 (n + 1))
mapped_more f xs ys n x is so_far one =
    is ∙ ap (λ s. s ++ x ∷ []) so_far ∙ ap (λ y. map f (range_with_len 0 n) ++ y ∷ []) one ∙ sym (map-range_with_len_more f 0 n n (omega arith))
