-- The first of what is left of a list.
use Rattle.std.proofs.Common.{◌≡◌, ◌+◌, ◌<◌, ◌++◌, ℕ, zero, suc, Bool, List, [], ◌∷◌, length, take, drop, sym, ap, ◌∙◌, append_assoc, arith}
use Rattle.std.specs.Prelude.{filter}
use Rattle.std.proofs.lemmas.List.Elements.{filter-append}

-- what was taken off the front is the next one of the list, and the rest stands behind it
pub next_of : {X : Type 0} (l ys rest : List X) (k : ℕ) (x : X) → k < length l → drop k l ++ ys ≡ x ∷ rest
    → (rest ≡ drop (k + 1) l ++ ys) × (take (k + 1) l ≡ take k l ++ x ∷ [])
next_of [] ys rest k x within is = absurd (omega (arith, within))
next_of (y ∷ l) ys rest zero x within is = (cc, cc)
next_of (y ∷ l) ys rest (suc k) x within is =
    let on = next_of l ys rest k x (omega arith) is in
    let e : suc k + 1 ≡ suc (k + 1) = omega arith in
    (rw e on.0, rw e (ap (λ s. y ∷ s) on.1))

-- one more was sorted
pub sorted_more : {X : Type 0} (p : X → Bool) (l front : List X) (k : ℕ) (x : X) → take (k + 1) l ≡ take k l ++ x ∷ []
    → (front ++ filter p (take k l)) ++ filter p (x ∷ []) ≡ front ++ filter p (take (k + 1) l)
sorted_more p l front k x more =
    append_assoc front (filter p (take k l)) (filter p (x ∷ [])) ∙ ap (λ s. front ++ s) (sym (filter-append p (take k l) (x ∷ [])) ∙ ap (filter p) (sym more))
