-- Plans that are made of a list, one plan for each of its elements.
use Rattle.std.proofs.Common.{◌≡◌, ◌+◌, List, [], ◌∷◌, ◌++◌, length, sum_by, flat_map, refl, ap, ◌∙◌, arith}
use Rattle.std.proofs.lemmas.List.Sums.{sum_by-cons}
use Rattle.layout_model.specs.Plan.{Plan, plans_of, leaves, all_leaves, takes, all_takes, count_of}
use Rattle.layout_model.specs.declared.fragment.Fragment.{Fragment}

-- their fragments are the fragments of each, in order
pub leaves_of_each : {X : Type 0} (f : X → Plan) (g : X → List Fragment) (xs : List X) → ((x : X) → leaves (f x) ≡ g x)
    → all_leaves (plans_of f xs) ≡ flat_map g xs
unfolding plans_of all_leaves
leaves_of_each f g [] same = refl
leaves_of_each f g (x ∷ xs) same = ap (λ first. first ++ all_leaves (plans_of f xs)) (same x) ∙ ap (λ rest. g x ++ rest) (leaves_of_each f g xs same)

-- they take what each takes
pub takes_of_each : {X : Type 0} (f : X → Plan) (xs : List X) → all_takes (plans_of f xs) ≡ sum_by (λ x. takes (f x)) xs
unfolding plans_of all_takes
takes_of_each f [] = refl
takes_of_each f (x ∷ xs) = ap (λ rest. takes (f x) + rest) (takes_of_each f xs) ∙ omega (arith, sum_by-cons (λ y. takes (f y)) x xs)

-- there are as many as the list is long
pub count_of_each : {X : Type 0} (f : X → Plan) (xs : List X) → count_of (plans_of f xs) ≡ length xs
unfolding plans_of count_of
count_of_each f [] = refl
count_of_each f (x ∷ xs) = omega (arith, count_of_each f xs)
