-- A loop that makes a list of what it takes, one by one.
use Rattle.std.proofs.Common.{◌≡◌, ◌++◌, List, [], ◌∷◌, All, map, ap, sym, ◌∙◌, subst}
use Rattle.std.proofs.lemmas.List.{map-append}
use Rattle.std.proofs.lemmas.List.Elements.{All-head, All-tail}

-- what is so of all that is left is so of the next, and of the others
module _ {X : Type 0} (Q : X → Type 0) {left : List X} (x : X) (more : List X) (is : left ≡ x ∷ more) (all : All Q left) where
  pub next_of : Q x
  next_of = All-head Q x more (subst (All Q) is all)

  pub others_of : All Q more
  others_of = All-tail Q x more (subst (All Q) is all)

-- one more is made
pub one_made : {X Y : Type 0} (f : X → Y) (done : List X) (x : X) (made now : List Y) (y : Y) → made ≡ map f done → now ≡ made ++ y ∷ [] → y ≡ f x
    → now ≡ map f (done ++ x ∷ [])
one_made f done x made now y all more is =
    more ∙ ap (λ l. l ++ y ∷ []) all ∙ ap (λ z. map f done ++ z ∷ []) is ∙ sym (map-append f done (x ∷ []))
