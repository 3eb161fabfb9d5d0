-- What two chains become that are parted by a test, last one first, and joined again.
use Rattle.std.proofs.Common.{◌≡◌, ◌+◌, ◌-◌, ◌^◌, Bool, true, false, ℕ, min, List, [], ◌∷◌, ◌++◌, filter, length, map, not, reverse, refl, sym, ap, ◌∙◌, append_assoc, arith}
use Rattle.std.proofs.lemmas.List.{append-nil, map-append, reverse-append, reverse-reverse, length-append}
use Rattle.std.proofs.lemmas.List.Elements.{filter-append}
use Rattle.std.proofs.lemmas.List.Filters.{length-filter_both}

-- what passes of a list that is turned round
filter_turned : {X : Type 0} (p : X → Bool) (xs : List X) → filter p (reverse xs) ≡ reverse (filter p xs)
filter_turned p [] = refl
filter_turned p (x ∷ xs) =
    ap (filter p) (reverse-append (x ∷ []) xs) ∙ filter-append p (reverse xs) (x ∷ []) ∙ by_case p x xs (p x) refl (filter_turned p xs)
  where
    by_case : {X : Type 0} (p : X → Bool) (x : X) (xs : List X) (b : Bool) → p x ≡ b → filter p (reverse xs) ≡ reverse (filter p xs)
        → filter p (reverse xs) ++ filter p (x ∷ []) ≡ reverse (filter p (x ∷ xs))
    by_case p x xs true e rest = rw e (ap (λ l. l ++ x ∷ []) rest ∙ sym (reverse-append (x ∷ []) (filter p xs)))
    by_case p x xs false e rest = rw e (append-nil (filter p (reverse xs)) ∙ rest)

-- the front, whose last ones are moved first, and then the back, which has its last one first
pub parted : {X : Type 0} (p : X → Bool) (front back rest : List X)
    → reverse (filter p (reverse front ++ [])) ++ (reverse (filter p back) ++ rest) ≡ filter p (front ++ reverse back) ++ rest
parted p front back rest =
    let one : reverse (filter p (reverse front ++ [])) ≡ filter p front =
    ap (λ l. reverse (filter p l)) (append-nil (reverse front)) ∙ ap reverse (filter_turned p front) ∙ reverse-reverse (filter p front) in
    let two : reverse (filter p back) ≡ filter p (reverse back) = sym (filter_turned p back) in
    let whole : filter p (front ++ reverse back) ≡ filter p front ++ filter p (reverse back) = filter-append p front (reverse back) in
    rw (one, two, whole) (sym (append_assoc (filter p front) (filter p (reverse back)) rest))

-- one of the two parts
pub one_parted : {X : Type 0} (p : X → Bool) (front back part turned moved : List X)
    → turned ≡ reverse front ++ [] → moved ≡ reverse (filter p back) ++ [] → part ≡ reverse (filter p turned) ++ moved
    → part ≡ filter p (front ++ reverse back)
one_parted p front back part turned moved one two whole =
    whole ∙ ap (λ l. reverse (filter p l) ++ moved) one ∙ ap (λ l. reverse (filter p (reverse front ++ [])) ++ l) two ∙ parted p front back []
    ∙ append-nil (filter p (front ++ reverse back))

-- what is seen of a list, by its front and its back
pub shown_in_two : {X Y : Type 0} (f : X → Y) (front back : List X) → map f front ++ reverse (map f back) ≡ map f (front ++ reverse back)
shown_in_two f front back = sym (map-append f front (reverse back) ∙ ap (λ l. map f front ++ l) (map_of_reverse f back))
  where
    map_of_reverse : {X Y : Type 0} (f : X → Y) (xs : List X) → map f (reverse xs) ≡ reverse (map f xs)
    map_of_reverse f [] = refl
    map_of_reverse f (x ∷ xs) =
        ap (map f) (reverse-append (x ∷ []) xs) ∙ map-append f (reverse xs) (x ∷ []) ∙ ap (λ l. l ++ f x ∷ []) (map_of_reverse f xs)
        ∙ sym (reverse-append (f x ∷ []) (map f xs))

-- the two parts, put before a third list
pub sorted_before : {X : Type 0} (p q : X → Bool) (front back own : List X) (lower same : List X)
    → lower ≡ reverse (filter p (reverse front ++ [])) ++ (reverse (filter p back) ++ [])
    → same ≡ reverse (filter q (reverse front ++ [])) ++ (reverse (filter q back) ++ own)
    → reverse (reverse lower ++ []) ++ same ≡ filter p (front ++ reverse back) ++ (filter q (front ++ reverse back) ++ own)
sorted_before p q front back own lower same one two =
    let first : reverse (reverse lower ++ []) ≡ filter p (front ++ reverse back) =
    ap reverse (append-nil (reverse lower)) ∙ reverse-reverse lower ∙ one ∙ parted p front back [] ∙ append-nil (filter p (front ++ reverse back)) in
    rw first (ap (λ l. filter p (front ++ reverse back) ++ l) (two ∙ parted q front back own))

-- they are as many as there were
pub sorted_count : {X : Type 0} (p q : X → Bool) (other : (x : X) → q x ≡ not (p x)) (xs own : List X)
    → length (filter q xs ++ (filter p xs ++ own)) ≡ length own + length xs
sorted_count p q other xs own =
    omega (arith, length-append (filter q xs) (filter p xs ++ own), length-append (filter p xs) own, length-filter_both p q other xs)

-- and as many are counted
pub sorted_counted : {X : Type 0} (p q : X → Bool) (other : (x : X) → q x ≡ not (p x)) (xs front ends all : List X) (own_count other_count count most : ℕ)
    → all ≡ filter q xs ++ (filter p xs ++ front) → own_count ≡ min (length (front ++ ends)) most → other_count ≡ min (length xs) most
    → count ≡ min (own_count + other_count) most → count ≡ min (length (all ++ ends)) most
sorted_counted p q other xs front ends all own_count other_count count most is own others added =
    omega (arith, ap length is, sorted_count p q other xs front, length-append all ends, length-append front ends, own, others, added)

-- how many there are of two parts, where it is known of both together
pub parted_count : {X : Type 0} (p q : X → Bool) (other : (x : X) → q x ≡ not (p x)) (xs chosen others : List X) (count : ℕ)
    → count ≡ min (length xs) (2 ^ 64 - 1) → chosen ≡ filter p xs → others ≡ filter q xs → count ≡ min (length chosen + length others) (2 ^ 64 - 1)
parted_count p q other xs chosen others count is one two =
    omega (arith, is, ap length one, ap length two, length-filter_both p q other xs)
