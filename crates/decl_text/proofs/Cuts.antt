-- A list up to the first element that passes a test, and what is left of it there.
use Rattle.std.proofs.Common.{◌≡◌, ℕ, suc, ◌+◌, Bool, true, false, List, [], ◌∷◌, ◌++◌, length, drop, take, refl, sym, ◌∙◌, ap, subst, arith}
use Rattle.std.specs.List.{before_first, position_or_len}
use Rattle.decl_text.specs.Reading.{NonePass}
use Rattle.decl_text.specs.Steps.{FirstPasses}

-- what is left
abbrev pub rest : {X : Type 0} → (X → Bool) → List X → List X
rest p xs = drop (length (before_first p xs)) xs

-- up to the first element that passes, where the first of all does, and where it does not
no_more : {X : Type 0} (p : X → Bool) (x : X) (xs : List X) → p x ≡ true → before_first p (x ∷ xs) ≡ []
no_more p x xs passes = rw passes refl

-- a list up to one place further
take_first : {X : Type 0} (n : ℕ) (x : X) (xs : List X) → take (1 + n) (x ∷ xs) ≡ x ∷ take n xs
take_first n x xs = let next : 1 + n ≡ suc n = omega arith in ap (λ k. take k (x ∷ xs)) next

pub more : {X : Type 0} (p : X → Bool) (x : X) (xs : List X) → p x ≡ false → before_first p (x ∷ xs) ≡ x ∷ before_first p xs
more p x xs fails = rw fails (take_first (position_or_len p xs) x xs)

first_cut : {X : Type 0} (p : X → Bool) (x : X) (xs : List X) (b : Bool) → p x ≡ b → before_first p xs ++ rest p xs ≡ xs
    → before_first p (x ∷ xs) ++ rest p (x ∷ xs) ≡ x ∷ xs
first_cut p x xs true is rest_cut = subst (λ front. front ++ drop (length front) (x ∷ xs) ≡ x ∷ xs) (sym (no_more p x xs is)) refl
first_cut p x xs false is rest_cut = subst (λ front. front ++ drop (length front) (x ∷ xs) ≡ x ∷ xs) (sym (more p x xs is)) (ap (λ ys. x ∷ ys) rest_cut)

pub cut : {X : Type 0} (p : X → Bool) (xs : List X) → before_first p xs ++ rest p xs ≡ xs
cut p [] = refl
cut p (x ∷ xs) = first_cut p x xs (p x) refl (cut p xs)

first_fails : {X : Type 0} (p : X → Bool) (x : X) (xs : List X) (b : Bool) → p x ≡ b → NonePass p (before_first p xs) → NonePass p (before_first p (x ∷ xs))
first_fails p x xs true is fail = subst (NonePass p) (sym (no_more p x xs is)) tt
first_fails p x xs false is fail = subst (NonePass p) (sym (more p x xs is)) (is, fail)

pub none_pass : {X : Type 0} (p : X → Bool) (xs : List X) → NonePass p (before_first p xs)
none_pass p [] = tt
none_pass p (x ∷ xs) = first_fails p x xs (p x) refl (none_pass p xs)

first_begins : {X : Type 0} (p : X → Bool) (x : X) (xs : List X) (b : Bool) → p x ≡ b → FirstPasses p (rest p xs) → FirstPasses p (rest p (x ∷ xs))
first_begins p x xs true is starts = subst (λ front. FirstPasses p (drop (length front) (x ∷ xs))) (sym (no_more p x xs is)) is
first_begins p x xs false is starts = subst (λ front. FirstPasses p (drop (length front) (x ∷ xs))) (sym (more p x xs is)) starts

pub begins : {X : Type 0} (p : X → Bool) (xs : List X) → FirstPasses p (rest p xs)
begins p [] = tt
begins p (x ∷ xs) = first_begins p x xs (p x) refl (begins p xs)

-- before such a list stands nothing
pub none_before : {X : Type 0} (p : X → Bool) (xs : List X) → FirstPasses p xs → before_first p xs ≡ []
none_before p [] starts = refl
none_before p (x ∷ xs) starts = rw starts refl

-- what stands before elements of which none passes and a list that begins with one that does is these
pub before_is : {X : Type 0} (p : X → Bool) (front back : List X) → NonePass p front → FirstPasses p back → before_first p (front ++ back) ≡ front
before_is p [] back none starts = none_before p back starts
before_is p (x ∷ front) back none starts = more p x (front ++ back) none.0 ∙ ap (λ ys. x ∷ ys) (before_is p front back none.1 starts)

-- the same, whatever stands behind
pub before_append : {X : Type 0} (p : X → Bool) (front back : List X) → NonePass p front → before_first p (front ++ back) ≡ front ++ before_first p back
before_append p [] back none = refl
before_append p (x ∷ front) back none = more p x (front ++ back) none.0 ∙ ap (λ ys. x ∷ ys) (before_append p front back none.1)

-- where none passes, all stand before
pub before_all : {X : Type 0} (p : X → Bool) (xs : List X) → NonePass p xs → before_first p xs ≡ xs
before_all p [] none = refl
before_all p (x ∷ xs) none = more p x xs none.0 ∙ ap (λ ys. x ∷ ys) (before_all p xs none.1)

pub none_pass_one_more : {X : Type 0} (p : X → Bool) (front : List X) (x : X) → NonePass p front → p x ≡ false → NonePass p (front ++ x ∷ [])
none_pass_one_more p [] x none fails = (fails, tt)
none_pass_one_more p (y ∷ front) x none fails = (none.0, none_pass_one_more p front x none.1 fails)
