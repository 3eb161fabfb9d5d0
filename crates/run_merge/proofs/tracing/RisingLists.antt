-- Lists whose keys rise, each of which there is once.
use Rattle.std.proofs.Common.{◌≡◌, ◌⊎◌, ◌<◌, ◌≤◌, ◌==◌, cond, ℕ, zero, suc, Bool, true, false, List, [], ◌∷◌, get_or, length, map, inl, inr, refl, sym, ap, arith}
use Rattle.std.specs.Prelude.{All, Contains, sum_by}
use Rattle.std.specs.List.Sorted.{IsNonDecreasingBy}
use Rattle.std.proofs.lemmas.Bool.{eq-eqb, eqb-false}
use Rattle.std.proofs.lemmas.List.Elements.{All-head, All-tail, All-cons, All-nil, All-map, All-contains, Contains-append_right}
use Rattle.std.proofs.lemmas.List.Sums.{sum_by-cons}
use Rattle.shared_objects.proofs.tickets.TicketsOfCalls.{map_there}
use Rattle.shared_objects.proofs.tickets.CallOwners.{first_there}

-- how often a number stands in a list
abbrev pub is_hit : ℕ → ℕ → ℕ
is_hit number n = cond (n == number) 1 0

abbrev pub hits : ℕ → List ℕ → ℕ
hits number ns = sum_by (is_hit number) ns

-- each stands there once
abbrev pub AreOnce : List ℕ → Type 0
AreOnce ns = (number : ℕ) → hits number ns ≤ 1

-- none is greater than one behind it, and each is smaller
abbrev pub NoneFalls : List ℕ → Type 0
NoneFalls [] = Unit {0}
NoneFalls (n ∷ ns) = All (λ m. n ≤ m) ns × NoneFalls ns

abbrev pub Climbs : List ℕ → Type 0
Climbs [] = Unit {0}
Climbs (n ∷ ns) = All (λ m. n < m) ns × Climbs ns

greater : (n : ℕ) (ms : List ℕ) → All (λ m. n ≤ m) ms → hits n ms ≡ 0 → All (λ m. n < m) ms
greater n [] least none = All-nil (λ m. n < m)
greater n (m ∷ ms) least none = by_test (m == n) refl (greater n ms (All-tail (λ m. n ≤ m) m ms least))
  where
    by_test : (b : Bool) → (m == n) ≡ b → (hits n ms ≡ 0 → All (λ m. n < m) ms) → All (λ m. n < m) (m ∷ ms)
    by_test true same rest =
        let one : is_hit n m ≡ 1 = ap (λ b. cond b 1 0) same in absurd (omega (arith, one, none, sum_by-cons (is_hit n) m ms))
    by_test false same rest =
        let zero_of : is_hit n m ≡ 0 = ap (λ b. cond b 1 0) same in
        let le = All-head (λ m. n ≤ m) m ms least in
        let other = eqb-false m n same in
        let below : n < m = omega (arith, le, other) in
        All-cons (λ m. n < m) m ms below (rest (omega (arith, zero_of, none, sum_by-cons (is_hit n) m ms)))

-- what does not fall and has each number once rises
pub climbs : (ns : List ℕ) → NoneFalls ns → AreOnce ns → Climbs ns
climbs [] falls once = tt
climbs (n ∷ ns) falls once =
    let here : is_hit n n ≡ 1 = ap (λ b. cond b 1 0) (eq-eqb n n refl) in
    let few = once n in (
      greater n ns falls.0 (omega (arith, here, few, sum_by-cons (is_hit n) n ns)),
      climbs ns falls.1 (λ number. let most = once number in omega (arith, most, sum_by-cons (is_hit number) n ns)),
    )

pub none_falls : {X : Type 0} (key : X → ℕ) (xs : List X) → IsNonDecreasingBy key xs → NoneFalls (map key xs)
none_falls key [] rises = tt
none_falls key (x ∷ xs) rises = (
  All-map (λ m. key x ≤ m) key xs (λ j d lt. rises 0 (suc j) d (omega arith) (omega (arith, lt))),
  none_falls key xs (λ i j d le lt. rises (suc i) (suc j) d (omega (arith, le)) (omega (arith, lt))),
)

-- and so they rise as a list does
all_at : {X : Type 0} (key : X → ℕ) (n : ℕ) (xs : List X) (j : ℕ) (d : X) → All (λ m. n ≤ m) (map key xs) → j < length xs → n ≤ key (get_or xs j d)
all_at key n [] j d least lt = absurd (omega (arith, lt))
all_at key n (x ∷ xs) zero d least lt = All-head (λ m. n ≤ m) (key x) (map key xs) least
all_at key n (x ∷ xs) (suc j) d least lt = all_at key n xs j d (All-tail (λ m. n ≤ m) (key x) (map key xs) least) (omega (arith, lt))

pub falls_rises : {X : Type 0} (key : X → ℕ) (xs : List X) → NoneFalls (map key xs) → IsNonDecreasingBy key xs
falls_rises key [] falls i j d le lt = absurd (omega (arith, lt))
falls_rises key (x ∷ xs) falls zero zero d le lt = omega arith
falls_rises key (x ∷ xs) falls zero (suc j) d le lt = all_at key (key x) xs j d falls.0 (omega (arith, lt))
falls_rises key (x ∷ xs) falls (suc i) zero d le lt = absurd (omega (arith, le))
falls_rises key (x ∷ xs) falls (suc i) (suc j) d le lt = falls_rises key xs falls.1 i j d (omega (arith, le)) (omega (arith, lt))

first_or_later : {X : Type 0} (y : X) (ys : List X) (x : X) → Contains (y ∷ ys) x → (y ≡ x) ⊎ Contains ys x
first_or_later y ys x (zero, lt, at) = inl at
first_or_later y ys x (suc k, lt, at) = inr (k, omega (arith, lt), at)

-- Two lists whose keys rise are the same where each has what the other has.
module _ {X : Type 0} (key : X → ℕ) where
  later_key : (x : X) (xs : List X) (y : X) → Climbs (map key (x ∷ xs)) → Contains xs y → key x < key y
  later_key x xs y up there = All-contains (λ m. key x < m) (map key xs) (key y) up.0 (map_there key xs y there)

  same_first : (x y : X) (xs ys : List X) → Climbs (map key (x ∷ xs)) → Climbs (map key (y ∷ ys)) → Contains (y ∷ ys) x → Contains (x ∷ xs) y → x ≡ y
  same_first x y xs ys a b to from = by_two (first_or_later y ys x to) (first_or_later x xs y from)
    where
      by_two : (y ≡ x) ⊎ Contains ys x → (x ≡ y) ⊎ Contains xs y → x ≡ y
      by_two (inl same) other = sym same
      by_two (inr there) (inl same) = same
      by_two (inr there) (inr here) = absurd (omega (arith, later_key y ys x b there, later_key x xs y a here))

  behind_first : (x y : X) (xs ys : List X) → x ≡ y → Climbs (map key (x ∷ xs)) → ((z : X) → Contains (x ∷ xs) z → Contains (y ∷ ys) z) → (z : X) → Contains xs z → Contains ys z
  behind_first x y xs ys same a to z there = by_two (first_or_later y ys z (to z (Contains-append_right (x ∷ []) xs z there)))
    where
      by_two : (y ≡ z) ⊎ Contains ys z → Contains ys z
      by_two (inl first) =
          let lt = later_key x xs z a there in
          let one : key x ≡ key y = ap key same in
          let two : key y ≡ key z = ap key first in
          absurd (omega (arith, lt, one, two))
      by_two (inr later) = later

  pub same_climbing : (xs ys : List X) → Climbs (map key xs) → Climbs (map key ys) → ((z : X) → Contains xs z → Contains ys z) → ((z : X) → Contains ys z → Contains xs z) → xs ≡ ys
  same_climbing [] [] a b to from = refl
  same_climbing [] (y ∷ ys) a b to from = none y (from y (first_there y ys))
    where
      none : (z : X) → Contains [] z → [] ≡ y ∷ ys
      none z (k, lt, at) = absurd (omega (arith, lt))
  same_climbing (x ∷ xs) [] a b to from = none x (to x (first_there x xs))
    where
      none : (z : X) → Contains [] z → x ∷ xs ≡ []
      none z (k, lt, at) = absurd (omega (arith, lt))
  same_climbing (x ∷ xs) (y ∷ ys) a b to from =
      let head = same_first x y xs ys a b (to x (first_there x xs)) (from y (first_there y ys)) in
      let rest = same_climbing xs ys a.1 b.1 (behind_first x y xs ys head a to) (behind_first y x ys xs (sym head) b from) in
      λ i. head i ∷ rest i
