-- Values of devices, each no more than what the device brings itself and the values of its members: no value is above all that is brought.
use Rattle.std.proofs.Common.{◌≡◌, ◌⊎◌, ℕ, zero, suc, ◌+◌, ◌==◌, ◌<◌, ◌≤◌, cond, List, [], ◌∷◌, ◌++◌, length, sum_by, Option, None, Some, refl, ap, inl, inr, arith}
use Rattle.std.specs.Prelude.{slice_get}
use Rattle.std.proofs.lemmas.Bool.{cases_lt, cases_eq, eq-eqb, ne_eqb}
use Rattle.std.proofs.lemmas.List.Sums.{sum_by-cons, sum_by-append}
use Rattle.stack_base.specs.declared.ids.DevId.{DevId}

-- the sum of the first n values
abbrev pub sum_below : (ℕ → ℕ) → ℕ → ℕ
sum_below f zero = 0
sum_below f (suc n) = sum_below f n + f n

-- smaller values have a smaller sum
total_le : (f g : ℕ → ℕ) (n : ℕ) → ((i : ℕ) → f i ≤ g i) → sum_below f n ≤ sum_below g n
total_le f g zero each = omega arith
total_le f g (suc n) each = omega (arith, each n, total_le f g n each)

-- more values have a larger sum
pub total_grows : (f : ℕ → ℕ) (m n : ℕ) → m ≤ n → sum_below f m ≤ sum_below f n
total_grows f m zero le =
    let same : m ≡ 0 = omega arith in
    omega (arith, ap (sum_below f) same)
total_grows f m (suc n) le = elim (cases_lt n m) [
  | inl last ↦ (let same : m ≡ suc n = omega arith in omega (arith, ap (sum_below f) same))
  | inr before ↦ omega (arith, total_grows f m n before)
]

-- where the value at x is left out, the sum is smaller by it
total_without : (f g : ℕ → ℕ) (x n : ℕ) → x < n → f x ≡ 0 → ((i : ℕ) → f i ≤ g i) → sum_below f n + g x ≤ sum_below g n
total_without f g x zero lt none each = absurd (omega arith)
total_without f g x (suc n) lt none each = elim (cases_lt x n) [
  | inl before ↦ omega (arith, each n, total_without f g x n before none each)
  | inr last ↦
      let same : x ≡ n = omega arith in
      omega (arith, none, ap f same, ap g same, total_le f g n each)
]

-- the values without the one at x
abbrev without : ℕ → (ℕ → ℕ) → ℕ → ℕ
without x g i = cond (x == i) 0 (g i)

without_here : (x : ℕ) (g : ℕ → ℕ) → without x g x ≡ 0
without_here x g = ap (λ b. cond b 0 (g x)) (eq-eqb x x refl)

without_there : (x : ℕ) (g : ℕ → ℕ) (i : ℕ) → (x ≡ i → ⊥) → without x g i ≡ g i
without_there x g i other = ap (λ b. cond b 0 (g i)) (ne_eqb x i other)

without_le : (x : ℕ) (g : ℕ → ℕ) (i : ℕ) → without x g i ≤ g i
without_le x g i = elim (cases_eq x i) [
  | inl same ↦ omega (arith, ap (λ b. cond b 0 (g i)) (eq-eqb x i same))
  | inr other ↦ omega (arith, without_there x g i other)
]

-- values that agree at the elements of a list have one sum
sum_agree : (f g : DevId → ℕ) (xs : List DevId) → ((i : ℕ) (m : DevId) → slice_get xs i ≡ Some m → f m ≡ g m) → sum_by f xs ≡ sum_by g xs
sum_agree f g [] same = refl
sum_agree f g (x ∷ xs) same =
    omega (arith, sum_by-cons f x xs, sum_by-cons g x xs, same 0 x refl, sum_agree f g xs (λ i m is. same (suc i) m is))

-- the device of a number
abbrev pub device : ℕ → DevId
device number = record { 0 = number }

-- no device stands twice in the list
abbrev pub IsDistinct : List DevId → Type 0
IsDistinct xs = (i j : ℕ) (m : DevId) → slice_get xs i ≡ Some m → slice_get xs j ≡ Some m → i ≡ j

-- the list has devices of numbers below n alone
abbrev pub IsBelow : ℕ → List DevId → Type 0
IsBelow n xs = (i : ℕ) (m : DevId) → slice_get xs i ≡ Some m → m.0 < n

-- where no device stands twice, the values of those in the list are together no more than all
distinct_le : (xs : List DevId) (g : ℕ → ℕ) (n : ℕ) → IsDistinct xs → IsBelow n xs → sum_by (λ (m : DevId). g m.0) xs ≤ sum_below g n
distinct_le [] g n distinct below = omega arith
distinct_le (x ∷ xs) g n distinct below =
    let left = without x.0 g in
    let other : (i : ℕ) (m : DevId) → slice_get xs i ≡ Some m → x.0 ≡ m.0 → ⊥ =
    λ i m is same. (let twice : 0 ≡ suc i = distinct 0 (suc i) m (ap (λ (a : ℕ). Some (device a)) same) is in omega arith) in
    omega (
      arith,
      sum_by-cons (λ (m : DevId). g m.0) x xs,
      sum_agree (λ (m : DevId). left m.0) (λ (m : DevId). g m.0) xs (λ i m is. without_there x.0 g m.0 (other i m is)),
      distinct_le xs left n (λ i j m is also. omega (arith, distinct (suc i) (suc j) m is also)) (λ i m is. below (suc i) m is),
      total_without left g x.0 n (below 0 x refl) (without_here x.0 g) (without_le x.0 g),
    )

-- an element of two lists that are joined is one of the first or of the second
append_cases :
    (xs ys : List DevId) (i : ℕ) (m : DevId) → slice_get (xs ++ ys) i ≡ Some m
    → (slice_get xs i ≡ Some m) ⊎ ((j : ℕ) × (i ≡ length xs + j) × (slice_get ys j ≡ Some m))
append_cases [] ys i m is = inr (i, omega arith, is)
append_cases (x ∷ xs) ys zero m is = inl is
append_cases (x ∷ xs) ys (suc i) m is = elim (append_cases xs ys i m is) [
  | inl now ↦ inl now
  | inr later ↦ inr (later.0, omega (arith, later.1), later.2)
]

-- two lists with no device twice and none in common
append_distinct :
    (xs ys : List DevId) → IsDistinct xs → IsDistinct ys → ((i j : ℕ) (m : DevId) → slice_get xs i ≡ Some m → slice_get ys j ≡ Some m → ⊥)
    → IsDistinct (xs ++ ys)
append_distinct xs ys left right apart i j m is also = elim (append_cases xs ys i m is) [
  | inl a ↦ elim (append_cases xs ys j m also) [
    | inl b ↦ left i j m a b
    | inr b ↦ absurd (apart i b.0 m a b.2)
  ]
  | inr a ↦ elim (append_cases xs ys j m also) [
    | inl b ↦ absurd (apart j a.0 m b a.2)
    | inr b ↦ omega (arith, a.1, b.1, right a.0 b.0 m a.2 b.2)
  ]
]

module _ (lists : ℕ → List DevId) where
  -- the members of the first n devices, one device's after the other's
  abbrev gathered : ℕ → List DevId
  gathered zero = []
  gathered (suc n) = gathered n ++ lists n

  -- each of them is a member of one of these devices
  gathered_from : (n i : ℕ) (m : DevId) → slice_get (gathered n) i ≡ Some m → (p : ℕ) × (p < n) × (k : ℕ) × (slice_get (lists p) k ≡ Some m)
  gathered_from zero i m is = absurd (grind arith)
  gathered_from (suc n) i m is = elim (append_cases (gathered n) (lists n) i m is) [
    | inl before ↦
        let from = gathered_from n i m before in
        (from.0, omega (arith, from.1), from.2, from.3)
    | inr last ↦ (n, omega arith, last.0, last.2)
  ]

  -- where each device is a member at most once, none of them stands there twice
  gathered_distinct :
      ((p q i j : ℕ) (m : DevId) → slice_get (lists p) i ≡ Some m → slice_get (lists q) j ≡ Some m → (p ≡ q) × (i ≡ j))
      → (n : ℕ) → IsDistinct (gathered n)
  gathered_distinct once zero i j m is also = absurd (grind arith)
  gathered_distinct once (suc n) i j m is also =
      append_distinct (gathered n) (lists n) (gathered_distinct once n) (λ a b x one other. (once n n a b x one other).1)
      (λ a b x one other.
      let from = gathered_from n a x one in
      omega (arith, from.1, (once from.0 n from.2 b x from.3 other).0)) i j m is also

  -- the values of the first n devices are no more than what these bring and the values of their members
  gathered_le : (g own : ℕ → ℕ) (n : ℕ) → ((p : ℕ) → p < n → g p ≤ own p + sum_by (λ (m : DevId). g m.0) (lists p))
      → sum_below g n ≤ sum_below own n + sum_by (λ (m : DevId). g m.0) (gathered n)
  gathered_le g own zero each = omega arith
  gathered_le g own (suc n) each =
      omega (arith, each n (omega arith), sum_by-append (λ (m : DevId). g m.0) (gathered n) (lists n), gathered_le g own n (λ p lt. each p (omega arith)))

  -- so the value of a device is no more than what the devices up to it bring
  pub value_le :
      ((p q i j : ℕ) (m : DevId) → slice_get (lists p) i ≡ Some m → slice_get (lists q) j ≡ Some m → (p ≡ q) × (i ≡ j))
      → ((p : ℕ) → IsBelow p (lists p))
      → (g own : ℕ → ℕ) (k : ℕ) → ((p : ℕ) → p < suc k → g p ≤ own p + sum_by (λ (m : DevId). g m.0) (lists p))
      → g k ≤ sum_below own (suc k)
  value_le once below g own k each =
      omega (
        arith,
        gathered_le g own (suc k) each,
        distinct_le (gathered (suc k)) g k (gathered_distinct once (suc k)) (λ i m is.
            let from = gathered_from (suc k) i m is in
            omega (arith, from.1, below from.0 from.2 m from.3)),
      )

-- the sum of values begins with the first
total_first : (f : ℕ → ℕ) (n : ℕ) → sum_below f (suc n) ≡ f 0 + sum_below (λ i. f (suc i)) n
total_first f zero = omega arith
total_first f (suc n) = omega (arith, total_first f n)

-- the value of what a list has at a place, or 0 where it has nothing
abbrev pub value_of : {X : Type 0} → (X → ℕ) → Option X → ℕ
value_of f None = 0
value_of f (Some x) = f x

-- the values at the places of a list are those of its elements
pub total_of_list : {X : Type 0} (f : X → ℕ) (xs : List X) → sum_below (λ i. value_of f (slice_get xs i)) (length xs) ≡ sum_by f xs
total_of_list f [] = refl
total_of_list f (x ∷ xs) = omega (arith, total_first (λ i. value_of f (slice_get (x ∷ xs) i)) (length xs), sum_by-cons f x xs, total_of_list f xs)
