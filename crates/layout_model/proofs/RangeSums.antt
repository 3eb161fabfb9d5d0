-- Sums over the sectors of a run, or over the members of a mirror.
use Rattle.std.proofs.Common.{◌≡◌, ◌+◌, ◌*◌, ◌<◌, ◌≤◌, ◌==◌, ℕ, zero, suc, true, cond, List, [], ◌∷◌, length, get_or, sum_by, zero-add, add-zero, mul-suc, refl, sym, ap, ◌∙◌, arith}
use Rattle.std.specs.List.{range_with_len}
use Rattle.std.proofs.lemmas.List.Sums.{sum_by-cons, sum_by-append, get_or-le-sum_by}
use Rattle.std.proofs.lemmas.List.FromFn.{length-range_with_len, get_or-range_with_len}
use Rattle.std.proofs.lemmas.Bool.{eq-eqb, ne_eqb}
use Rattle.stack_base.proofs.ListLemmas.{range_joined}

-- the sum over one more number
pub sum_next : (f : ℕ → ℕ) (a n : ℕ) → sum_by f (range_with_len a (suc n)) ≡ f a + sum_by f (range_with_len (a + 1) n)
sum_next f a n = sum_by-cons f a (range_with_len (a + 1) n)

-- equal terms, place by place, give equal sums, wherever the two ranges begin
pub sum_moved : (f g : ℕ → ℕ) (a b n : ℕ) → ((i : ℕ) → i < n → f (a + i) ≡ g (b + i))
    → sum_by f (range_with_len a n) ≡ sum_by g (range_with_len b n)
sum_moved f g a b zero same = refl
sum_moved f g a b (suc n) same =
    omega (
      arith,
      sum_next f a n,
      sum_next g b n,
      rw (add-zero a, add-zero b) at (same 0 (omega arith)),
      sum_moved f g (a + 1) (b + 1) n (λ i lt.
          let left : a + 1 + i ≡ a + (i + 1) = omega arith in
          let right : b + 1 + i ≡ b + (i + 1) = omega arith in
          rw (left, right) (same (i + 1) (omega arith))),
    )

-- equal terms give equal sums
pub sum_same : {X : Type 0} (f g : X → ℕ) (xs : List X) → ((x : X) → f x ≡ g x) → sum_by f xs ≡ sum_by g xs
sum_same f g [] same = refl
sum_same f g (x ∷ xs) same = omega (arith, sum_by-cons f x xs, sum_by-cons g x xs, same x, sum_same f g xs same)

-- a sum in two parts
pub sum_joined : (f : ℕ → ℕ) (a m n : ℕ) → sum_by f (range_with_len a (m + n)) ≡ sum_by f (range_with_len a m) + sum_by f (range_with_len (a + m) n)
sum_joined f a m n = ap (sum_by f) (range_joined a m n) ∙ sum_by-append f (range_with_len a m) (range_with_len (a + m) n)

-- a sum of two terms each
pub sum_of_two : {X : Type 0} (f g : X → ℕ) (xs : List X) → sum_by (λ x. f x + g x) xs ≡ sum_by f xs + sum_by g xs
sum_of_two f g [] = refl
sum_of_two f g (x ∷ xs) =
    omega (arith, sum_by-cons (λ y. f y + g y) x xs, sum_by-cons f x xs, sum_by-cons g x xs, sum_of_two f g xs)

-- the sum of nothing
pub sum_of_zero : {X : Type 0} (xs : List X) → sum_by (λ x. 0) xs ≡ 0
sum_of_zero [] = refl
sum_of_zero (x ∷ xs) = sum_by-cons (λ x. 0) x xs ∙ rw zero-add (sum_of_zero xs)

-- the sum of as many ones
pub sum_of_one : {X : Type 0} (xs : List X) → sum_by (λ x. 1) xs ≡ length xs
sum_of_one [] = refl
sum_of_one (x ∷ xs) = sum_by-cons (λ x. 1) x xs ∙ omega (arith, sum_of_one xs)

-- sums of sums, in the other order
pub sum_swapped : {X Y : Type 0} (f : X → Y → ℕ) (xs : List X) (ys : List Y)
    → sum_by (λ x. sum_by (λ y. f x y) ys) xs ≡ sum_by (λ y. sum_by (λ x. f x y) xs) ys
sum_swapped f [] ys = sym (sum_of_zero ys)
sum_swapped f (x ∷ xs) ys =
    sum_by-cons (λ z. sum_by (λ y. f z y) ys) x xs
    ∙ ap (λ rest. sum_by (λ y. f x y) ys + rest) (sum_swapped f xs ys)
    ∙ sym (sum_of_two (λ y. f x y) (λ y. sum_by (λ z. f z y) xs) ys)
    ∙ sum_same (λ y. f x y + sum_by (λ z. f z y) xs) (λ y. sum_by (λ z. f z y) (x ∷ xs)) ys (λ y. sym (sum_by-cons (λ z. f z y) x xs))

-- what counts at the first number of a range alone counts once
pub sum_of_first : (r len count : ℕ) → 0 < len → sum_by (λ s. cond (r == s) count 0) (range_with_len r len) ≡ count
sum_of_first r zero count some = omega arith
sum_of_first r (suc len) count some =
    let here : (r == r) ≡ true = eq-eqb r r refl in
    omega (
      arith,
      sum_next (λ s. cond (r == s) count 0) r len,
      ap (λ b. cond b count 0) here,
      sum_moved (λ s. cond (r == s) count 0) (λ s. 0) (r + 1) 0 len (λ i lt. ap (λ b. cond b count 0) (ne_eqb r (r + 1 + i) (λ same. omega arith))),
      sum_of_zero (range_with_len 0 len),
    )

-- no term is above the sum
pub term_le_sum : (f : ℕ → ℕ) (n k : ℕ) → k < n → f k ≤ sum_by f (range_with_len 0 n)
term_le_sum f n k below =
    let long : k < length (range_with_len 0 n) = omega (arith, length-range_with_len 0 n) in
    let at : get_or (range_with_len 0 n) k 0 ≡ k = get_or-range_with_len 0 n k 0 below ∙ zero-add k in
    rw at at (get_or-le-sum_by f (range_with_len 0 n) k 0 long)

-- a sum of terms that are no larger is no larger
pub sum_le : (f : ℕ → ℕ) (a n most : ℕ) → ((s : ℕ) → f s ≤ most) → sum_by f (range_with_len a n) ≤ most * n
sum_le f a zero most each = omega arith
sum_le f a (suc n) most each = omega (arith, sum_next f a n, each a, sum_le f (a + 1) n most each, mul-suc most n)
