-- Sums over places, and entries counted by the places of their tasks.
use Rattle.std.proofs.Common.{◌≡◌, ◌+◌, ◌<◌, ◌≤◌, ◌==◌, cond, ℕ, zero, suc, Bool, true, false, List, [], ◌∷◌, length, filter, refl, ap, arith, get_or}
use Rattle.std.specs.Prelude.{All, sum_by}
use Rattle.std.proofs.lemmas.Bool.{eq-eqb, ne_eqb}
use Rattle.std.proofs.lemmas.List.Elements.{All-head, All-tail}
use Rattle.std.proofs.lemmas.List.Sums.{sum_by-cons}
use Rattle.run_merge.specs.Merging.{Ticketed}
use Rattle.run_merge.proofs.merging.Picked.{is_by}

abbrev pub sum_of_places : (ℕ → ℕ) → ℕ → ℕ
sum_of_places f zero = 0
sum_of_places f (suc n) = f 0 + sum_of_places (λ k. f (suc k)) n

total_none : (f : ℕ → ℕ) (n : ℕ) → ((k : ℕ) → f k ≡ 0) → sum_of_places f n ≡ 0
total_none f zero none = refl
total_none f (suc n) none = let here = none 0 in let rest = total_none (λ k. f (suc k)) n (λ k. none (suc k)) in omega (arith, here, rest)

total_once : (f : ℕ → ℕ) (p n : ℕ) → p < n → f p ≡ 1 → ((k : ℕ) → (k ≡ p → ⊥) → f k ≡ 0) → sum_of_places f n ≡ 1
total_once f p zero lt one others = absurd (omega (arith, lt))
total_once f zero (suc n) lt one others =
    let rest = total_none (λ k. f (suc k)) n (λ k. others (suc k) (λ h. omega (arith, h))) in omega (arith, one, rest)
total_once f (suc p) (suc n) lt one others =
    let here = others 0 (λ h. omega (arith, h)) in
    let rest = total_once (λ k. f (suc k)) p n (omega (arith, lt)) one (λ k other. others (suc k) (λ h. other (omega (arith, h)))) in
    omega (arith, here, rest)

total_both : (f g h : ℕ → ℕ) (n : ℕ) → ((k : ℕ) → h k ≡ f k + g k) → sum_of_places h n ≡ sum_of_places f n + sum_of_places g n
total_both f g h zero is = refl
total_both f g h (suc n) is =
    let here = is 0 in let rest = total_both (λ k. f (suc k)) (λ k. g (suc k)) (λ k. h (suc k)) n (λ k. is (suc k)) in omega (arith, here, rest)

pub total_most : (f g : ℕ → ℕ) (n : ℕ) → ((k : ℕ) → k < n → f k ≤ g k) → sum_of_places f n ≤ sum_of_places g n
total_most f g zero le = omega arith
total_most f g (suc n) le =
    let here = le 0 (omega arith) in let rest = total_most (λ k. f (suc k)) (λ k. g (suc k)) n (λ k lt. le (suc k) (omega (arith, lt))) in omega (arith, here, rest)

pub total_list : {X : Type 0} (f : X → ℕ) (none : X) (xs : List X) → sum_of_places (λ k. f (get_or xs k none)) (length xs) ≡ sum_by f xs
total_list f none [] = refl
total_list f none (x ∷ xs) = let rest = total_list f none xs in let more = sum_by-cons f x xs in omega (arith, rest, more)

-- each entry is of one place
pub by_places : (n : ℕ) (ns : List Ticketed) → All (λ (x : Ticketed). x.entry.place < n) ns → sum_of_places (λ place. length (filter (is_by place) ns)) n ≡ length ns
by_places n [] all = total_none (λ place. 0) n (λ place. refl)
by_places n (x ∷ xs) all =
    let here = All-head (λ (x : Ticketed). x.entry.place < n) x xs all in
    let rest = by_places n xs (All-tail (λ (x : Ticketed). x.entry.place < n) x xs all) in
    let once = total_once one x.entry.place n here (ap (λ b. cond b 1 0) (eq-eqb x.entry.place x.entry.place refl))
    (λ k other. ap (λ b. cond b 1 0) (ne_eqb k x.entry.place other)) in
    let both = total_both one (λ place. length (filter (is_by place) xs)) (λ place. length (filter (is_by place) (x ∷ xs))) n more in
    omega (arith, rest, once, both)
  where
    one : ℕ → ℕ
    one k = cond (k == x.entry.place) 1 0

    by_test : (b : Bool) (few : List Ticketed) → length (cond b (x ∷ few) few) ≡ cond b 1 0 + length few
    by_test true few = omega arith
    by_test false few = omega arith

    more : (k : ℕ) → length (filter (is_by k) (x ∷ xs)) ≡ one k + length (filter (is_by k) xs)
    more k = by_test (k == x.entry.place) (filter (is_by k) xs)
