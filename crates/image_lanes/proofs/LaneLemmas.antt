-- Eight words at a time.
use Rattle.std.proofs.Common.{◌≡◌, ◌+◌, ◌-◌, ◌%◌, ◌^◌, ◌≤◌, ◌==◌, ℕ, not, cond, List, [], ◌∷◌, map, length, take, replicate, sum, refl, sym, ap, ◌∙◌, inl, inr, zero-add, arith}
use Rattle.std.specs.Simd.Lanes.{zip2, fold_l, mask_l, put_chunk, top}
use Rattle.std.specs.Bool.{Decides}
use Rattle.std.proofs.lemmas.Simd.{take_more_put_chunk, length-zip2, get_or-zip2, get_or-replicate, tops_compared, mask_l-mod}
use Rattle.std.proofs.lemmas.List.Sums.{sum_by-cons}
use Rattle.std.proofs.lemmas.Bool.{cases_eq, eqb-true, ne_eqb, eq-eqb}
use Rattle.std.proofs.Math.Nat.{mod-add-mod}
use mir.Syntax.{w64}
use Rattle.image_lanes.specs.Lanes.{counting, sum_mod}
use Rattle.image_lanes.proofs.CountingLemmas.{length_counting, word_of_counting, is_counting, counting_on}

-- a sum of two words
abbrev pub add_mod : ℕ → ℕ → ℕ
add_mod a b = (a + b) % 2 ^ 64

-- the group that follows
pub counting_next : (first : ℕ) → zip2 add_mod (counting first 8) (replicate 8 8) ≡ counting (first + 8) 8
counting_next first =
    let eight = length_counting first 8 in
    is_counting (zip2 add_mod (counting first 8) (replicate 8 8)) (first + 8) 8
    (length-zip2 add_mod (counting first 8) (replicate 8 8) eight ∙ eight)
    (λ i lt.
    let on : first + i + 8 ≡ first + 8 + i = omega arith in
    get_or-zip2 add_mod (counting first 8) (replicate 8 8) i 0 0 0 (rw eight lt) lt
    ∙ rw (word_of_counting first 8 i 0 lt, get_or-replicate {A = ℕ} 8 i 8 0 lt) (mod-add-mod (first + i) (2 ^ 64) 8)
    ∙ ap (λ k. k % 2 ^ 64) on)

-- one more group is filled
pub more_filled : (words lanes : List ℕ) (first at : ℕ) → at + 8 ≤ length words → take at words ≡ counting first at → lanes ≡ counting (first + at) 8
    → take (at + 8) (put_chunk at words lanes) ≡ counting first (at + 8)
more_filled words lanes first at room front group =
    let eight : length lanes ≡ 8 = rw group (length_counting (first + at) 8) in
    take_more_put_chunk at words lanes (at + 8) (omega (arith, eight)) room ∙ rw (front, group) (counting_on first at 8)

-- the sum of two lists of words that are added lane by lane
pub sum_added : (one other : List ℕ) → length one ≡ length other → sum_mod (zip2 add_mod one other) ≡ (sum_mod one + sum_mod other) % 2 ^ 64
sum_added [] [] same = refl
sum_added [] (y ∷ ys) same = absurd (omega (arith, same))
sum_added (x ∷ xs) [] same = absurd (omega (arith, same))
sum_added (x ∷ xs) (y ∷ ys) same =
    omega (arith, sum_added xs ys (omega (arith, same)), sum_by-cons (λ n. n) (add_mod x y) (zip2 add_mod xs ys), sum_by-cons (λ n. n) x xs, sum_by-cons (λ n. n) y ys)

-- the sum of all lanes, onto what is there
sum_folded : (a : ℕ) (lanes : List ℕ) → fold_l add_mod (a % 2 ^ 64) lanes ≡ (a + sum lanes) % 2 ^ 64
sum_folded a [] = omega arith
sum_folded a (x ∷ xs) =
    ap (λ b. fold_l add_mod b xs) (mod-add-mod a (2 ^ 64) x)
    ∙ sum_folded (a + x) xs
    ∙ omega (arith, sum_by-cons (λ n. n) x xs)

pub sum_of_all : (lanes : List ℕ) → fold_l add_mod 0 lanes ≡ sum_mod lanes
sum_of_all lanes = sum_folded 0 lanes ∙ ap (λ s. s % 2 ^ 64) (zero-add (sum lanes))

-- lists of one length are the same where no place differs
same_by_mask : (one other : List ℕ) → length one ≡ length other → mask_l (zip2 (λ a b. not (a == b)) one other) ≡ 0 → one ≡ other
same_by_mask [] [] same none = refl
same_by_mask [] (y ∷ ys) same none = absurd (omega (arith, same))
same_by_mask (x ∷ xs) [] same none = absurd (omega (arith, same))
same_by_mask (x ∷ xs) (y ∷ ys) same none = elim (cases_eq x y) [
  | inl is ↦
      let rest = same_by_mask xs ys (omega (arith, same)) (omega (arith, none)) in
      rw (is, rest) refl
  | inr other ↦ absurd (omega (arith, rw (ne_eqb x y other) at none))
]

no_mask : (words : List ℕ) → mask_l (zip2 (λ a b. not (a == b)) words words) ≡ 0
no_mask [] = refl
no_mask (x ∷ xs) = rw (eq-eqb x x refl) (omega (arith, no_mask xs))

-- the mask of the places that differ, as the processor gives it, tells whether eight words are the same
pub mask_decides : (one other : List ℕ) → length one ≡ 8 → length other ≡ 8
    → Decides (mask_l (map (top 63) (zip2 (λ a b. cond (not (a == b)) (2 ^ 64 - 1) 0) one other)) % 2 ^ 64 == 0) (one ≡ other)
mask_decides one other eight also =
    let same : length one ≡ length other = eight ∙ sym also in
    let tops = tops_compared w64 (λ a b. not (a == b)) one other in
    let size : length (zip2 (λ a b. not (a == b)) one other) ≤ 64 =
    omega (arith, length-zip2 (λ a b. not (a == b)) one other same, eight) in
    let is : mask_l (map (top 63) (zip2 (λ a b. cond (not (a == b)) (2 ^ 64 - 1) 0) one other)) % 2 ^ 64 ≡ mask_l (zip2 (λ a b. not (a == b)) one other) =
    ap (λ ms. mask_l ms % 2 ^ 64) tops ∙ mask_l-mod (zip2 (λ a b. not (a == b)) one other) 64 size in (
      λ none. same_by_mask one other same (sym is ∙ eqb-true _ 0 none),
      λ equal. rw (is, equal, no_mask other) refl,
    )
