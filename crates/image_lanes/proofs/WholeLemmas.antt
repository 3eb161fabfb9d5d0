-- From the part that was looked at to one more group of it, and to the whole list.
use Rattle.std.proofs.Common.{◌≡◌, ◌+◌, ◌-◌, ◌%◌, ◌^◌, ◌≤◌, ◌++◌, ℕ, List, length, take, drop, sum_by, [], sym, ap, ◌∙◌, arith, length-drop}
use Rattle.std.specs.Simd.Lanes.{chunk}
use Rattle.std.proofs.Math.Seq.{take-add}
use Rattle.std.proofs.lemmas.List.{take_all, drop_all, append-nil, take-append-drop, length-take-le}
use Rattle.std.proofs.lemmas.List.Sums.{sum_by-append}
use Rattle.image_lanes.specs.Lanes.{counting, sum_mod}
use Rattle.image_lanes.proofs.CountingLemmas.{counting_mod, counting_on}

-- what a slice from a place on has
pub rest_is : (words : List ℕ) (at m : ℕ) → m ≡ length words - at → take m (drop at words) ≡ drop at words
rest_is words at m is = take_all m (drop at words) (omega (arith, length-drop at words))

-- the words are filled where a front of them is, and the rest
pub filled : (words run : List ℕ) (first at m : ℕ) → at ≤ length words → m ≡ length words - at → take at words ≡ counting first at
    → run ≡ counting ((first + at) % 2 ^ 64) (length (take m (drop at words)))
    → take at words ++ (run ++ drop m (drop at words)) ≡ counting first (length words)
filled words run first at m within is front behind =
    let count : length (take m (drop at words)) ≡ m = length-take-le m (drop at words) (omega (arith, length-drop at words)) in
    let none : drop m (drop at words) ≡ [] = drop_all m (drop at words) (omega (arith, length-drop at words)) in
    let all : at + m ≡ length words = omega arith in
    rw (none, append-nil, behind, count, counting_mod (first + at) m, front) (counting_on first at m ∙ ap (counting first) all)

-- the sum of one more group
pub more_summed : (words : List ℕ) (at : ℕ) → sum_mod (take (at + 8) words) ≡ (sum_mod (take at words) + sum_mod (chunk at 8 words)) % 2 ^ 64
more_summed words at =
    ap sum_mod (take-add at 8 words) ∙ omega (arith, sum_by-append (λ n. n) (take at words) (chunk at 8 words))

-- and of the whole list
pub all_summed : (words : List ℕ) (at m : ℕ) → m ≡ length words - at → (sum_mod (take at words) + sum_mod (take m (drop at words))) % 2 ^ 64 ≡ sum_mod words
all_summed words at m is =
    rw (rest_is words at m is)
    (omega (arith, sum_by-append (λ n. n) (take at words) (drop at words), ap (sum_by (λ n. n)) (take-append-drop at words)))

-- one more group is the same
pub more_same : (one other : List ℕ) (at : ℕ) → take at one ≡ take at other → chunk at 8 one ≡ chunk at 8 other → take (at + 8) one ≡ take (at + 8) other
more_same one other at front group = take-add at 8 one ∙ rw (front, group) (sym (take-add at 8 other))

-- the whole lists are
pub all_same : (one other : List ℕ) (at m n : ℕ) → m ≡ length one - at → n ≡ length other - at → take at one ≡ take at other
    → take m (drop at one) ≡ take n (drop at other) → one ≡ other
all_same one other at m n is also front rest =
    sym (take-append-drop at one)
    ∙ rw (front, sym (rest_is one at m is) ∙ rest ∙ rest_is other at n also) (take-append-drop at other)
