-- Counting over ranges and over flags.
use Rattle.std.proofs.Common.{◌≡◌, ◌+◌, ◌-◌, ◌++◌, ◌<◌, ◌≤◌, ◌&&◌, ℕ, zero, suc, Bool, true, false, List, [], ◌∷◌, length, map, cond, refl, sym, ap, ◌∙◌, arith}
use Rattle.std.specs.List.{count_by, list_all, range_with_len}
use Rattle.std.proofs.lemmas.List.Sums.{sum_by_push, sum_by-append, sum_by-cons}
use Rattle.image_lanes.specs.Lanes.{sectors, sectors_differ, unlike_of}
use Rattle.image_lanes.proofs.SectorLemmas.{unlike_more}
use Rattle.model_disks.specs.Runs.{flag, runs_from}
use Rattle.stack_base.proofs.ListLemmas.{range_joined, range_more}
use Rattle.stack_base.proofs.NumberLemmas.{one_or_none}
use Rattle.model_disks.proofs.WrittenLemmas.{no_runs}

pub count_more : (f : ℕ → Bool) (n : ℕ) → count_by f (range_with_len 0 (n + 1)) ≡ count_by f (range_with_len 0 n) + cond (f n) 1 0
count_more f n = ap (count_by f) (range_more n) ∙ sum_by_push (λ x. cond (f x) 1 0) (range_with_len 0 n) n

-- two tests that say the same along two ranges
pub counts_along : (f g : ℕ → Bool) (a b n : ℕ) → ((i : ℕ) → i < n → f (a + i) ≡ g (b + i)) → count_by f (range_with_len a n) ≡ count_by g (range_with_len b n)
counts_along f g a b zero same = refl
counts_along f g a b (suc n) same =
    let here : f a ≡ g b = ap f (omega arith) ∙ same 0 (omega arith) ∙ ap g (omega arith) in
    omega (
      arith,
      sum_by-cons (λ x. cond (f x) 1 0) a (range_with_len (a + 1) n),
      sum_by-cons (λ x. cond (g x) 1 0) b (range_with_len (b + 1) n),
      ap {B = ℕ} (λ (t : Bool). cond t 1 0) here,
      counts_along f g (a + 1) (b + 1) n (λ i lt. ap f (omega arith) ∙ same (i + 1) (omega (arith, lt)) ∙ ap g (omega arith)),
    )

pub count_on : (f : ℕ → Bool) (m n : ℕ) → count_by f (range_with_len 0 (m + n)) ≡ count_by f (range_with_len 0 m) + count_by f (range_with_len m n)
count_on f m n =
    ap (count_by f) (range_joined 0 m n ∙ ap (λ (k : ℕ). range_with_len 0 m ++ range_with_len k n) (omega arith))
    ∙ sum_by-append (λ x. cond (f x) 1 0) (range_with_len 0 m) (range_with_len m n)

pub count_le : (f : ℕ → Bool) (a n : ℕ) → count_by f (range_with_len a n) ≤ n
count_le f a zero = omega arith
count_le f a (suc n) = omega (arith, sum_by-cons (λ x. cond (f x) 1 0) a (range_with_len (a + 1) n), one_or_none (f a), count_le f (a + 1) n)

-- the flags that are set are the numbers that pass
pub count_flags : (f : ℕ → Bool) (xs : List ℕ) → count_by (λ (set : Bool). set) (map f xs) ≡ count_by f xs
count_flags f [] = refl
count_flags f (x ∷ xs) =
    omega (
      arith,
      sum_by-cons (λ (set : Bool). cond set 1 0) (f x) (map f xs),
      sum_by-cons (λ x. cond (f x) 1 0) x xs,
      count_flags f xs,
    )

-- none is set, or one is
pub count_none : (flags : List Bool) → ((x : ℕ) → x < length flags → flag flags x ≡ false) → count_by (λ (set : Bool). set) flags ≡ 0
count_none [] none = refl
count_none (f ∷ fs) none =
    omega (
      arith,
      sum_by-cons (λ (set : Bool). cond set 1 0) f fs,
      ap {B = ℕ} (λ (t : Bool). cond t 1 0) (none 0 (omega arith)),
      count_none fs (λ x lt. none (suc x) (omega (arith, lt))),
    )

pub count_some : (flags : List Bool) (x : ℕ) → flag flags x ≡ true → 1 ≤ count_by (λ (set : Bool). set) flags
count_some [] x set = cc set
count_some (f ∷ fs) zero set =
    omega (arith, sum_by-cons (λ (set : Bool). cond set 1 0) f fs, ap {B = ℕ} (λ (t : Bool). cond t 1 0) set)
count_some (f ∷ fs) (suc x) set = omega (arith, sum_by-cons (λ (set : Bool). cond set 1 0) f fs, count_some fs x set)

-- the first number of a range and then the others, of which all pass
pub all_on : (f : ℕ → Bool) (a n : ℕ) → a < n → list_all f (range_with_len a (n - a)) ≡ (f a && list_all f (range_with_len (a + 1) (n - (a + 1))))
all_on f a n lt =
    let one : n - a ≡ suc (n - (a + 1)) = omega (arith, lt) in
    ap (λ (k : ℕ). list_all f (range_with_len a k)) one

-- the first of them passes
pub all_rest : (f : ℕ → Bool) (a n : ℕ) → a < n → f a ≡ true → list_all f (range_with_len a (n - a)) ≡ list_all f (range_with_len (a + 1) (n - (a + 1)))
all_rest f a n lt passes = all_on f a n lt ∙ ap (λ (b : Bool). b && list_all f (range_with_len (a + 1) (n - (a + 1)))) passes

-- where no flag is set there are no runs
pub none_counted : (flags : List Bool) → count_by (λ (set : Bool). set) flags ≡ 0 → runs_from flags 0 ≡ []
none_counted flags none = no_runs flags 0 (omega arith) (λ x le lt. unset x (flag flags x) refl) where
  unset : (x : ℕ) (b : Bool) → flag flags x ≡ b → flag flags x ≡ false
  unset x true is = absurd (omega (arith, none, count_some flags x is))
  unset x false is = is

-- the sectors that differ are counted one by one
pub unlike_counts : (n : ℕ) (one other : List ℕ) → unlike_of n one other ≡ count_by (sectors_differ one other) (range_with_len 0 n)
unfolding unlike_of sectors
unlike_counts zero one other = refl
unlike_counts (suc n) one other =
    let next : suc n ≡ n + 1 = omega arith in
    ap (λ k. unlike_of k one other) next
    ∙ unlike_more n one other
    ∙ ap (λ (c : ℕ). c + cond (sectors_differ one other n) 1 0) (unlike_counts n one other)
    ∙ sym (count_more (sectors_differ one other) n)
    ∙ ap (λ k. count_by (sectors_differ one other) (range_with_len 0 k)) (sym next)
