-- The smallest of a list of sizes.
use Rattle.std.proofs.Common.{◌≡◌, refl, ap, ◌∙◌, ℕ, zero, suc, ◌*◌, ◌/◌, ◌<◌, ◌≤◌, List, [], ◌∷◌, length, get_or, sum, arith}
use Rattle.std.specs.Prelude.{min, fold, replicate}
use Rattle.std.proofs.lemmas.List.Sums.{sum_by-cons}
use Rattle.std.proofs.Math.Nat.{min-le_left, min-le_right, mul_comm, mul-le-mul_right, div-mul-le_self}
use Rattle.stack_base.specs.Mapping.{smallest}

-- a fold of minima is at most its start
fold_min_le_start : (size : ℕ) (sizes : List ℕ) → fold min size sizes ≤ size
fold_min_le_start size [] = omega arith
fold_min_le_start size (other ∷ sizes) = omega (arith, fold_min_le_start (min size other) sizes, min-le_left size other)

-- and at most each element
fold_min_le : (size : ℕ) (sizes : List ℕ) (i : ℕ) → i < length sizes → fold min size sizes ≤ get_or sizes i 0
fold_min_le size [] i lt = absurd (omega arith)
fold_min_le size (other ∷ sizes) zero lt = omega (arith, fold_min_le_start (min size other) sizes, min-le_right size other)
fold_min_le size (other ∷ sizes) (suc i) lt = fold_min_le (min size other) sizes i (omega arith)

-- the smallest of some sizes is at most each of them
pub smallest_le : (sizes : List ℕ) (i : ℕ) → i < length sizes → smallest sizes ≤ get_or sizes i 0
unfolding smallest
smallest_le [] i lt = absurd (omega arith)
smallest_le (size ∷ sizes) zero lt = fold_min_le_start size sizes
smallest_le (size ∷ sizes) (suc i) lt = fold_min_le size sizes i (omega arith)

-- so many sizes of at least m have at least this sum
least_times_le : (m : ℕ) (sizes : List ℕ) → ((i : ℕ) → i < length sizes → m ≤ get_or sizes i 0) → length sizes * m ≤ sum sizes
least_times_le m [] least = omega arith
least_times_le m (size ∷ sizes) least =
    omega (arith, sum_by-cons (λ x. x) size sizes, least 0 (omega arith), least_times_le m sizes (λ i lt. least (suc i) (omega arith)))

-- the smallest of some sizes, once for each, is at most their sum
pub smallest_times_le : (sizes : List ℕ) → length sizes * smallest sizes ≤ sum sizes
smallest_times_le sizes = least_times_le (smallest sizes) sizes (smallest_le sizes)

-- and so are whole chunks of it
pub chunks_times_le : (chunk least : ℕ) (sizes : List ℕ) → least ≡ smallest sizes → least / chunk * chunk * length sizes ≤ sum sizes
chunks_times_le chunk least sizes is =
    omega (arith, mul-le-mul_right (length sizes) (div-mul-le_self least chunk), ap (λ x. length sizes * x) is, mul_comm (length sizes) least, smallest_times_le sizes)

-- a fold of minima of one number is that number
fold_min_same : (n size : ℕ) → fold min size (replicate n size) ≡ size
fold_min_same zero size = refl
fold_min_same (suc n) size =
    let same : min size size ≡ size = omega arith in
    ap (λ x. fold min x (replicate n size)) same ∙ fold_min_same n size

-- the smallest of equal sizes is each of them
pub smallest-replicate : (n size : ℕ) → 1 ≤ n → smallest (replicate n size) ≡ size
unfolding smallest
smallest-replicate zero size some = absurd (omega arith)
smallest-replicate (suc n) size some = fold_min_same n size
