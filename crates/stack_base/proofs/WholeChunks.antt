-- The whole chunks of members together.
use Rattle.std.proofs.Common.{◌≡◌, ℕ, ◌+◌, ◌*◌, ◌/◌, ◌≤◌, List, [], ◌∷◌, sum, sum_by, ap, ◌∙◌, arith}
use Rattle.std.proofs.lemmas.List.Sums.{sum_by-cons}
use Rattle.std.proofs.Math.Nat.{mul-div-le, mul-add, div-le_self}
use Rattle.stack_base.specs.Mapping.{whole_chunks}

-- their sectors are no more than those of the members
pub whole_chunks_le : (chunk : ℕ) (sizes : List ℕ) → chunk * sum (whole_chunks chunk sizes) ≤ sum sizes
whole_chunks_le chunk [] = omega arith
whole_chunks_le chunk (size ∷ sizes) =
    let rest = sum (whole_chunks chunk sizes) in
    let count : sum (whole_chunks chunk (size ∷ sizes)) ≡ size / chunk + rest = sum_by-cons (λ x. x) (size / chunk) (whole_chunks chunk sizes) in
    let parts : chunk * sum (whole_chunks chunk (size ∷ sizes)) ≡ chunk * (size / chunk) + chunk * rest =
    ap (λ x. chunk * x) count ∙ mul-add chunk (size / chunk) rest in
    omega (arith, sum_by-cons (λ x. x) size sizes, parts, mul-div-le size chunk, whole_chunks_le chunk sizes)

-- nor is their number
pub chunk_count_le : (chunk : ℕ) (sizes : List ℕ) → sum_by (λ size. size / chunk) sizes ≤ sum sizes
chunk_count_le chunk [] = omega arith
chunk_count_le chunk (size ∷ sizes) =
    omega (
      arith,
      sum_by-cons (λ x. x) size sizes,
      sum_by-cons (λ x. x / chunk) size sizes,
      div-le_self size chunk,
      chunk_count_le chunk sizes,
    )
