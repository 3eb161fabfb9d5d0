-- What a take into the front of a buffer leaves.
use Rattle.std.proofs.Common.{◌≡◌, ◌∙◌, ℕ, ◌≤◌, List, ◌++◌, length, take, arith}
use Rattle.std.proofs.lemmas.List.{take-append-le, take_all, length-take-le}

-- n bytes that were copied to the front of a buffer are its first n
pub take_filled : (n : ℕ) (from rest : List ℕ) → n ≤ length from → take n (take n from ++ rest) ≡ take n from
take_filled n from rest le =
    let len : length (take n from) ≡ n = length-take-le n from le in
    take-append-le n (take n from) rest (omega (arith, len)) ∙ take_all n (take n from) (omega (arith, len))
