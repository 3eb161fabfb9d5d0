-- Blocks and stretches of equal length: where the one that holds a sector begins.
use Rattle.std.proofs.Common.{◌≡◌, ℕ, ◌+◌, ◌-◌, ◌*◌, ◌/◌, ◌%◌, ◌<◌, ◌≤◌, ap, ◌∙◌, arith}
use Rattle.std.proofs.lemmas.Nat.{div-add-mod', div-mul-add, mod-mul-add, le-div, mod_below}
use Rattle.std.proofs.Math.Nat.{mul-le-mul_right, div-eq_of_lt, add-div_right}

-- a sector further on in the block of r is in the same block, by so much further behind its start
pub same_block : (c r s : ℕ) → 1 ≤ c → r ≤ s → s < (r - r % c) + c → (s / c ≡ r / c) × (s % c ≡ r % c + (s - r))
same_block c r s pos le lt =
    let whole : r / c * c + r % c ≡ r = div-add-mod' r c in
    let below : r % c < c = mod_below r c pos in
    let short : r % c + (s - r) < c = omega arith in
    let place : s ≡ r / c * c + (r % c + (s - r)) = omega arith in
    (ap (λ x. x / c) place ∙ div-mul-add (r / c) c (r % c + (s - r)) short, ap (λ x. x % c) place ∙ mod-mul-add (r / c) c (r % c + (s - r)) short)

-- a sector behind the block of r is in a block that begins behind it
pub later_block : (c r s : ℕ) → 1 ≤ c → (r - r % c) + c ≤ s → (r - r % c) + c ≤ s - s % c
later_block c r s pos le =
    let whole : r / c * c + r % c ≡ r = div-add-mod' r c in
    let other : s / c * c + s % c ≡ s = div-add-mod' s c in
    let count : r / c + 1 ≤ s / c = le-div (r / c + 1) s c pos (omega arith) in
    omega (arith, mul-le-mul_right c count)

-- a stretch of m sectors from b on begins at b
pub stretch_here : (m b s : ℕ) → b ≤ s → s < b + m → b + (s - b) / m * m ≡ b
stretch_here m b s le lt =
    let short : s - b < m = omega arith in
    rw (div-eq_of_lt short) (omega arith)

-- stretches that are counted from the second on begin where they do from the first
pub stretch_later : (m b s : ℕ) → 1 ≤ m → b + m ≤ s → b + (s - b) / m * m ≡ (b + m) + (s - (b + m)) / m * m
stretch_later m b s pos le =
    let ends : s - b ≡ (s - (b + m)) + m = omega arith in
    let count : (s - b) / m ≡ (s - (b + m)) / m + 1 = ap (λ x. x / m) ends ∙ add-div_right (s - (b + m)) pos in
    rw count (omega arith)
