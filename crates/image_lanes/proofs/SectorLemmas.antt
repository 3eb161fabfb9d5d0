-- Sectors, one by one.
use Rattle.std.proofs.Common.{◌≡◌, ◌+◌, ◌*◌, ◌≤◌, ◌++◌, ℕ, zero, suc, Bool, true, false, not, cond, List, [], ◌∷◌, take, drop, refl, sym, ap, ◌∙◌, arith}
use Rattle.std.specs.List.{zip}
use Rattle.std.specs.Bool.{Decides}
use Rattle.std.proofs.lemmas.List.{drop-drop}
use Rattle.std.proofs.lemmas.List.Sums.{sum_by_push}
use Rattle.std.proofs.lemmas.Bool.Decides.{same_from_decides, Decides-eqb}
use Rattle.std.proofs.lemmas.Slice.Eq.{slice_eq-Decides}
use mir.Val.{bool_byte}
use Rattle.image_lanes.specs.Lanes.{equal_words, sectors, unlike_of}

-- a test that tells whether two lists are one is the comparison
pub tells_same : (r : Bool) (one other : List ℕ) → Decides r (one ≡ other) → r ≡ equal_words one other
tells_same r one other decides =
    same_from_decides r (equal_words one other) decides (slice_eq-Decides Decides-eqb one other (equal_words one other) refl)

-- the sectors of two lists side by side, one more of them
pairs_more : (n : ℕ) (one other : List ℕ)
    → zip (sectors (suc n) one) (sectors (suc n) other) ≡ zip (sectors n one) (sectors n other) ++ (take 64 (drop (64 * n) one), take 64 (drop (64 * n) other)) ∷ []
unfolding sectors
pairs_more zero one other = refl
pairs_more (suc n) one other =
    let next : 64 + 64 * n ≡ 64 * suc n = omega arith in
    ap (λ pairs. (take 64 one, take 64 other) ∷ pairs)
    (pairs_more n (drop 64 one) (drop 64 other)
    ∙ rw (drop-drop (64 * n) 64 one, drop-drop (64 * n) 64 other, next) refl)

-- and whether it differs
pub unlike_more : (n : ℕ) (one other : List ℕ)
    → unlike_of (n + 1) one other ≡ unlike_of n one other + cond (not (equal_words (take 64 (drop (64 * n) one)) (take 64 (drop (64 * n) other)))) 1 0
unfolding unlike_of
unlike_more n one other =
    let next : n + 1 ≡ suc n = omega arith in
    rw (next, pairs_more n one other)
    (sum_by_push (λ pair. cond (not (equal_words pair.0 pair.1)) 1 0) (zip (sectors n one) (sectors n other)) (take 64 (drop (64 * n) one), take 64 (drop (64 * n) other)))

-- a test, as a number
pub byte_is : (r b : Bool) → r ≡ b → (bool_byte r ≡ cond b 1 0) × (bool_byte r ≤ 1)
byte_is true b is = (rw (sym is) refl, omega arith)
byte_is false b is = (rw (sym is) refl, omega arith)
