-- The sectors of a list of words.
use Rattle.std.proofs.Common.{◌≡◌, ◌+◌, ◌*◌, ◌<◌, ◌++◌, ℕ, zero, suc, List, [], ◌∷◌, get_or, length, take, drop, refl, sym, ap, ◌∙◌, arith, length-drop}
use Rattle.std.specs.List.{concat}
use Rattle.std.proofs.lemmas.List.{take-append-drop, drop-drop}
use Rattle.image_lanes.specs.Lanes.{sectors}

pub length_sectors : (count : ℕ) (words : List ℕ) → length (sectors count words) ≡ count
unfolding sectors
length_sectors zero words = refl
length_sectors (suc count) words = ap suc (length_sectors count (drop 64 words))

-- the words of all sectors, one sector behind the other
pub concat_sectors : (count : ℕ) (words : List ℕ) → length words ≡ 64 * count → words ≡ concat (sectors count words)
unfolding sectors
concat_sectors zero [] long = refl
concat_sectors zero (x ∷ xs) long = absurd (omega (arith, long))
concat_sectors (suc count) words long =
    let rest : length (drop 64 words) ≡ 64 * count = omega (arith, length-drop 64 words, long) in
    sym (take-append-drop 64 words) ∙ ap (λ s. take 64 words ++ s) (concat_sectors count (drop 64 words) rest)

-- each sector
pub sector_at : (count : ℕ) (words : List ℕ) (place : ℕ) → place < count → get_or (sectors count words) place [] ≡ take 64 (drop (64 * place) words)
unfolding sectors
sector_at zero words place lt = absurd (omega (arith, lt))
sector_at (suc count) words zero lt = refl
sector_at (suc count) words (suc place) lt =
    let on : 64 + 64 * place ≡ 64 * suc place = omega arith in
    sector_at count (drop 64 words) place (omega arith) ∙ rw (drop-drop (64 * place) 64 words, on) refl
