-- The definitions at small lists.
use Rattle.std.proofs.Common.{◌≡◌, ◌-◌, ◌^◌, ◌++◌, [], ◌∷◌, ℕ, List, replicate, refl, false}
use Rattle.image_lanes.specs.Lanes.{counting, sum_mod, equal_words, sectors, unlike_of, unlike}

wraps : counting (2 ^ 64 - 2) 4 ≡ 18446744073709551614 ∷ 18446744073709551615 ∷ 0 ∷ 1 ∷ []
unfolding counting
wraps = refl

sum_wraps : sum_mod (counting (2 ^ 64 - 2) 65) ≡ 1950
unfolding counting
sum_wraps = refl

no_words : sum_mod [] ≡ 0
no_words = refl

longer_is_other : equal_words (1 ∷ []) (1 ∷ 0 ∷ []) ≡ false
longer_is_other = refl

one_sector : List ℕ
one_sector = replicate 3 0 ++ (1 ∷ 0 ∷ 1 ∷ replicate 122 0)

in_one_sector : unlike (replicate 128 0) one_sector ≡ 1
unfolding unlike_of sectors one_sector
in_one_sector = refl

two_sectors : List ℕ
two_sectors = replicate 3 0 ++ (1 ∷ replicate 60 0 ++ (1 ∷ replicate 63 0))

in_two_sectors : unlike (replicate 128 0) two_sectors ≡ 2
unfolding unlike_of sectors two_sectors
in_two_sectors = refl
