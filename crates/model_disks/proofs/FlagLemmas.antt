-- The flags of the sectors.
use Rattle.std.proofs.Common.{◌≡◌, ◌+◌, ◌*◌, ◌==◌, ◌++◌, ℕ, zero, suc, true, false, not, List, [], ◌∷◌, map, take, drop, replicate, sum, refl, sym, ◌∙◌, arith, inl, inr}
use Rattle.std.specs.List.{range_with_len, list_any}
use Rattle.std.proofs.lemmas.List.{map-append, take-map, drop-map}
use Rattle.std.proofs.lemmas.List.Sums.{sum_by-cons}
use Rattle.std.proofs.lemmas.List.Folds.{list_any-append, list_any_at}
use Rattle.std.proofs.lemmas.Bool.{cases_eq, ne_eqb, or_parts, both_ways}
use Rattle.stack_base.specs.Words.{sector_from, zero_sector, is_written}
use Rattle.stack_base.proofs.SectorLemmas.{is_written_sector_from, is_written_zero_sector}
use Rattle.bio_records.specs.declared.bio.Bio.{Bio}
use Rattle.model_disks.specs.Moves.{written}

-- sectors of data are written
flags_of_data : (f : ℕ → ℕ) (a n : ℕ) → map is_written (map (λ j. sector_from (f j)) (range_with_len a n)) ≡ replicate n true
flags_of_data f a zero = refl
flags_of_data f a (suc n) = rw (is_written_sector_from (f a), flags_of_data f (a + 1) n) refl

-- sectors of zeros are not
pub flags_of_zeros : (n : ℕ) → map is_written (replicate n zero_sector) ≡ replicate n false
flags_of_zeros zero = refl
flags_of_zeros (suc n) = rw (is_written_zero_sector, flags_of_zeros n) refl

-- the flags of an image after a bio
pub flags_of_written : (bio : Bio) (image : List (List ℕ)) → map is_written (written bio image)
    ≡ take bio.range.start (map is_written image) ++ (replicate bio.range.len true ++ drop (bio.range.start + bio.range.len) (map is_written image))
unfolding written
flags_of_written bio image =
    rw (← flags_of_data (λ j. bio.word + 64 * j) 0 bio.range.len) (simp (map-append, take-map, drop-map))

-- a sector that is not written has the sum 0
pub sum_of_unwritten : (sector : List ℕ) → is_written sector ≡ false → sum sector ≡ 0
unfolding is_written
sum_of_unwritten [] none = refl
sum_of_unwritten (word ∷ words) none =
    let holds = λ (w : ℕ). not (w == 0) in
    let parts = or_parts (list_any holds (word ∷ [])) (list_any holds words) (sym (list_any-append holds (word ∷ []) words) ∙ none) in
    elim (cases_eq word 0) [
      | inl none_here ↦ omega (arith, none_here, sum_by-cons (λ n. n) word words, sum_of_unwritten words parts.1)
      | inr more ↦ absurd (both_ways _ parts.0 (list_any_at holds (word ∷ []) 0 0 (omega arith) (rw (ne_eqb word 0 more) refl)))
    ]
