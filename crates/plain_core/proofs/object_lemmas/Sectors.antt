-- Sectors by their first words are the sectors of a disk.
use Rattle.std.proofs.Common.{◌≡◌, ◌+◌, ◌*◌, ◌%◌, ◌^◌, ◌++◌, ℕ, zero, suc, List, ◌∷◌, map, take, drop, replicate, refl, ap, ◌∙◌, Option, None, Some, length, arith}
use Rattle.std.specs.List.{range_with_len}
use Rattle.std.proofs.lemmas.List.{take-map, drop-map}
use Rattle.std.proofs.lemmas.List.{map-append, take-append-le, take_all}
use Rattle.stack_base.specs.Words.{sector_from, zero_sector}
use Rattle.stack_base.proofs.SectorLemmas.{sector_from_mod}
use Rattle.bio_records.specs.declared.bio.Bio.{Bio}
use Rattle.model_disks.specs.Moves.{written}
use Rattle.plain_core.specs.objects.Disks.{sector_of, firsts_after}

-- a whole list was overwritten
pub kept_whole : {X : Type 0} (len : ℕ) (xs ys : List X) → length xs ≡ len → take len (xs ++ drop (length xs) ys) ≡ xs
kept_whole len xs ys is = take-append-le len xs (drop (length xs) ys) (omega arith) ∙ take_all len xs (omega arith)

pub zeros : (n : ℕ) → map sector_of (replicate n None) ≡ replicate n zero_sector
zeros zero = refl
zeros (suc n) = ap (λ s. zero_sector ∷ s) (zeros n)

run_is : (word a n : ℕ) → map sector_of (map (λ j. Some ((word + 64 * j) % 2 ^ 64)) (range_with_len a n)) ≡ map (λ j. sector_from (word + 64 * j)) (range_with_len a n)
run_is word a zero = refl
run_is word a (suc n) = rw (sector_from_mod (word + 64 * a)) (ap (λ s. sector_from (word + 64 * a) ∷ s) (run_is word (a + 1) n))

pub written_is : (bio : Bio) (firsts : List (Option ℕ))
    → map sector_of (firsts_after bio.range.start bio.range.len bio.word firsts) ≡ written bio (map sector_of firsts)
unfolding written
written_is bio firsts =
    map-append sector_of (take bio.range.start firsts) _
    ∙ rw (
      map-append sector_of (map (λ j. Some ((bio.word + 64 * j) % 2 ^ 64)) (range_with_len 0 bio.range.len)) (drop (bio.range.start + bio.range.len) firsts),
      run_is bio.word 0 bio.range.len,
      take-map sector_of bio.range.start firsts,
      drop-map sector_of (bio.range.start + bio.range.len) firsts,
    ) refl
