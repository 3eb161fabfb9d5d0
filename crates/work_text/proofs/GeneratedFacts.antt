-- What the words of the number 1 make, computed from the generator before the first of them.
use Rattle.std.proofs.Common.{◌≡◌, [], ◌∷◌, refl}
use Rattle.rand_pcg.specs.Lcg.{Lcg}
use Rattle.work_text.specs.Generated.{behind_all, chunk_in, counts, longest_in, mirror_size, runs}

abbrev first : Lcg
first = record { state = 12386615718981422784; increment = 3348653109977783433 }

limits : (longest_in first ∷ longest_in (behind_all 1 first) ∷ longest_in (behind_all 2 first) ∷ longest_in (behind_all 3 first) ∷ []) ≡ 200 ∷ 52 ∷ 206 ∷ 132 ∷ []
limits = refl

chunks : (chunk_in (behind_all 4 first) ∷ chunk_in (behind_all 5 first) ∷ []) ≡ 224 ∷ 72 ∷ []
chunks = refl

sectors : mirror_size first ≡ 65408
sectors = refl

writes : runs (mirror_size first) 0 (counts 4 (behind_all 6 first))
    ≡ record { start = 0; count = 313 } ∷ record { start = 313; count = 449 } ∷ record { start = 762; count = 469 } ∷ record { start = 1231; count = 409 } ∷ []
writes = refl

-- the third does not fit
cut_off : runs 762 0 (counts 4 (behind_all 6 first)) ≡ record { start = 0; count = 313 } ∷ record { start = 313; count = 449 } ∷ []
cut_off = refl
