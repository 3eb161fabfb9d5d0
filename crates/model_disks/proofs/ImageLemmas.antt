-- An image: its pages, and the flags of its sectors.
use Rattle.std.proofs.Common.{◌≡◌, ◌+◌, ◌*◌, ◌/◌, ◌%◌, ◌^◌, ◌-◌, ◌<◌, ◌≤◌, ◌++◌, ℕ, zero, suc, Bool, true, false, List, [], get_or, map, length, take, drop, replicate, sum, sum_by, refl, sym, ap, ◌∙◌, arith, length-append, length-drop}
use Rattle.std.specs.List.{concat}
use Rattle.std.proofs.lemmas.List.{length-replicate, get_or-map, get_or_append_left, get_or-append_right, get_or-replicate, length-take-le, append_assoc, take-append-le, drop-append-le, drop-take, take-take}
use Rattle.std.proofs.lemmas.List.FromFn.{sum_by-map-range_with_len_more}
use Rattle.stack_base.specs.Words.{zero_sector, is_written}
use Rattle.stack_base.specs.declared.ids.Range.{Range}
use Rattle.bio_records.specs.declared.bio.Bio.{Bio}
use Rattle.image_lanes.specs.Lanes.{sum_mod, sectors}
use Rattle.model_disks.specs.Disks.{sum_of_words}
use Rattle.model_disks.specs.Kept.{grown, marked}
use Rattle.model_disks.specs.Moves.{written}
use Rattle.model_disks.specs.Paged.{word_place, sector_in, sector_words, paged, ArePaged, AreFilled, AreSame, AreInOrder, FlagsAreRight, IsImage}
use Rattle.model_disks.proofs.SectorLemmas.{length_sectors, concat_sectors, sector_at}
use Rattle.model_disks.proofs.GrownLemmas.{length_grown, grown_twice}
use Rattle.model_disks.proofs.FlagLemmas.{flags_of_zeros, flags_of_written, sum_of_unwritten}
use Rattle.model_disks.proofs.PageLemmas.{place_is, words_end, words_there}
use Rattle.model_disks.proofs.PageWriteLemmas.{length_paged, paged_at, is_paged, same_image, written_image}

-- the flag of a sector
pub noted_at : (count room flags_room : ℕ) (words slots owners : List ℕ) (flags : List Bool)
    → IsImage count room flags_room words slots owners flags → FlagsAreRight words slots flags
unfolding grown
noted_at count room flags_room words slots owners flags image x lt =
    let here : x < count = omega (arith, lt, image.within) in
    sym (get_or_append_left flags (replicate (count - length flags) false) false x lt)
    ∙ ap (λ (fs : List Bool). get_or fs x false) (sym image.noted)
    ∙ get_or-map is_written (paged count words slots) x [] false (omega (arith, here, length_paged count words slots))
    ∙ ap is_written (paged_at count words slots x here)

-- the sum of one more sector
sum_on : (words slots : List ℕ) (place : ℕ) → sum_by sum (paged (place + 1) words slots) ≡ sum_by sum (paged place words slots) + sum (sector_words words slots place)
unfolding paged
sum_on words slots place = sum_by-map-range_with_len_more sum (sector_words words slots) 0 place place (omega arith)

pub sum_more : (words slots : List ℕ) (place : ℕ)
    → sum_of_words (paged (place + 1) words slots) ≡ (sum_of_words (paged place words slots) + sum_mod (sector_words words slots place)) % 2 ^ 64
sum_more words slots place = omega (arith, sum_on words slots place)

-- the sum of sectors of which those behind the first are not written
sum_of_rest : (words slots : List ℕ) (n more : ℕ) → ((x : ℕ) → n ≤ x → x < n + more → is_written (sector_words words slots x) ≡ false)
    → sum_by sum (paged (n + more) words slots) ≡ sum_by sum (paged n words slots)
sum_of_rest words slots n zero none = ap (λ k. sum_by sum (paged k words slots)) (omega arith)
sum_of_rest words slots n (suc more) none =
    let next : n + suc more ≡ n + more + 1 = omega arith in
    ap (λ k. sum_by sum (paged k words slots)) next
    ∙ omega (
      arith,
      sum_on words slots (n + more),
      sum_of_unwritten (sector_words words slots (n + more)) (none (n + more) (omega arith) (omega arith)),
      sum_of_rest words slots n more (λ x le lt. none x le (omega (arith, lt))),
    )

-- which are those that have flags that are not set
pub sum_of_unset : (words slots : List ℕ) (flags : List Bool) (n stop : ℕ) → FlagsAreRight words slots flags → n ≤ stop → stop ≤ length flags
    → ((x : ℕ) → n ≤ x → x < stop → get_or flags x false ≡ false) → sum_of_words (paged stop words slots) ≡ sum_of_words (paged n words slots)
sum_of_unset words slots flags n stop noted ordered within unset =
    let all : n + (stop - n) ≡ stop = omega (arith, ordered) in
    ap (λ (k : ℕ). sum_of_words (paged k words slots)) (sym all)
    ∙ ap (λ (s : ℕ). s % 2 ^ 64) (sum_of_rest words slots n (stop - n)
    (λ x le lt. sym (noted x (omega (arith, lt, all, within))) ∙ unset x le (omega (arith, lt, all))))

module _ (count room flags_room : ℕ) (words slots owners : List ℕ) (flags : List Bool) (image : IsImage count room flags_room words slots owners flags) where
  -- behind the flags no sector is written
  unwritten : (x : ℕ) → length flags ≤ x → x < count → is_written (sector_words words slots x) ≡ false
  unfolding grown
  unwritten x past lt =
      sym (ap is_written (paged_at count words slots x lt))
      ∙ sym (get_or-map is_written (paged count words slots) x [] false (omega (arith, lt, length_paged count words slots)))
      ∙ ap (λ (fs : List Bool). get_or fs x false) image.noted
      ∙ get_or-append_right flags (replicate (count - length flags) false) (length flags) x false refl past
      ∙ get_or-replicate (count - length flags) (x - length flags) false false (omega (arith, lt, past))

  -- so the sum of the image is that of the sectors that have flags
  pub sum_of_image : (shown : List (List ℕ)) (lent : List Bool) → paged count words slots ≡ shown → lent ≡ flags
      → sum_of_words (paged (length lent) words slots) ≡ sum_of_words shown
  sum_of_image shown lent is lends =
      let all : length flags + (count - length flags) ≡ count = omega (arith, image.within) in
      ap (λ (fs : List Bool). sum_of_words (paged (length fs) words slots)) lends
      ∙ ap (λ (s : ℕ). s % 2 ^ 64) (sym (sum_of_rest words slots (length flags) (count - length flags) (λ x past lt. unwritten x past (omega (arith, lt, all)))))
      ∙ ap (λ (k : ℕ). sum_of_words (paged k words slots)) all
      ∙ ap sum_of_words is

  -- and its flags are these
  pub flags_of_image : (shown : List (List ℕ)) (lent : List Bool) → paged count words slots ≡ shown → lent ≡ flags
      → map is_written shown ≡ lent ++ replicate (count - length flags) false
  unfolding grown
  flags_of_image shown lent is lends =
      ap (map is_written) (sym is) ∙ image.noted ∙ ap (λ (fs : List Bool). fs ++ replicate (count - length flags) false) (sym lends)

-- a new image
pub zeros_are : (count : ℕ) (words slots : List ℕ) → words ≡ [] → paged count words slots ≡ replicate count zero_sector
zeros_are count words slots none =
    sym (is_paged count words slots (replicate count zero_sector) (length-replicate count zero_sector)
    (λ x lt. get_or-replicate count x zero_sector [] lt ∙ sym (words_end words (word_place slots x) (omega (arith, ap length none)))))

pub zeros_kept : (count room flags_room : ℕ) (words slots owners : List ℕ) (flags : List Bool) → ArePaged room words slots owners → words ≡ [] → flags ≡ []
    → count ≤ 16 * length slots → count ≤ flags_room → IsImage count room flags_room words slots owners flags
unfolding grown
zeros_kept count room flags_room words slots owners flags pages none unset all fits = record {
  kept = pages;
  all = all;
  noted = ap (map is_written) (zeros_are count words slots none)
      ∙ flags_of_zeros count
      ∙ ap (λ k. replicate k false) (omega (arith, ap length unset))
      ∙ sym (ap (λ (fs : List Bool). fs ++ replicate (count - length flags) false) unset);
  within = omega (arith, ap length unset);
  fits = fits;
}

-- as many flags as there were
pub length_marked : (range : Range) (flags : List Bool) → range.start + range.len ≤ length flags → length (marked range flags) ≡ length flags
length_marked range flags within = omega (
  arith,
  length-append (take range.start flags) (replicate range.len true ++ drop (range.start + range.len) flags),
  length-append (replicate range.len true) (drop (range.start + range.len) flags),
  length-take-le range.start flags (omega arith),
  length-replicate range.len true,
  length-drop (range.start + range.len) flags,
)

-- flags that are set are set in a list that has grown
marked_front : (range : Range) (all : ℕ) (flags : List Bool) → range.start + range.len ≤ length flags
    → grown false all (marked range flags) ≡ marked range (grown false all flags)
unfolding grown
marked_front range all flags fits =
    let start = range.start in
    let end = range.start + range.len in
    let run = replicate range.len true in
    let rest = replicate (all - length flags) false in
    ap (λ k. marked range flags ++ replicate (all - k) false) (length_marked range flags fits)
    ∙ append_assoc (take start flags) (run ++ drop end flags) rest
    ∙ ap (λ (fs : List Bool). take start flags ++ fs)
    (append_assoc run (drop end flags) rest ∙ ap (λ (fs : List Bool). run ++ fs) (sym (drop-append-le end flags rest fits)))
    ∙ ap (λ (fs : List Bool). fs ++ (run ++ drop end (flags ++ rest))) (sym (take-append-le start flags rest (omega arith)))

pub marked_grown : (range : Range) (all : ℕ) (flags : List Bool) → range.start + range.len ≤ all
    → grown false all (marked range (grown false (range.start + range.len) flags)) ≡ marked range (grown false all flags)
marked_grown range all flags fits =
    let end = range.start + range.len in
    marked_front range all (grown false end flags) (omega (arith, length_grown false end flags))
    ∙ ap (marked range) (grown_twice false all end flags fits)

-- an image after a bio
pub after_write : (bio : Bio) (shown : List (List ℕ)) (count room flags_room new_room new_flags_room : ℕ)
    (words slots owners new new_slots new_owners : List ℕ) (flags new_flags : List Bool)
    → IsImage count room flags_room words slots owners flags → paged count words slots ≡ shown
    → bio.range.start + bio.range.len ≤ length shown
    → ArePaged new_room new new_slots new_owners
    → AreFilled bio.range.start bio.range.len bio.word words slots new new_slots
    → new_flags ≡ marked bio.range (grown false (bio.range.start + bio.range.len) flags) → flags_room ≤ new_flags_room
    → IsImage count new_room new_flags_room new new_slots new_owners new_flags × (paged count new new_slots ≡ written bio shown)
after_write bio shown count room flags_room new_room new_flags_room words slots owners new new_slots new_owners flags new_flags image is fits pages filled set more =
    let end = bio.range.start + bio.range.len in
    let within : end ≤ count = omega (arith, fits, ap length is, length_paged count words slots) in
    let after = written_image bio count words slots new new_slots image.all within filled in
    let long = length_grown false end flags in (
      record {
        kept = pages;
        all = omega (arith, image.all, filled.size);
        noted = ap (map is_written) after
            ∙ flags_of_written bio (paged count words slots)
            ∙ ap (marked bio.range) image.noted
            ∙ sym (marked_grown bio.range count flags within)
            ∙ ap (grown false count) (sym set);
        within = omega (arith, ap length set, length_marked bio.range (grown false end flags) (omega (arith, long)), long, image.within, within);
        fits = omega (arith, image.fits, more);
      },
      after ∙ ap (written bio) is,
    )

-- there is room for what is written within the image
pub room_for : (bio : Bio) (count room flags_room : ℕ) (words slots owners : List ℕ) (flags : List Bool) (shown : List (List ℕ))
    → IsImage count room flags_room words slots owners flags → paged count words slots ≡ shown → bio.range.start + bio.range.len ≤ length shown
    → (bio.range.start + bio.range.len ≤ 16 * length slots) × (bio.range.start + bio.range.len ≤ flags_room)
room_for bio count room flags_room words slots owners flags shown image is fits =
    let within : bio.range.start + bio.range.len ≤ count = omega (arith, fits, ap length is, length_paged count words slots) in
    (omega (arith, within, image.all), omega (arith, within, image.fits))

-- an image whose pages are the same is the same
pub after_settling : (shown : List (List ℕ)) (count room flags_room new_room : ℕ) (words slots owners new new_slots new_owners : List ℕ) (flags : List Bool)
    → IsImage count room flags_room words slots owners flags → paged count words slots ≡ shown → ArePaged new_room new new_slots new_owners
    → AreSame words slots new new_slots → IsImage count new_room flags_room new new_slots new_owners flags × (paged count new new_slots ≡ shown)
after_settling shown count room flags_room new_room words slots owners new new_slots new_owners flags image is pages same =
    let stays = same_image count words slots new new_slots image.all same in (
      record {
        kept = pages;
        all = omega (arith, image.all, same.size);
        noted = ap (map is_written) (sym stays) ∙ image.noted;
        within = image.within;
        fits = image.fits;
      },
      sym stays ∙ is,
    )

-- pages in their order are the words of the sectors, one sector behind the other
pub settled_words : (count : ℕ) (words slots : List ℕ) → AreInOrder slots (length slots) → count ≤ 16 * length slots
    → length words ≡ 1024 * length slots → take (64 * count) words ≡ concat (paged count words slots)
settled_words count words slots settled all full =
    let front = take (64 * count) words in
    let long : length front ≡ 64 * count = length-take-le (64 * count) words (omega (arith, all, full)) in
    concat_sectors count front long
    ∙ ap concat (is_paged count words slots (sectors count front) (length_sectors count front) (λ x lt.
    let parts : 64 * count ≡ 64 * x + (64 * count - 64 * x) = omega (arith, lt) in
    let there : 64 * x ≡ word_place slots x = omega (arith, place_is slots x (x / 16) (settled (x / 16) (omega (arith, lt, all)))) in
    sector_at count front x lt
    ∙ ap (λ n. take 64 (drop (64 * x) (take n words))) parts
    ∙ ap (take 64) (drop-take (64 * x) (64 * count - 64 * x) words)
    ∙ take-take 64 (64 * count - 64 * x) (drop (64 * x) words) (omega (arith, lt))
    ∙ words_there words (64 * x) (omega (arith, lt, all, full))
    ∙ ap (sector_in words) there))

-- a sector of the image is in its pages
pub sector_known : (count room flags_room : ℕ) (words slots owners : List ℕ) (flags : List Bool) (shown : List (List ℕ)) (at : ℕ)
    → IsImage count room flags_room words slots owners flags → paged count words slots ≡ shown → at < length shown → at < 16 * length slots
sector_known count room flags_room words slots owners flags shown at image is lt =
    omega (arith, lt, ap length is, length_paged count words slots, image.all)

pub sector_shown : (count : ℕ) (words slots : List ℕ) (shown : List (List ℕ)) (at : ℕ) → paged count words slots ≡ shown → at < length shown
    → sector_words words slots at ≡ get_or shown at []
sector_shown count words slots shown at is lt =
    sym (paged_at count words slots at (omega (arith, lt, ap length is, length_paged count words slots)))
    ∙ ap (λ (sectors : List (List ℕ)). get_or sectors at []) is

pub count_shown : (count : ℕ) (words slots : List ℕ) (shown : List (List ℕ)) → paged count words slots ≡ shown → count ≡ length shown
count_shown count words slots shown is = sym (length_paged count words slots) ∙ ap length is
