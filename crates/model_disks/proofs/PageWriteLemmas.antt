-- Sectors that are written in pages, and those that are lent from them.
use Rattle.std.proofs.Common.{◌≡◌, ◌⊎◌, ◌+◌, ◌-◌, ◌*◌, ◌/◌, ◌%◌, ◌^◌, ◌<◌, ◌≤◌, ◌++◌, ℕ, List, [], get_or, length, take, drop, map, inl, inr, refl, sym, ap, ◌∙◌, arith, length-append, length-drop}
use Rattle.std.specs.List.{range_with_len}
use Rattle.std.proofs.lemmas.Bool.{cases_lt, cases_eq}
use Rattle.std.proofs.lemmas.List.{length-take-le, get_or-take, get_or-drop, get_or_append_left, get_or-append_right, drop-drop, drop-take, take-take}
use Rattle.std.proofs.lemmas.List.FromFn.{length-map-range_with_len, get_or-map-range_with_len, fill_by_all}
use Rattle.stack_base.specs.Words.{sector_from}
use Rattle.bio_records.specs.declared.bio.Bio.{Bio}
use Rattle.image_lanes.specs.Lanes.{counting}
use Rattle.image_lanes.proofs.CountingLemmas.{length_counting, word_of_counting}
use Rattle.model_disks.specs.Moves.{written}
use Rattle.model_disks.specs.Paged.{number_at, sector_in, word_place, sector_words, paged, put_words, AreInverse, AreSame, AreFilled}
use Rattle.model_disks.proofs.MoveLemmas.{bios_write_their_sectors}
use Rattle.model_disks.proofs.PageLemmas.{same_words, words_count, words_there, place_is}

-- words of a run that is put_words among others
module _ (from count first : ℕ) (words : List ℕ) (fits : from + count ≤ length words) where
  length_front : length (take from words) ≡ from
  length_front = length-take-le from words (omega (arith, fits))

  pub length_put : length (put_words from count first words) ≡ length words
  length_put = omega (
    arith,
    fits,
    length-append (take from words) (counting first count ++ drop (from + count) words),
    length-append (counting first count) (drop (from + count) words),
    length_front,
    length_counting first count,
    length-drop (from + count) words,
  )

  pub word_put : (i : ℕ) → i < count → number_at (put_words from count first words) (from + i) ≡ (first + i) % 2 ^ 64
  word_put i lt =
      let there : from + i - from ≡ i = omega arith in
      get_or-append_right (take from words) (counting first count ++ drop (from + count) words) from (from + i) 0 length_front (omega arith)
      ∙ ap (number_at (counting first count ++ drop (from + count) words)) there
      ∙ get_or_append_left (counting first count) (drop (from + count) words) 0 i (omega (arith, lt, length_counting first count))
      ∙ word_of_counting first count i 0 lt

  pub word_kept : (k : ℕ) → (k < from) ⊎ (from + count ≤ k) → number_at (put_words from count first words) k ≡ number_at words k
  word_kept k (inl before) =
      get_or_append_left (take from words) (counting first count ++ drop (from + count) words) 0 k (omega (arith, before, length_front))
      ∙ get_or-take from words k 0 before
  word_kept k (inr behind) =
      let there : from + count + (k - from - count) ≡ k = omega (arith, behind) in
      get_or-append_right (take from words) (counting first count ++ drop (from + count) words) from k 0 length_front (omega (arith, behind))
      ∙ get_or-append_right (counting first count) (drop (from + count) words) count (k - from) 0 (length_counting first count) (omega (arith, behind))
      ∙ get_or-drop (from + count) words (k - from - count) 0
      ∙ ap (number_at words) there

-- sectors that are written within a page
pub filled_page : (slots owners words : List ℕ) (start len first slot : ℕ) → AreInverse slots owners → start < 16 * length slots
    → start % 16 + len ≤ 16 → number_at slots (start / 16) ≡ slot → 1024 * slot + 1024 ≤ length words
    → AreFilled start len first words slots (put_words (1024 * slot + 64 * (start % 16)) (64 * len) first words) slots
filled_page slots owners words start len first slot inverse within short at kept =
    let from = 1024 * slot + 64 * (start % 16) in
    let new = put_words from (64 * len) first words in
    let fits : from + 64 * len ≤ length words = omega (arith, short, kept) in
    record {
      size = refl;
      inside = λ j lt.
          let page : (start + j) / 16 ≡ start / 16 = omega (arith, lt, short) in
          let there : 1024 * slot + 64 * ((start + j) % 16) ≡ from + 64 * j = omega (arith, lt, short) in
          ap (sector_in new) (place_is slots (start + j) slot (ap (number_at slots) page ∙ at) ∙ there)
          ∙ words_count new (from + 64 * j) (first + 64 * j) (λ i small.
          let on : from + 64 * j + i ≡ from + (64 * j + i) = omega arith in
          let too : first + (64 * j + i) ≡ first + 64 * j + i = omega arith in
          ap (number_at new) on
          ∙ word_put from (64 * len) first words fits (64 * j + i) (omega (arith, lt, small))
          ∙ ap (λ n. n % 2 ^ 64) too);
      outside = λ x lt away.
          let s = number_at slots (x / 16) in
          let place = place_is slots x s refl in
          same_words words new (word_place slots x) (word_place slots x) (λ i small.
          word_kept from (64 * len) first words fits (word_place slots x + i) (elim (cases_eq (x / 16) (start / 16)) [
            | inl same ↦
                let here : s ≡ slot = ap (number_at slots) same ∙ at in
                elim away [
                  | inl before ↦ inl (omega (arith, place, here, same, before, small, short))
                  | inr behind ↦ inr (omega (arith, place, here, same, behind, small, short))
                ]
            | inr other ↦
                let apart : s ≡ slot → ⊥ = λ is.
                other (sym (inverse.back (x / 16) (omega (arith, lt))) ∙ ap (number_at owners) (is ∙ sym at) ∙ inverse.back (start / 16) (omega (arith, within))) in
                elim (cases_lt s slot) [
                  | inl low ↦ inl (omega (arith, place, low, small))
                  | inr high ↦ inr (omega (arith, place, high, apart, small, short))
                ]
          ]));
    }

-- what is written in pages that were the same
pub filled_same : (start len first : ℕ) (words slots mid mid_slots new new_slots : List ℕ) → start + len ≤ 16 * length slots
    → AreSame words slots mid mid_slots → AreFilled start len first mid mid_slots new new_slots → AreFilled start len first words slots new new_slots
filled_same start len first words slots mid mid_slots new new_slots within was filled = record {
  size = filled.size ∙ was.size;
  inside = filled.inside;
  outside = λ x lt away. filled.outside x (omega (arith, lt, was.size)) away ∙ was.sector x lt;
}

sector_mod : (first more on : ℕ) → sector_from ((first + more) % 2 ^ 64 + on) ≡ sector_from (first + (more + on))
unfolding sector_from
sector_mod first more on =
    fill_by_all (λ i. (first + (more + on) + i) % 2 ^ 64) (map (λ i. ((first + more) % 2 ^ 64 + on + i) % 2 ^ 64) (range_with_len 0 64)) 64 0
    (length-map-range_with_len (λ i. ((first + more) % 2 ^ 64 + on + i) % 2 ^ 64) 0 64)
    (λ i lt. get_or-map-range_with_len (λ i. ((first + more) % 2 ^ 64 + on + i) % 2 ^ 64) 0 64 i i 0 lt (omega arith) ∙ omega arith)

-- more sectors are written, behind those that were
pub filled_more : (start done len first : ℕ) (words slots mid mid_slots new new_slots : List ℕ) → start + (done + len) ≤ 16 * length slots
    → AreFilled start done first words slots mid mid_slots
    → AreFilled (start + done) len ((first + 64 * done) % 2 ^ 64) mid mid_slots new new_slots
    → AreFilled start (done + len) first words slots new new_slots
filled_more start done len first words slots mid mid_slots new new_slots within was more = record {
  size = more.size ∙ was.size;
  inside = λ j lt. elim (cases_lt j done) [
    | inl before ↦
        more.outside (start + j) (omega (arith, within, before, was.size)) (inl (omega (arith, before)))
        ∙ was.inside j before
    | inr behind ↦
        let there : start + j ≡ start + done + (j - done) = omega (arith, behind) in
        let on : first + (64 * done + 64 * (j - done)) ≡ first + 64 * j = omega (arith, behind) in
        ap (sector_words new new_slots) there
        ∙ more.inside (j - done) (omega (arith, lt, behind))
        ∙ sector_mod first (64 * done) (64 * (j - done))
        ∙ ap sector_from on
  ];
  outside = λ x lt away.
      more.outside x (omega (arith, lt, was.size)) (elim away [
        | inl before ↦ inl (omega (arith, before))
        | inr behind ↦ inr (omega (arith, behind))
      ])
      ∙ was.outside x lt (elim away [
        | inl before ↦ inl before
        | inr behind ↦ inr (omega (arith, behind))
      ]);
}

-- a sector of the words of a page from one of its sectors on
pub rest_sector : (slots words : List ℕ) (at slot len i : ℕ) → number_at slots (at / 16) ≡ slot → at % 16 + len ≤ 16 → 1024 * slot + 1024 ≤ length words → i < len
    → take 64 (drop (64 * i) (take (64 * len) (drop (1024 * slot + 64 * (at % 16)) words))) ≡ sector_words words slots (at + i)
rest_sector slots words at slot len i is short kept lt =
    let from = 1024 * slot + 64 * (at % 16) in
    let page : (at + i) / 16 ≡ at / 16 = omega (arith, lt, short) in
    let there : from + 64 * i ≡ 1024 * slot + 64 * ((at + i) % 16) = omega (arith, lt, short) in
    let parts : 64 * len ≡ 64 * i + (64 * len - 64 * i) = omega (arith, lt) in
    ap (λ n. take 64 (drop (64 * i) (take n (drop from words)))) parts
    ∙ ap (take 64) (drop-take (64 * i) (64 * len - 64 * i) (drop from words))
    ∙ take-take 64 (64 * len - 64 * i) (drop (64 * i) (drop from words)) (omega (arith, lt))
    ∙ ap (take 64) (drop-drop (64 * i) from words)
    ∙ words_there words (from + 64 * i) (omega (arith, kept, short, lt))
    ∙ ap (sector_in words) (there ∙ sym (place_is slots (at + i) slot (ap (number_at slots) page ∙ is)))

-- the sectors of an image
pub length_paged : (count : ℕ) (words slots : List ℕ) → length (paged count words slots) ≡ count
unfolding paged
length_paged count words slots = length-map-range_with_len (sector_words words slots) 0 count

pub paged_at : (count : ℕ) (words slots : List ℕ) (x : ℕ) → x < count → get_or (paged count words slots) x [] ≡ sector_words words slots x
unfolding paged
paged_at count words slots x lt = get_or-map-range_with_len (sector_words words slots) 0 count x x [] lt (omega arith)

-- an image whose sectors are these
pub is_paged : (count : ℕ) (words slots : List ℕ) (image : List (List ℕ)) → length image ≡ count
    → ((x : ℕ) → x < count → get_or image x [] ≡ sector_words words slots x) → image ≡ paged count words slots
unfolding paged
is_paged count words slots image long each = fill_by_all (sector_words words slots) image count [] long each

-- pages that are the same show the same image
pub same_image : (count : ℕ) (words slots new new_slots : List ℕ) → count ≤ 16 * length slots → AreSame words slots new new_slots
    → paged count words slots ≡ paged count new new_slots
same_image count words slots new new_slots within same =
    is_paged count new new_slots (paged count words slots) (length_paged count words slots)
    (λ x lt. paged_at count words slots x lt ∙ sym (same.sector x (omega (arith, lt, within))))

-- pages in which a bio is written show the image after it
pub written_image : (bio : Bio) (count : ℕ) (words slots new new_slots : List ℕ) → count ≤ 16 * length slots → bio.range.start + bio.range.len ≤ count
    → AreFilled bio.range.start bio.range.len bio.word words slots new new_slots → paged count new new_slots ≡ written bio (paged count words slots)
written_image bio count words slots new new_slots within ends filled =
    let image = paged count words slots in
    let fits : bio.range.start + bio.range.len ≤ length image = omega (arith, ends, length_paged count words slots) in
    sym (is_paged count new new_slots (written bio image) (bios_write_their_sectors.size bio image fits ∙ length_paged count words slots) (λ x lt.
    elim (cases_lt x bio.range.start) [
      | inl before ↦ outside x lt (inl before)
      | inr not_before ↦ elim (cases_lt x (bio.range.start + bio.range.len)) [
        | inl inside ↦
            let there : x ≡ bio.range.start + (x - bio.range.start) = omega (arith, not_before) in
            let short : x - bio.range.start < bio.range.len = omega (arith, inside, not_before) in
            ap (λ k. get_or (written bio image) k []) there
            ∙ bios_write_their_sectors.inside bio image fits (x - bio.range.start) short
            ∙ sym (filled.inside (x - bio.range.start) short)
            ∙ ap (sector_words new new_slots) (sym there)
        | inr behind ↦ outside x lt (inr behind)
      ]
    ])) where
      outside : (x : ℕ) → x < count → (x < bio.range.start) ⊎ (bio.range.start + bio.range.len ≤ x) → get_or (written bio (paged count words slots)) x [] ≡ sector_words new new_slots x
      outside x lt away =
          bios_write_their_sectors.outside bio (paged count words slots) (omega (arith, ends, length_paged count words slots)) x away
          ∙ paged_at count words slots x lt
          ∙ sym (filled.outside x (omega (arith, lt, within)) away)
