-- Pages that change slots, and words that are written in them.
use Rattle.std.proofs.Common.{◌≡◌, ◌⊎◌, ◌+◌, ◌-◌, ◌*◌, ◌/◌, ◌%◌, ◌^◌, ◌<◌, ◌≤◌, ℕ, List, get_or, length, take, drop, map, replicate, inl, inr, refl, sym, ap, zero-add, ◌∙◌, arith, length-drop}
use Rattle.std.specs.Prelude.{slice_set}
use Rattle.std.specs.List.{range_with_len}
use Rattle.std.proofs.lemmas.Bool.{cases_lt, cases_eq, eq-eqb, ne_eqb}
use Rattle.std.proofs.lemmas.List.{length-set, get_or-set_same, get_or-set_other, get_or-replicate, get_or_past, get_or_append_left, get_or-append_right, get_or-take, get_or-drop, length-replicate, length-take-le}
use Rattle.std.proofs.lemmas.List.FromFn.{length-range_with_len, get_or-range_with_len, length-map-range_with_len, get_or-map-range_with_len, fill_by_all}
use Rattle.stack_base.specs.Words.{sector_from, zero_sector}
use Rattle.model_disks.specs.Kept.{grown}
use Rattle.model_disks.specs.Paged.{number_at, sector_in, word_place, swapped_slot, AreInverse, IsExchanged, AreSwapped, AreInOrder, ArePaged, AreSame}
use Rattle.model_disks.proofs.GrownLemmas.{length_grown}

-- the first of two slots stands where the other was
pub turned_other : (one other : ℕ) → swapped_slot one other other ≡ one
unfolding swapped_slot
turned_other one other = rw (eq-eqb other other refl) refl

-- the others stand where they were
pub turned_none : (one other slot : ℕ) → (slot ≡ one → ⊥) → (slot ≡ other → ⊥) → swapped_slot one other slot ≡ slot
unfolding swapped_slot
turned_none one other slot not_one not_other = rw (ne_eqb slot other not_other, ne_eqb slot one not_one) refl

-- and the other where the first was
pub turned_one : (one other : ℕ) → swapped_slot one other one ≡ other
unfolding swapped_slot
turned_one one other = elim (cases_eq one other) [
  | inl same ↦ rw (eq-eqb one other same) same
  | inr apart ↦ rw (ne_eqb one other apart, eq-eqb one one refl) refl
]

-- a slot is one of the two, or another
pub turned_cases : (one other slot : ℕ) → ((slot ≡ one) × (swapped_slot one other slot ≡ other)) ⊎ (((slot ≡ other) × (swapped_slot one other slot ≡ one)) ⊎ (swapped_slot one other slot ≡ slot))
turned_cases one other slot = elim (cases_eq slot one) [
  | inl is ↦ inl (is, ap (swapped_slot one other) is ∙ turned_one one other)
  | inr not_one ↦ elim (cases_eq slot other) [
    | inl is ↦ inr (inl (is, ap (swapped_slot one other) is ∙ turned_other one other))
    | inr not_other ↦ inr (inr (turned_none one other slot not_one not_other))
  ]
]

-- what has changed places twice stands where it was
pub turned_twice : (one other slot : ℕ) → swapped_slot one other (swapped_slot one other slot) ≡ slot
turned_twice one other slot = elim (turned_cases one other slot) [
  | inl first ↦ ap (swapped_slot one other) first.1 ∙ turned_other one other ∙ sym first.0
  | inr rest ↦ elim rest [
    | inl second ↦ ap (swapped_slot one other) second.1 ∙ turned_one one other ∙ sym second.0
    | inr none ↦ ap (swapped_slot one other) none ∙ none
  ]
]

-- pages in two slots that take each other's
pub slots_exchanged : (slots owners : List ℕ) (one other page behind : ℕ) → AreInverse slots owners → one < length slots → other < length slots
    → page ≡ number_at owners one → behind ≡ number_at owners other
    → IsExchanged one other slots (slice_set (slice_set slots page other) behind one)
slots_exchanged slots owners one other page behind inverse in_one in_other has_one has_other =
    let first = slice_set slots page other in
    let both = slice_set first behind one in
    let page_in : page < length slots = omega (arith, has_one, inverse.owner one in_one) in
    let behind_in : behind < length slots = omega (arith, has_other, inverse.owner other in_other) in
    let slot_one : number_at slots page ≡ one = ap (number_at slots) has_one ∙ inverse.forth one in_one in
    let slot_other : number_at slots behind ≡ other = ap (number_at slots) has_other ∙ inverse.forth other in_other in
    let size : length first ≡ length slots = length-set slots page other in
    record {
      size = length-set first behind one ∙ size;
      slot = λ p lt. elim (cases_eq p behind) [
        | inl is ↦
            ap (number_at both) is
            ∙ get_or-set_same first behind one 0 (omega (arith, behind_in, size))
            ∙ sym (ap (λ k. swapped_slot one other (number_at slots k)) is ∙ ap (swapped_slot one other) slot_other ∙ turned_other one other)
        | inr not_behind ↦
            get_or-set_other first behind p one 0 not_behind
            ∙ elim (cases_eq p page) [
              | inl is ↦
                  ap (number_at first) is
                  ∙ get_or-set_same slots page other 0 page_in
                  ∙ sym (ap (λ k. swapped_slot one other (number_at slots k)) is ∙ ap (swapped_slot one other) slot_one ∙ turned_one one other)
              | inr not_page ↦
                  get_or-set_other slots page p other 0 not_page
                  ∙ sym (turned_none one other (number_at slots p)
                  (λ at. not_page (sym (inverse.back p lt) ∙ ap (number_at owners) at ∙ sym has_one))
                  (λ at. not_behind (sym (inverse.back p lt) ∙ ap (number_at owners) at ∙ sym has_other)))
            ]
      ];
    }

-- one more page is settled
pub settled_more : (slots new : List ℕ) (page slot : ℕ) → IsExchanged page slot slots new → number_at slots page ≡ slot → page < slot
    → page < length slots → AreInOrder slots page → AreInOrder new (page + 1)
settled_more slots new page slot exchanged at less within settled p lt = elim (cases_eq p page) [
  | inl is ↦ ap (number_at new) is ∙ exchanged.slot page within ∙ ap (swapped_slot page slot) at ∙ turned_other page slot ∙ sym is
  | inr other ↦
      let before : p < page = omega (arith, lt, other) in
      exchanged.slot p (omega (arith, before, within))
      ∙ ap (swapped_slot page slot) (settled p before)
      ∙ turned_none page slot p other (λ is. omega (arith, is, before, less))
]

-- or it was already
pub settled_here : (slots owners : List ℕ) (page : ℕ) → AreInverse slots owners → page < length slots → AreInOrder slots page
    → number_at slots page ≤ page → AreInOrder slots (page + 1)
settled_here slots owners page inverse within settled low p lt = elim (cases_eq p page) [
  | inl is ↦ ap (number_at slots) is ∙ here ∙ sym is
  | inr other ↦ settled p (omega (arith, lt, other))
] where
  here : number_at slots page ≡ page
  here = elim (cases_lt (number_at slots page) page) [
    | inl before ↦
        let q = number_at slots page in
        absurd (omega (
          arith,
          before,
          sym (inverse.back q (omega (arith, before, within))) ∙ ap (number_at owners) (settled q before) ∙ inverse.back page within,
        ))
    | inr not_before ↦ omega (arith, low, not_before)
  ]

-- sectors that have the same words
pub same_words : (words new : List ℕ) (from to : ℕ) → ((i : ℕ) → i < 64 → number_at new (to + i) ≡ number_at words (from + i)) → sector_in new to ≡ sector_in words from
unfolding sector_in
same_words words new from to same =
    fill_by_all (λ i. number_at words (from + i)) (map (λ i. number_at new (to + i)) (range_with_len 0 64)) 64 0
    (length-map-range_with_len (λ i. number_at new (to + i)) 0 64)
    (λ i lt. get_or-map-range_with_len (λ i. number_at new (to + i)) 0 64 i i 0 lt (omega arith) ∙ same i lt)

-- those of a sector that count up
pub words_count : (new : List ℕ) (to first : ℕ) → ((i : ℕ) → i < 64 → number_at new (to + i) ≡ (first + i) % 2 ^ 64) → sector_in new to ≡ sector_from first
unfolding sector_in sector_from
words_count new to first counts =
    fill_by_all (λ i. (first + i) % 2 ^ 64) (map (λ i. number_at new (to + i)) (range_with_len 0 64)) 64 0
    (length-map-range_with_len (λ i. number_at new (to + i)) 0 64)
    (λ i lt. get_or-map-range_with_len (λ i. number_at new (to + i)) 0 64 i i 0 lt (omega arith) ∙ counts i lt)

-- behind the words there are zeros
pub words_end : (words : List ℕ) (from : ℕ) → length words ≤ from → sector_in words from ≡ zero_sector
unfolding sector_in zero_sector
words_end words from past =
    sym (fill_by_all (λ i. number_at words (from + i)) (replicate 64 0) 64 0 (length-replicate {A = ℕ} 64 0)
    (λ i lt. get_or-replicate {A = ℕ} 64 i 0 0 lt ∙ sym (get_or_past words (from + i) 0 (omega (arith, past)))))

-- words that are all there
pub words_there : (words : List ℕ) (from : ℕ) → from + 64 ≤ length words → take 64 (drop from words) ≡ sector_in words from
unfolding sector_in
words_there words from within =
    fill_by_all (λ i. number_at words (from + i)) (take 64 (drop from words)) 64 0
    (length-take-le 64 (drop from words) (omega (arith, within, length-drop from words)))
    (λ i lt. get_or-take 64 (drop from words) i 0 lt ∙ get_or-drop from words i 0)

-- a list that grows by zeros has the same words
pub word_grown : (size : ℕ) (words : List ℕ) (k : ℕ) → number_at (grown 0 size words) k ≡ number_at words k
unfolding grown
word_grown size words k = elim (cases_lt k (length words)) [
  | inl inside ↦ get_or_append_left words (replicate (size - length words) 0) 0 k inside
  | inr past ↦
      get_or-append_right words (replicate (size - length words) 0) (length words) k 0 refl past
      ∙ zeros (size - length words) (k - length words)
      ∙ sym (get_or_past words k 0 past)
] where
  zeros : (n i : ℕ) → get_or (replicate {A = ℕ} n 0) i 0 ≡ 0
  zeros n i = elim (cases_lt i n) [
    | inl inside ↦ get_or-replicate {A = ℕ} n i 0 0 inside
    | inr past ↦ get_or_past (replicate n 0) i 0 (omega (arith, past, length-replicate {A = ℕ} n 0))
  ]

pub sector_grown : (size : ℕ) (words : List ℕ) (from : ℕ) → sector_in (grown 0 size words) from ≡ sector_in words from
sector_grown size words from = same_words words (grown 0 size words) from from (λ i lt. word_grown size words (from + i))

-- where a sector is
pub place_is : (slots : List ℕ) (x slot : ℕ) → number_at slots (x / 16) ≡ slot → word_place slots x ≡ 1024 * slot + 64 * (x % 16)
unfolding word_place
place_is slots x slot is = ap (λ (s : ℕ). 1024 * s + 64 * (x % 16)) is

-- words that grow by zeros
pub same_grown : (size : ℕ) (words slots : List ℕ) → AreSame words slots (grown 0 size words) slots
same_grown size words slots = record { size = refl; sector = λ x lt. sector_grown size words (word_place slots x) }

-- pages that changed slots with their words
pub same_swapped : (words slots new new_slots : List ℕ) (one other : ℕ) → AreSwapped one other words new → IsExchanged one other slots new_slots
    → AreSame words slots new new_slots
same_swapped words slots new new_slots one other swapped exchanged = record {
  size = exchanged.size;
  sector = λ x lt.
      let slot = number_at slots (x / 16) in
      let r = 64 * (x % 16) in
      let turns = exchanged.slot (x / 16) (omega (arith, lt)) in
      ap (sector_in new) (place_is new_slots x (swapped_slot one other slot) turns)
      ∙ same_words words new (1024 * slot + r) (1024 * swapped_slot one other slot + r) (λ i lt.
      let on : 1024 * swapped_slot one other slot + r + i ≡ 1024 * swapped_slot one other slot + (r + i) = omega arith in
      let back : 1024 * slot + (r + i) ≡ 1024 * slot + r + i = omega arith in
      ap (number_at new) on
      ∙ swapped.word (swapped_slot one other slot) (r + i) (omega (arith, lt))
      ∙ ap (λ (s : ℕ). number_at words (1024 * s + (r + i))) (turned_twice one other slot)
      ∙ ap (number_at words) back)
      ∙ ap (sector_in words) (sym (place_is slots x slot refl));
}

-- a page that comes into the first slot without words, from one behind it
pub same_behind : (words slots new_slots : List ℕ) (used slot size : ℕ) → length words ≤ 1024 * used → used ≤ slot → IsExchanged slot used slots new_slots
    → AreSame words slots (grown 0 size words) new_slots
same_behind words slots new_slots used slot size end behind exchanged = record {
  size = exchanged.size;
  sector = λ x lt.
      let s = number_at slots (x / 16) in
      let r = 64 * (x % 16) in
      let turns = exchanged.slot (x / 16) (omega (arith, lt)) in
      sector_grown size words (word_place new_slots x)
      ∙ elim (turned_cases slot used s) [
        | inl first ↦
            words_end words (word_place new_slots x) (omega (arith, end, place_is new_slots x used (turns ∙ first.1)))
            ∙ sym (words_end words (word_place slots x) (omega (arith, end, behind, place_is slots x slot first.0)))
        | inr rest ↦ elim rest [
          | inl second ↦
              words_end words (word_place new_slots x) (omega (arith, end, behind, place_is new_slots x slot (turns ∙ second.1)))
              ∙ sym (words_end words (word_place slots x) (omega (arith, end, place_is slots x used second.0)))
          | inr none ↦ ap (sector_in words) (place_is new_slots x s (turns ∙ none) ∙ sym (place_is slots x s refl))
        ]
      ];
}

-- pages whose words grow to those of so many slots
pub paged_grown : (room new_room : ℕ) (words slots owners new_slots new_owners : List ℕ) (count : ℕ) → ArePaged room words slots owners
    → AreInverse new_slots new_owners → length new_slots ≡ length slots → length words ≤ 1024 * count → count ≤ length slots → room ≤ new_room
    → ArePaged new_room (grown 0 (1024 * count) words) new_slots new_owners
paged_grown room new_room words slots owners new_slots new_owners count pages inverse same few fits more =
    let long = length_grown 0 (1024 * count) words in
    record {
      inverse = inverse;
      whole = omega (arith, long, few);
      within = omega (arith, long, few, fits, same);
      fits = omega (arith, pages.fits, same, more);
    }

-- each page in the slot of its own number
pub inverse_in_turn : (slots owners : List ℕ) (count : ℕ) → slots ≡ range_with_len 0 count → owners ≡ range_with_len 0 count → AreInverse slots owners
inverse_in_turn slots owners count slots_are owners_are =
    let long = ap length slots_are ∙ length-range_with_len 0 count in
    let slot : (i : ℕ) → i < length slots → number_at slots i ≡ i = λ i lt.
    ap (λ xs. number_at xs i) slots_are ∙ get_or-range_with_len 0 count i 0 (omega (arith, lt, long)) ∙ zero-add i in
    let owner : (i : ℕ) → i < length slots → number_at owners i ≡ i = λ i lt.
    ap (λ xs. number_at xs i) owners_are ∙ get_or-range_with_len 0 count i 0 (omega (arith, lt, long)) ∙ zero-add i in
    record {
      size = omega (arith, long, ap length owners_are, length-range_with_len 0 count);
      slot = λ i lt. omega (arith, lt, slot i lt);
      owner = λ i lt. omega (arith, lt, owner i lt);
      back = λ i lt. ap (number_at owners) (slot i lt) ∙ owner i lt;
      forth = λ i lt. ap (number_at slots) (owner i lt) ∙ slot i lt;
    }
