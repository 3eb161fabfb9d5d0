-- Words that count up.
use Rattle.std.proofs.Common.{◌≡◌, ◌+◌, ◌-◌, ◌%◌, ◌^◌, ◌<◌, ◌++◌, ℕ, List, length, get_or, ap, ◌∙◌, inl, inr, arith}
use Rattle.std.proofs.lemmas.List.{length-append, get_or_append_left, get_or-append_right}
use Rattle.std.proofs.lemmas.List.FromFn.{length-map-range_with_len, get_or-map-range_with_len, fill_by_all}
use Rattle.std.proofs.lemmas.Bool.{cases_lt}
use Rattle.std.proofs.Math.Nat.{mod-add-mod}
use Rattle.image_lanes.specs.Lanes.{counting}

pub length_counting : (first count : ℕ) → length (counting first count) ≡ count
unfolding counting
length_counting first count = length-map-range_with_len (λ i. (first + i) % 2 ^ 64) 0 count

-- word i counts i from the first
pub word_of_counting : (first count i d : ℕ) → i < count → get_or (counting first count) i d ≡ (first + i) % 2 ^ 64
unfolding counting
word_of_counting first count i d lt = get_or-map-range_with_len (λ i. (first + i) % 2 ^ 64) 0 count i i d lt (omega arith)

-- words that do are these
pub is_counting : (words : List ℕ) (first count : ℕ) → length words ≡ count → ((i : ℕ) → i < count → get_or words i 0 ≡ (first + i) % 2 ^ 64)
    → words ≡ counting first count
unfolding counting
is_counting words first count long counts = fill_by_all (λ i. (first + i) % 2 ^ 64) words count 0 long counts

-- a first word and its remainder modulo 2 ^ 64 begin the same words
pub counting_mod : (first count : ℕ) → counting (first % 2 ^ 64) count ≡ counting first count
unfolding counting
counting_mod first count = simp mod-add-mod

-- words that count on behind others
pub counting_on : (first m n : ℕ) → counting first m ++ counting (first + m) n ≡ counting first (m + n)
counting_on first m n =
    let front = length_counting first m in
    let behind = length_counting (first + m) n in
    is_counting (counting first m ++ counting (first + m) n) first (m + n)
    (length-append (counting first m) (counting (first + m) n) ∙ omega (arith, front, behind))
    (λ i lt. elim (cases_lt i m) [
      | inl in_front ↦
          get_or_append_left (counting first m) (counting (first + m) n) 0 i (rw front in_front) ∙ word_of_counting first m i 0 in_front
      | inr past ↦
          let there : first + m + (i - m) ≡ first + i = omega arith in
          get_or-append_right (counting first m) (counting (first + m) n) m i 0 front past
          ∙ word_of_counting (first + m) n (i - m) 0 (omega arith)
          ∙ ap (λ k. k % 2 ^ 64) there
    ])
