-- The sectors of segments that follow one another.
use Rattle.std.proofs.Common.{◌≡◌, ℕ, zero, suc, ◌+◌, ◌-◌, ◌*◌, ◌%◌, ◌^◌, ◌≤◌, min, List, ◌++◌, map, refl, ap, ◌∙◌, inl, inr, arith}
use Rattle.std.specs.List.{range_with_len, flat_map}
use Rattle.std.proofs.Math.Nat.{mod-add-mod}
use Rattle.std.proofs.lemmas.Bool.{cases_lt}
use Rattle.std.proofs.lemmas.List.{append-nil}
use Rattle.stack_base.specs.Segments.{segment_count}
use Rattle.bio_records.specs.Segments.{segment_at, words_from, SegmentsAreTheRun}
use Rattle.bio_records.proofs.RunLemmas.{map_moved, map_parts}

-- the first words of the sectors from number a on, of which sector 0 has this first word
abbrev words_between : ℕ → ℕ → ℕ → List ℕ
words_between first a n = map (λ j. (first + 64 * j) % 2 ^ 64) (range_with_len a n)

-- the sectors of a segment are those of the write from there on
words_of_segment : (first i n : ℕ) → words_from ((first + 512 * i) % 2 ^ 64) n ≡ words_between first (8 * i) n
words_of_segment first i n =
    map_moved (λ j. ((first + 512 * i) % 2 ^ 64 + 64 * j) % 2 ^ 64) (λ j. (first + 64 * j) % 2 ^ 64) 0 (8 * i) n
    (λ j. mod-add-mod (first + 512 * i) (2 ^ 64) (64 * (0 + j)) ∙ ap (λ w. w % 2 ^ 64) (omega arith))

-- a segment's sectors, and then those of the segments behind it
words_joined : (first count i : ℕ)
    → words_between first (8 * i) (min 8 (count - 8 * i)) ++ words_between first (8 * (i + 1)) (count - 8 * (i + 1))
    ≡ words_between first (8 * i) (count - 8 * i)
words_joined first count i = elim (cases_lt (count - 8 * i) 8) [
  | inl few ↦
      let one : min 8 (count - 8 * i) ≡ count - 8 * i = omega arith in
      let none : count - 8 * (i + 1) ≡ 0 = omega arith in
      rw (one, none) (append-nil (words_between first (8 * i) (count - 8 * i)))
  | inr more ↦
      map_parts (λ j. (first + 64 * j) % 2 ^ 64) (8 * i) (min 8 (count - 8 * i)) (count - 8 * (i + 1)) (8 * (i + 1)) (count - 8 * i)
      (omega arith) (omega arith)
]

-- the sectors of n segments from segment i on, behind which there are none
words_of_segments : (first count i n : ℕ) → count ≤ 8 * (i + n)
    → flat_map (λ s. words_from s.word s.sectors) (map (λ k. segment_at first count k) (range_with_len i n))
    ≡ words_between first (8 * i) (count - 8 * i)
words_of_segments first count i zero all = let none : count - 8 * i ≡ 0 = omega arith in rw none refl
words_of_segments first count i (suc n) all =
    let rest = words_of_segments first count (i + 1) n (omega arith) in
    rw (words_of_segment first i (min 8 (count - 8 * i)), rest) (words_joined first count i)

-- the sectors of all segments are those of the write
pub segments_are_the_run : SegmentsAreTheRun
segments_are_the_run first count =
    let all : count - 8 * 0 ≡ count = omega arith in
    words_of_segments first count 0 (segment_count count) (omega arith) ∙ ap (λ n. words_from first n) all
