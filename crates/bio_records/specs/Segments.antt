-- The segments of a write: pages of eight sectors, one after the other.
use Rattle.std.specs.Prelude.{◌≡◌, ℕ, ◌+◌, ◌-◌, ◌*◌, ◌%◌, ◌^◌, min, List, map}
use Rattle.std.specs.List.{range_with_len, flat_map}
use Rattle.stack_base.specs.Segments.{segment_count}
use Rattle.bio_records.specs.declared.segment.Segment.{Segment}

-- segment i of a write with this first word and so many sectors: a sector has 64 words
abbrev pub segment_at : ℕ → ℕ → ℕ → Segment
segment_at first count i = record { word = (first + 512 * i) % 2 ^ 64; sectors = min 8 (count - 8 * i) }

-- its segments, in their order
abbrev pub segments_of : ℕ → ℕ → List Segment
segments_of first count = map (λ i. segment_at first count i) (range_with_len 0 (segment_count count))

-- the first words of n sectors that follow one another, of which the first has this first word
abbrev pub words_from : ℕ → ℕ → List ℕ
words_from first n = map (λ j. (first + 64 * j) % 2 ^ 64) (range_with_len 0 n)

-- the sectors of a write's segments, one segment after the other, are the sectors of the write
abbrev pub SegmentsAreTheRun : Type 0
SegmentsAreTheRun = (first count : ℕ) → flat_map (λ s. words_from s.word s.sectors) (segments_of first count) ≡ words_from first count
