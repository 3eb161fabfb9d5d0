-- The words of a stretch, where both disks keep them.
use Rattle.std.proofs.Common.{◌≡◌, ◌+◌, ◌*◌, ◌-◌, ◌/◌, ◌%◌, ◌<◌, ◌≤◌, ℕ, Bool, List, [], get_or, length, take, drop, min, not, cond, sym, ap, ◌∙◌, arith}
use Rattle.std.specs.List.{count_by, range_with_len}
use Rattle.std.proofs.lemmas.List.{drop-take, length-take-le, take-take}
use Rattle.std.proofs.lemmas.List.Sums.{sum_by-cons}
use Rattle.image_lanes.specs.Lanes.{equal_words, sectors_differ, unlike, IsFirstSector}
use Rattle.mirror_scrub.specs.declared.stretch.Stretch.{Stretch}
use Rattle.mirror_scrub.specs.Stretches.{AreWordsFrom, IsFirstUpTo, differ_at}
use Rattle.mirror_scrub.proofs.CountLemmas.{counts_along, unlike_counts}

-- a sector of words that are cut somewhere behind it
sector_before : (words : List ℕ) (size i : ℕ) → i < size / 64 → take 64 (drop (64 * i) (take size words)) ≡ take 64 (drop (64 * i) words)
sector_before words size i lt =
    let parts : size ≡ 64 * i + (size - 64 * i) = omega (arith, lt) in
    ap (λ n. take 64 (drop (64 * i) (take n words))) parts
    ∙ ap (take 64) (drop-take (64 * i) (size - 64 * i) words)
    ∙ take-take 64 (size - 64 * i) (drop (64 * i) words) (omega (arith, lt))

-- words of the sectors of an image from one on
abbrev pub AreOf : List (List ℕ) → ℕ → List ℕ → Type 0
AreOf image at words = (i : ℕ) → i < length words / 64 → take 64 (drop (64 * i) words) ≡ get_or image (at + i) []

-- the words of both disks, up to where the shorter ones end, or the stretch
pub words_are : (s : Stretch) (place : ℕ) (one other : List ℕ) (size : ℕ) → place < s.len
    → AreOf s.one.now.image (s.at + place) one → AreOf s.other.now.image (s.there + place) other
    → size ≡ min (min (length one) (length other)) (64 * (s.len - place)) → size % 64 ≡ 0 → AreWordsFrom s place (take size one) (take size other)
words_are s place one other size inside here there is whole =
    let in_one : size ≤ length one = omega (arith, is) in
    let in_other : size ≤ length other = omega (arith, is) in
    let long = length-take-le size one in_one in
    let also = length-take-le size other in_other in
    record {
      lengths = long ∙ sym also;
      whole = ap (λ n. n % 64) long ∙ whole;
      short = omega (arith, long, is, inside);
      same = λ i lt. let kept : i < size / 64 = omega (arith, lt, long) in
          let at : s.at + place + i ≡ s.at + (place + i) = omega arith in
          let also_at : s.there + place + i ≡ s.there + (place + i) = omega arith in
          let first = sector_before one size i kept ∙ here i (omega (arith, kept, in_one)) ∙ ap (λ n. get_or s.one.now.image n []) at in
          let second = sector_before other size i kept ∙ there i (omega (arith, kept, in_other)) ∙ ap (λ n. get_or s.other.now.image n []) also_at in
          ap (λ ws. not (equal_words ws (take 64 (drop (64 * i) (take size other))))) first
          ∙ ap (λ ws. not (equal_words (get_or s.one.now.image (s.at + (place + i)) []) ws)) second;
    }

-- one sector counts as one or as none
pub count_one : (f : ℕ → Bool) (a : ℕ) → count_by f (range_with_len a 1) ≡ cond (f a) 1 0
count_one f a = omega (arith, sum_by-cons (λ x. cond (f x) 1 0) a [])

module _ (s : Stretch) (place : ℕ) (one other : List ℕ) (are : AreWordsFrom s place one other) where
  -- of them as many differ as of the sectors of the stretch
  pub words_count : unlike one other ≡ count_by (differ_at s) (range_with_len place (length one / 64))
  words_count =
      unlike_counts (length one / 64) one other
      ∙ counts_along (sectors_differ one other) (differ_at s) 0 place (length one / 64)
      (λ i lt. ap (sectors_differ one other) (omega arith) ∙ are.same i lt)

  -- and the first of them that is so is the first sector of the stretch that is
  pub first_is : (so : Bool) (found : ℕ) → 1 ≤ length one / 64 → IsFirstSector one other 0 so found
      → IsFirstUpTo s place (place + length one / 64) so (place + found)
  first_is so found some first = record {
    some = omega (arith, some);
    short = are.short;
    first = record {
      behind = omega arith;
      within = omega (arith, first.within);
      others = λ i le lt.
          let there : place + (i - place) ≡ i = omega (arith, le) in
          ap (differ_at s) (sym there)
          ∙ sym (are.same (i - place) (omega (arith, le, lt, first.within)))
          ∙ first.others (i - place) (omega arith) (omega (arith, le, lt));
      here = λ lt. sym (are.same found (omega (arith, lt))) ∙ first.here (omega (arith, lt));
    };
  }
