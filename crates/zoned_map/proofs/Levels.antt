-- The zones behind a level: the next one, and that there is none behind the last.
use Rattle.std.proofs.Common.{◌≡◌, ℕ, suc, ◌+◌, ◌-◌, ◌<◌, ◌≤◌, true, false, List, [], ◌∷◌, ◌++◌, length, sum, inl, inr, ap, ◌∙◌, sym, arith}
use Rattle.std.specs.Prelude.{max, fold, slice_index, nat_eq}
use Rattle.std.specs.List.Sorted.{IsPermutation, IsNonDecreasing}
use Rattle.std.proofs.lemmas.Bool.{cases_lt, or_cases, eqb-true, eq-eqb, false_from_ne_true}
use Rattle.std.proofs.lemmas.List.{append_assoc, append-nil, length_push}
use Rattle.std.proofs.lemmas.List.Elements.{Contains-get_or}
use Rattle.std.proofs.lemmas.List.Folds.{list_any_at}
use Rattle.std.proofs.lemmas.List.Sorted.{Contains-permutation, IsPermutation-sym}
use Rattle.std.proofs.lemmas.List.Sums.{get_or-le-sum_by}
use Rattle.std.proofs.lemmas.List.{get_or_default}
use Rattle.stack_base.specs.Mapping.{Zone, levels, zones_from, zones}
use Rattle.stack_base.proofs.Passing.{passing, passing_next}
use Rattle.stack_base.proofs.Zones.{HasGap, is_level, zone, fold_max_le}

-- a number of chunks that passes is a member's
from_level : (counts : List ℕ) (k : ℕ) → is_level counts k ≡ true → (i : ℕ) × (i < length counts) × (slice_index counts i ≡ k)
from_level [] k is = absurd cc
from_level (c ∷ counts) k is = elim (or_cases (nat_eq c k) (is_level counts k) is) [
  | inl here ↦ (0, omega arith, eqb-true c k here)
  | inr there ↦ (let rest = from_level counts k there in (suc rest.0, omega (arith, rest.1), rest.2))
]

-- a bound of a list is one of its largest element
fold_max_below : (b c : ℕ) (cs : List ℕ) → c ≤ b → ((i : ℕ) → i < length cs → slice_index cs i ≤ b) → fold max c cs ≤ b
fold_max_below b c [] first each = first
fold_max_below b c (d ∷ cs) first each = fold_max_below b (max c d) cs (omega (arith, each 0 (omega arith))) (λ i lt. each (suc i) (omega arith))

module _ (counts : List ℕ) where
  -- the levels behind one
  abbrev pub behind : ℕ → List ℕ
  behind base = passing (is_level counts) (base + 1) (fold max 0 counts - base)

  -- those behind 0 are all
  pub behind_none : zones_from counts 0 (behind 0) ≡ zones counts
  unfolding levels
  behind_none =
      let whole : fold max 0 counts - 0 ≡ fold max 0 counts = omega arith in
      ap (λ n. zones_from counts 0 (passing (is_level counts) 1 n)) whole

  -- where no member ends between a level and a member's number of chunks, that number is the next level
  pub behind_next :
      (base level i : ℕ) → base < level → i < length counts → slice_index counts i ≡ level → HasGap counts base level
      → zones_from counts base (behind base) ≡ zone counts base level ∷ zones_from counts level (behind level)
  unfolding zones_from
  behind_next base level i rises within is gap =
      let largest = fold max 0 counts in
      let low : level ≤ largest = omega (arith, fold_max_le 0 counts i within) in
      let none : (k : ℕ) → base + 1 ≤ k → k < level → is_level counts k ≡ false =
      λ k le lt. false_from_ne_true (is_level counts k) (λ passes.
      let at = from_level counts k passes in
      omega (arith, gap at.0 at.1 (omega (arith, at.2)), at.2)) in
      let here : is_level counts level ≡ true = list_any_at (λ count. nat_eq count level) counts i 0 within (eq-eqb (slice_index counts i) level is) in
      let left : base + 1 + (largest - base) - (level + 1) ≡ largest - level = omega arith in
      let next : behind base ≡ level ∷ behind level =
      passing_next (is_level counts) (base + 1) (largest - base) level (omega arith) (omega arith) none here
      ∙ ap (λ n. level ∷ passing (is_level counts) (level + 1) n) left in
      ap (zones_from counts base) next

  -- behind the largest number of chunks there is none
  pub behind_last : (base : ℕ) → ((i : ℕ) → i < length counts → slice_index counts i ≤ base) → zones_from counts base (behind base) ≡ []
  unfolding zones_from
  behind_last base ends =
      let none : fold max 0 counts - base ≡ 0 = omega (arith, fold_max_below base 0 counts (omega arith) ends) in
      ap (λ n. zones_from counts base (passing (is_level counts) (base + 1) n)) none

  module _ (rising : List ℕ) (many : length rising ≡ length counts) (same : IsPermutation counts rising) (sorted : IsNonDecreasing rising) where
    -- each number of the sorted list is a member's
    pub from_sorted : (k : ℕ) → k < length rising → (i : ℕ) × (i < length counts) × (slice_index counts i ≡ slice_index rising k)
    from_sorted k lt =
        let x = slice_index rising k in
        let at = Contains-permutation rising counts x (IsPermutation-sym counts rising same) (Contains-get_or rising k 0 lt) in
        (at.0, at.1, get_or_default counts at.0 0 x at.1 ∙ at.2)

    -- and the other way round
    pub to_sorted : (i : ℕ) → i < length counts → (k : ℕ) × (k < length rising) × (slice_index rising k ≡ slice_index counts i)
    to_sorted i lt =
        let x = slice_index counts i in
        let at = Contains-permutation counts rising x same (Contains-get_or counts i 0 lt) in
        (at.0, at.1, get_or_default rising at.0 0 x at.1 ∙ at.2)

    -- no member ends between what the first numbers reach and the next number
    pub sorted_gap : (base k : ℕ) → k < length rising → ((j : ℕ) → j < k → slice_index rising j ≤ base) → HasGap counts base (slice_index rising k)
    sorted_gap base k lt passed i within more =
        let at = to_sorted i within in
        elim (cases_lt at.0 k) [
          | inl early ↦ absurd (omega (arith, passed at.0 early, at.2))
          | inr later ↦ omega (arith, sorted k at.0 0 later at.1, at.2)
        ]

    -- behind the last of them there is none
    pub sorted_last : (base : ℕ) → ((j : ℕ) → j < length rising → slice_index rising j ≤ base) → zones_from counts base (behind base) ≡ []
    sorted_last base passed = behind_last base (λ i within. let at = to_sorted i within in omega (arith, passed at.0 at.1, at.2))

-- what the loop over the sorted numbers keeps: the zones so far and those behind are all, and none of the numbers so far is behind
pub record IsMade (counts rising : List ℕ) (base : ℕ) (made : List Zone) (place : ℕ) : Type 0 where
  pub all : made ++ zones_from counts base (behind counts base) ≡ zones counts
  pub passed : (j : ℕ) → j < place → slice_index rising j ≤ base
  pub few : length made ≤ place

pub made_none : (counts rising : List ℕ) → IsMade counts rising 0 [] 0
made_none counts rising = record { all = behind_none counts; passed = λ j lt. absurd (omega arith); few = omega arith }

pub made_same :
    (counts rising : List ℕ) (base : ℕ) (made : List Zone) (place : ℕ) → IsMade counts rising base made place
    → slice_index rising place ≤ base → IsMade counts rising base made (place + 1)
made_same counts rising base made place is here = record {
  all = is.all;
  passed = λ j lt. elim (cases_lt j place) [
    | inl early ↦ is.passed j early
    | inr last ↦ (let same : j ≡ place = omega arith in omega (arith, ap (slice_index rising) same))
  ];
  few = omega (arith, is.few);
}

pub made_more :
    (counts rising : List ℕ) (many : length rising ≡ length counts) → IsPermutation counts rising → IsNonDecreasing rising
    → (base : ℕ) (made : List Zone) (place : ℕ) → IsMade counts rising base made place
    → place < length rising → base < slice_index rising place
    → IsMade counts rising (slice_index rising place) (made ++ zone counts base (slice_index rising place) ∷ []) (place + 1)
made_more counts rising many same sorted base made place is within rises =
    let level = slice_index rising place in
    let from = from_sorted counts rising many same sorted place within in
    let next = behind_next counts base level from.0 rises from.1 from.2 (sorted_gap counts rising many same sorted base place within is.passed) in
    record {
      all =
          append_assoc made (zone counts base level ∷ []) (zones_from counts level (behind counts level))
          ∙ ap (λ more. made ++ more) (sym next) ∙ is.all;
      passed = λ j lt. elim (cases_lt j place) [
        | inl early ↦ omega (arith, is.passed j early)
        | inr last ↦ (let at : j ≡ place = omega arith in omega (arith, ap (slice_index rising) at))
      ];
      few = omega (arith, length_push made (zone counts base level), is.few);
    }

pub made_all :
    (counts rising : List ℕ) (many : length rising ≡ length counts) → IsPermutation counts rising → IsNonDecreasing rising
    → (base : ℕ) (made : List Zone) (place : ℕ) → IsMade counts rising base made place → length rising ≤ place → made ≡ zones counts
made_all counts rising many same sorted base made place is ends =
    sym (append-nil made)
    ∙ ap (λ more. made ++ more) (sym (sorted_last counts rising many same sorted base (λ j lt. is.passed j (omega arith)))) ∙ is.all

-- no level is above all chunks together
pub level_small :
    (counts rising : List ℕ) (many : length rising ≡ length counts) → IsPermutation counts rising → IsNonDecreasing rising
    → (k : ℕ) → k < length rising → slice_index rising k ≤ sum counts
level_small counts rising many same sorted k lt =
    let from = from_sorted counts rising many same sorted k lt in
    omega (arith, from.2, get_or-le-sum_by (λ x. x) counts from.0 0 from.1)
