-- The words of two slots, each in the place of the other's.
use Rattle.std.proofs.Common.{◌≡◌, ◌+◌, ◌-◌, ◌*◌, ◌<◌, ◌≤◌, ◌++◌, ℕ, List, length, take, drop, inl, inr, sym, ap, subst, ◌∙◌, arith, length-append, length-drop}
use Rattle.std.proofs.lemmas.Bool.{cases_lt, cases_eq}
use Rattle.std.proofs.lemmas.List.{get_or_append_left, get_or-append_right, get_or-take, get_or-drop, length-take-le}
use Rattle.model_disks.specs.Paged.{number_at, swapped_slot, AreSwapped}
use Rattle.model_disks.proofs.PageLemmas.{turned_one, turned_other, turned_none}

-- the list by its parts
module _ (words : List ℕ) (low high : ℕ) (order : low < high) (within : 1024 * high + 1024 ≤ length words) where
  abbrev front : List ℕ
  front = take (1024 * high) words

  abbrev behind : List ℕ
  behind = drop (1024 * high) words

  abbrev from_low : List ℕ
  from_low = drop (1024 * low) front

  abbrev left : List ℕ
  left = take (1024 * low) front ++ (take 1024 behind ++ drop 1024 from_low)

  abbrev all : List ℕ
  all = left ++ (take 1024 from_low ++ drop 1024 behind)

  long_front : length front ≡ 1024 * high
  long_front = length-take-le (1024 * high) words (omega (arith, within))

  long_before : length (take (1024 * low) front) ≡ 1024 * low
  long_before = length-take-le (1024 * low) front (omega (arith, long_front, order))

  long_one : length (take 1024 from_low) ≡ 1024
  long_one = length-take-le 1024 from_low (omega (arith, length-drop (1024 * low) front, long_front, order))

  long_other : length (take 1024 behind) ≡ 1024
  long_other = length-take-le 1024 behind (omega (arith, length-drop (1024 * high) words, within))

  long_left : length left ≡ 1024 * high
  long_left = omega (
    arith,
    order,
    length-append (take (1024 * low) front) (take 1024 behind ++ drop 1024 from_low),
    length-append (take 1024 behind) (drop 1024 from_low),
    long_before,
    long_other,
    length-drop 1024 from_low,
    length-drop (1024 * low) front,
    long_front,
  )

  long_all : length all ≡ length words
  long_all = omega (
    arith,
    within,
    length-append left (take 1024 from_low ++ drop 1024 behind),
    length-append (take 1024 from_low) (drop 1024 behind),
    long_left,
    long_one,
    length-drop 1024 behind,
    length-drop (1024 * high) words,
  )

  before_low : (k : ℕ) → k < 1024 * low → number_at all k ≡ number_at words k
  before_low k lt =
      get_or_append_left left (take 1024 from_low ++ drop 1024 behind) 0 k (omega (arith, lt, order, long_left))
      ∙ get_or_append_left (take (1024 * low) front) (take 1024 behind ++ drop 1024 from_low) 0 k (omega (arith, lt, long_before))
      ∙ get_or-take (1024 * low) front k 0 lt
      ∙ get_or-take (1024 * high) words k 0 (omega (arith, lt, order))

  in_low : (i : ℕ) → i < 1024 → number_at all (1024 * low + i) ≡ number_at words (1024 * high + i)
  in_low i lt =
      let there : 1024 * low + i - 1024 * low ≡ i = omega arith in
      get_or_append_left left (take 1024 from_low ++ drop 1024 behind) 0 (1024 * low + i) (omega (arith, lt, order, long_left))
      ∙ get_or-append_right (take (1024 * low) front) (take 1024 behind ++ drop 1024 from_low) (1024 * low) (1024 * low + i) 0 long_before (omega arith)
      ∙ ap (number_at (take 1024 behind ++ drop 1024 from_low)) there
      ∙ get_or_append_left (take 1024 behind) (drop 1024 from_low) 0 i (omega (arith, lt, long_other))
      ∙ get_or-take 1024 behind i 0 lt
      ∙ get_or-drop (1024 * high) words i 0

  between : (k : ℕ) → 1024 * low + 1024 ≤ k → k < 1024 * high → number_at all k ≡ number_at words k
  between k le lt =
      let there : 1024 * low + (1024 + (k - 1024 * low - 1024)) ≡ k = omega (arith, le) in
      get_or_append_left left (take 1024 from_low ++ drop 1024 behind) 0 k (omega (arith, lt, long_left))
      ∙ get_or-append_right (take (1024 * low) front) (take 1024 behind ++ drop 1024 from_low) (1024 * low) k 0 long_before (omega (arith, le))
      ∙ get_or-append_right (take 1024 behind) (drop 1024 from_low) 1024 (k - 1024 * low) 0 long_other (omega (arith, le))
      ∙ get_or-drop 1024 from_low (k - 1024 * low - 1024) 0
      ∙ get_or-drop (1024 * low) front (1024 + (k - 1024 * low - 1024)) 0
      ∙ ap (number_at front) there
      ∙ get_or-take (1024 * high) words k 0 lt

  in_high : (i : ℕ) → i < 1024 → number_at all (1024 * high + i) ≡ number_at words (1024 * low + i)
  in_high i lt =
      let there : 1024 * high + i - 1024 * high ≡ i = omega arith in
      get_or-append_right left (take 1024 from_low ++ drop 1024 behind) (1024 * high) (1024 * high + i) 0 long_left (omega arith)
      ∙ ap (number_at (take 1024 from_low ++ drop 1024 behind)) there
      ∙ get_or_append_left (take 1024 from_low) (drop 1024 behind) 0 i (omega (arith, lt, long_one))
      ∙ get_or-take 1024 from_low i 0 lt
      ∙ get_or-drop (1024 * low) front i 0
      ∙ get_or-take (1024 * high) words (1024 * low + i) 0 (omega (arith, lt, order))

  behind_high : (k : ℕ) → 1024 * high + 1024 ≤ k → number_at all k ≡ number_at words k
  behind_high k le =
      let there : 1024 * high + (1024 + (k - 1024 * high - 1024)) ≡ k = omega (arith, le) in
      get_or-append_right left (take 1024 from_low ++ drop 1024 behind) (1024 * high) k 0 long_left (omega (arith, le))
      ∙ get_or-append_right (take 1024 from_low) (drop 1024 behind) 1024 (k - 1024 * high) 0 long_one (omega (arith, le))
      ∙ get_or-drop 1024 behind (k - 1024 * high - 1024) 0
      ∙ get_or-drop (1024 * high) words (1024 + (k - 1024 * high - 1024)) 0
      ∙ ap (number_at words) there

  other_slots : (slot i : ℕ) → (slot ≡ low → ⊥) → (slot ≡ high → ⊥) → i < 1024 → number_at all (1024 * slot + i) ≡ number_at words (1024 * slot + i)
  other_slots slot i not_low not_high lt = elim (cases_lt slot low) [
    | inl before ↦ before_low (1024 * slot + i) (omega (arith, before, lt))
    | inr not_before ↦ elim (cases_lt slot high) [
      | inl inside ↦ between (1024 * slot + i) (omega (arith, not_before, not_low)) (omega (arith, inside, lt))
      | inr past ↦ behind_high (1024 * slot + i) (omega (arith, past, not_high))
    ]
  ]

  pub swapped_slots : AreSwapped low high words all
  swapped_slots = record {
    size = long_all;
    word = λ slot i lt. elim (cases_eq slot low) [
      | inl is ↦
          ap (λ (s : ℕ). number_at all (1024 * s + i)) is
          ∙ in_low i lt
          ∙ sym (ap (λ (s : ℕ). number_at words (1024 * s + i)) (ap (swapped_slot low high) is ∙ turned_one low high))
      | inr not_low ↦ elim (cases_eq slot high) [
        | inl is ↦
            ap (λ (s : ℕ). number_at all (1024 * s + i)) is
            ∙ in_high i lt
            ∙ sym (ap (λ (s : ℕ). number_at words (1024 * s + i)) (ap (swapped_slot low high) is ∙ turned_other low high))
        | inr not_high ↦
            other_slots slot i not_low not_high lt
            ∙ sym (ap (λ (s : ℕ). number_at words (1024 * s + i)) (turned_none low high slot not_low not_high))
      ]
    ];
  }

  pub swapped : (before other rest one last : List ℕ) → before ≡ take (1024 * low) front → other ≡ take 1024 behind → rest ≡ drop 1024 from_low
      → one ≡ take 1024 from_low → last ≡ drop 1024 behind → AreSwapped low high words (before ++ (other ++ rest) ++ (one ++ last))
  swapped before other rest one last before_is other_is rest_is one_is last_is =
      subst (AreSwapped low high words)
      (sym (ap (λ xs. xs ++ (other ++ rest) ++ (one ++ last)) before_is
      ∙ ap (λ xs. take (1024 * low) front ++ (xs ++ rest) ++ (one ++ last)) other_is
      ∙ ap (λ xs. take (1024 * low) front ++ (take 1024 behind ++ xs) ++ (one ++ last)) rest_is
      ∙ ap (λ xs. left ++ (xs ++ last)) one_is
      ∙ ap (λ xs. left ++ (take 1024 from_low ++ xs)) last_is))
      swapped_slots
