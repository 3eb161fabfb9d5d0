-- Zones of a device over members with so many chunks each: which chunk of the device each chunk of a member is.
use Rattle.std.proofs.Common.{◌≡◌, ℕ, zero, suc, ◌+◌, ◌-◌, ◌*◌, ◌/◌, ◌%◌, ◌<◌, ◌≤◌, min, Bool, List, [], ◌∷◌, length, get_or, sum, inl, inr, refl, ap, ◌∙◌, sym, subst, add-one, arith}
use Rattle.std.specs.Prelude.{nat_lt, nat_le, nat_eq, slice_index, fold, max}
use Rattle.std.specs.List.{list_any}
use Rattle.std.proofs.lemmas.Bool.{cases_Bool, cases_lt, cases_eq, lt-ltb, le-ltb, le-leb, lt-leb, eq-eqb, both_ways}
use Rattle.std.proofs.lemmas.Nat.{div_below, mod_below, mul-add-lt, div-mul-add, mod-mul-add, div-add-mod'}
use Rattle.std.proofs.lemmas.List.Folds.{list_any_at}
use Rattle.std.proofs.lemmas.List.Sums.{sum_by-cons}
use Rattle.std.proofs.Math.Nat.{mul_comm, suc-mul}
use Rattle.stack_base.specs.Mapping.{Slot, Zone, levels, reaching, zones_from, zones, in_zone, in_zones}
use Rattle.stack_base.proofs.Passing.{passing, passing-yes, passing-no, passing_there, passing_from, passing_same}

-- a chunk of the first zone, or of a later one
pub in_zones-in : (zone : Zone) (zones : List Zone) (e : ℕ) → e < zone.chunks → in_zones (zone ∷ zones) e ≡ in_zone zone e
unfolding in_zones
in_zones-in zone zones e lt = rw (lt-ltb e zone.chunks lt)

pub in_zones-behind : (zone : Zone) (zones : List Zone) (e : ℕ) → zone.chunks ≤ e → in_zones (zone ∷ zones) e ≡ in_zones zones (e - zone.chunks)
unfolding in_zones
in_zones-behind zone zones e ge = rw (le-ltb e zone.chunks ge)

-- the sum of n values from the one at a on
abbrev pub sum_from : (ℕ → ℕ) → ℕ → ℕ → ℕ
sum_from f a zero = 0
sum_from f a (suc n) = f a + sum_from f (a + 1) n

total_same : (f g : ℕ → ℕ) (a n : ℕ) → ((i : ℕ) → a ≤ i → i < a + n → f i ≡ g i) → sum_from f a n ≡ sum_from g a n
total_same f g a zero same = refl
total_same f g a (suc n) same =
    omega (arith, same a (omega arith) (omega arith), total_same f g (a + 1) n (λ i le lt. same i (omega arith) (omega arith)))

-- no value at all
total_none : (a n : ℕ) → sum_from (λ i. 0) a n ≡ 0
total_none a zero = refl
total_none a (suc n) = omega (arith, total_none (a + 1) n)

-- values of which none is between b and t, cut off at j between them: those that reach t have j - b more than where they are cut off at b
total_cut :
    (f : ℕ → ℕ) (b j t a n : ℕ) → b ≤ j → j ≤ t → ((i : ℕ) → a ≤ i → i < a + n → b < f i → t ≤ f i)
    → sum_from (λ i. min (f i) j) a n ≡ sum_from (λ i. min (f i) b) a n + length (passing (λ i. nat_le t (f i)) a n) * (j - b)
total_cut f b j t a zero low high gap = omega arith
total_cut f b j t a (suc n) low high gap =
    let test = λ (i : ℕ). nat_le t (f i) in
    let many = length (passing test (a + 1) n) in
    let rest = total_cut f b j t (a + 1) n low high (λ i le lt. gap i (omega arith) (omega arith)) in
    elim (cases_lt (f a) t) [
      | inl below ↦
          let cut : f a ≤ b = elim (cases_lt b (f a)) [ inl more ↦ absurd (omega (arith, gap a (omega arith) (omega arith) more)) | inr le ↦ le ] in
          rw (passing-no test a n (lt-leb t (f a) below)) (omega (arith, rest))
      | inr reaches ↦
          let more : suc many * (j - b) ≡ (j - b) + many * (j - b) = suc-mul many (j - b) ∙ omega arith in
          rw (passing-yes test a n (le-leb t (f a) reaches)) (omega (arith, rest, more))
    ]

-- no member has more than b chunks and less than t
abbrev pub HasGap : List ℕ → ℕ → ℕ → Type 0
HasGap counts b t = (i : ℕ) → i < length counts → b < slice_index counts i → t ≤ slice_index counts i

-- the levels behind b, in their order: up to each of them no member ends, and behind the last none goes on
abbrev pub IsEnumeration : List ℕ → ℕ → List ℕ → Type 0
IsEnumeration counts b [] = (i : ℕ) → i < length counts → slice_index counts i ≤ b
IsEnumeration counts b (t ∷ ts) = (b < t) × HasGap counts b t × IsEnumeration counts t ts

-- how many chunks the members have together, each up to its chunk j
abbrev pub before : List ℕ → ℕ → ℕ
before counts j = sum_from (λ i. min (slice_index counts i) j) 0 (length counts)

-- the number of a member's chunk j: behind the chunks before it of all members, and those at j of the members before this one
abbrev pub chunk_rank : List ℕ → ℕ → ℕ → ℕ
chunk_rank counts m j = before counts j + length (passing (λ i. nat_lt j (slice_index counts i)) 0 m)

-- a chunk of a member, with this number
pub record IsAt (counts : List ℕ) (to : Slot) (e : ℕ) : Type 0 where
  pub member : to.member < length counts
  pub at : to.at < slice_index counts to.member
  pub numbered : chunk_rank counts to.member to.at ≡ e

module _ (counts : List ℕ) where
  -- the chunks before a zone's end are those before its base and its own
  pub next_before : (b t : ℕ) → b < t → HasGap counts b t → before counts t ≡ before counts b + length (reaching counts t) * (t - b)
  unfolding reaching
  next_before b t rises gap =
      total_cut (slice_index counts) b t t 0 (length counts) (omega arith) (omega arith) (λ i le below. gap i (omega arith))

  -- behind the last level there is no chunk
  pub total_ends :
      (b : ℕ) → ((i : ℕ) → i < length counts → slice_index counts i ≤ b) → before counts b ≡ sum_from (slice_index counts) 0 (length counts)
  total_ends b ends =
      total_same (λ i. min (slice_index counts i) b) (slice_index counts) 0 (length counts) (λ i le below. omega (arith, ends i (omega arith)))

  -- numbers within a zone from b to t
  zone_number :
      (b t row k : ℕ) → b + row < t → HasGap counts b t → k ≤ length counts
      → chunk_rank counts k (b + row) ≡ before counts b + (row * length (reaching counts t) + length (passing (λ i. nat_le t (slice_index counts i)) 0 k))
  unfolding reaching
  zone_number b t row k lt gap within =
      let f = slice_index counts in
      let many = length (reaching counts t) in
      let cut : before counts (b + row) ≡ before counts b + many * (b + row - b) =
      total_cut f b (b + row) t 0 (length counts) (omega arith) (omega arith) (λ i le below. gap i (omega arith)) in
      let far : b + row - b ≡ row = omega arith in
      let turned : many * (b + row - b) ≡ row * many = ap (λ x. many * x) far ∙ mul_comm many row in
      let same : passing (λ i. nat_lt (b + row) (f i)) 0 k ≡ passing (λ i. nat_le t (f i)) 0 k =
      passing_same (λ i. nat_lt (b + row) (f i)) (λ i. nat_le t (f i)) 0 k (λ i le below. elim (cases_lt (f i) t) [
        | inl less ↦
            let ends : f i ≤ b = elim (cases_lt b (f i)) [ inl more ↦ absurd (omega (arith, gap i (omega arith) more)) | inr end ↦ end ] in
            le-ltb (b + row) (f i) (omega arith) ∙ sym (lt-leb t (f i) less)
        | inr reach ↦ lt-ltb (b + row) (f i) (omega arith) ∙ sym (le-leb t (f i) reach)
      ]) in
      omega (arith, cut, turned, ap length same)

  -- a zone from b to t
  abbrev pub zone : ℕ → ℕ → Zone
  zone b t = record { members = reaching counts t; base = b; chunks = length (reaching counts t) * (t - b) }

  zone_forward :
      (b t e : ℕ) → b < t → HasGap counts b t → e < length (reaching counts t) * (t - b)
      → IsAt counts (in_zone (zone b t) e) (before counts b + e)
  unfolding reaching
  zone_forward b t e rises gap lt =
      let f = slice_index counts in
      let test = λ (i : ℕ). nat_le t (f i) in
      let many = length (reaching counts t) in
      let pos : 0 < many = elim (cases_lt 0 many) [
        | inl some ↦ some
        | inr none ↦ (let zero_many : many ≡ 0 = omega arith in absurd (omega (arith, ap (λ x. x * (t - b)) zero_many)))
      ] in
      let row : e / many < t - b = div_below e many (t - b) pos (omega (arith, mul_comm many (t - b))) in
      let there = passing_from test 0 (length counts) (e % many) (mod_below e many pos) in
      let k = there.0 in
      let within : k < length counts = omega (arith, there.3) in
      let reach : t ≤ f k = elim (cases_lt (f k) t) [ inl less ↦ absurd (both_ways (test k) (lt-leb t (f k) less) there.4) | inr le ↦ le ] in
      let place : k - 0 ≡ k = omega arith in
      let index : length (passing test 0 k) ≡ e % many = ap (λ x. length (passing test 0 x)) (sym place) ∙ there.5 in
      subst (λ m. IsAt counts (record { member = m; at = b + e / many }) (before counts b + e)) (sym there.1) (record {
        member = within;
        at = omega arith;
        numbered = omega (arith, zone_number b t (e / many) k (omega arith) gap (omega arith), index, div-add-mod' e many);
      })

  -- each chunk of the zones is a chunk of a member, with its number
  pub zones_forward :
      (ts : List ℕ) (b e : ℕ) → IsEnumeration counts b ts → before counts b + e < sum_from (slice_index counts) 0 (length counts)
      → IsAt counts (in_zones (zones_from counts b ts) e) (before counts b + e)
  unfolding zones_from
  zones_forward [] b e ends lt =
      absurd (omega (arith, total_ends b ends))
  zones_forward (t ∷ ts) b e enum lt =
      let chunks = length (reaching counts t) * (t - b) in
      elim (cases_lt e chunks) [
        | inl inside ↦ rw (in_zones-in (zone b t) (zones_from counts t ts) e inside) (zone_forward b t e enum.0 enum.1 inside)
        | inr behind ↦
            let moved : before counts t ≡ before counts b + chunks = next_before b t enum.0 enum.1 in
            let same : before counts t + (e - chunks) ≡ before counts b + e = omega arith in
            rw (in_zones-behind (zone b t) (zones_from counts t ts) e behind)
            (subst (IsAt counts (in_zones (zones_from counts t ts) (e - chunks))) same (zones_forward ts t (e - chunks) enum.2 (omega arith)))
      ]

  -- chunk j of a member that has it, in a zone from b to t
  zone_back :
      (b t m j : ℕ) → HasGap counts b t → m < length counts → b ≤ j → j < t → j < slice_index counts m
      → (before counts b ≤ chunk_rank counts m j) × (chunk_rank counts m j - before counts b < length (reaching counts t) * (t - b))
      × (in_zone (zone b t) (chunk_rank counts m j - before counts b) ≡ record { member = m; at = j })
  unfolding reaching
  zone_back b t m j gap within low high has =
      let f = slice_index counts in
      let test = λ (i : ℕ). nat_le t (f i) in
      let many = length (reaching counts t) in
      let index = length (passing test 0 m) in
      let row = j - b in
      let reach : t ≤ f m = gap m within (omega arith) in
      let there = passing_there test 0 (length counts) m (omega arith) (omega arith) (le-leb t (f m) reach) in
      let place : m - 0 ≡ m = omega arith in
      let same : length (passing test 0 (m - 0)) ≡ index = ap (λ x. length (passing test 0 x)) place in
      let short : index < many = omega (arith, there.0) in
      let found : get_or (passing test 0 (length counts)) index 0 ≡ m = ap (λ x. get_or (passing test 0 (length counts)) x 0) (sym same) ∙ there.1 in
      let whole : b + row ≡ j = omega arith in
      let numbered : chunk_rank counts m j ≡ before counts b + (row * many + index) =
      ap (chunk_rank counts m) (sym whole) ∙ zone_number b t row m (omega arith) gap (omega arith) in
      let e : chunk_rank counts m j - before counts b ≡ row * many + index = omega arith in
      let member : slice_index (reaching counts t) ((chunk_rank counts m j - before counts b) % many) ≡ m =
      ap (λ x. slice_index (reaching counts t) (x % many)) e ∙ ap (slice_index (reaching counts t)) (mod-mul-add row many index short) ∙ found in
      let at : b + (chunk_rank counts m j - before counts b) / many ≡ j =
      ap (λ x. b + x / many) e ∙ ap (λ x. b + x) (div-mul-add row many index short) ∙ whole in (
        omega arith,
        omega (arith, mul-add-lt row many index (t - b) (omega arith) short),
        λ i. record { member = member i; at = at i },
      )

  -- so each chunk of a member is the chunk of the zones with its number
  pub zones_back :
      (ts : List ℕ) (b m j : ℕ) → IsEnumeration counts b ts → m < length counts → b ≤ j → j < slice_index counts m
      → (before counts b ≤ chunk_rank counts m j)
      × (in_zones (zones_from counts b ts) (chunk_rank counts m j - before counts b) ≡ record { member = m; at = j })
  unfolding zones_from
  zones_back [] b m j ends within low has = absurd (omega (arith, ends m within))
  zones_back (t ∷ ts) b m j enum within low has =
      elim (cases_lt j t) [
        | inl here ↦
            let part = zone_back b t m j enum.1 within low here has in
            (part.0, in_zones-in (zone b t) (zones_from counts t ts) (chunk_rank counts m j - before counts b) part.1 ∙ part.2)
        | inr beyond ↦
            let rest = zones_back ts t m j enum.2 within beyond has in
            let chunks = length (reaching counts t) * (t - b) in
            let moved : before counts t ≡ before counts b + chunks = next_before b t enum.0 enum.1 in
            let e = chunk_rank counts m j - before counts b in
            let left : e - chunks ≡ chunk_rank counts m j - before counts t = omega (arith, rest.0) in (
              omega (arith, rest.0),
              in_zones-behind (zone b t) (zones_from counts t ts) e (omega (arith, rest.0))
                  ∙ ap (in_zones (zones_from counts t ts)) left ∙ rest.1,
            )
      ]

  -- whether some member has exactly so many chunks
  abbrev pub is_level : ℕ → Bool
  is_level level = list_any (λ count. nat_eq count level) counts

  -- the levels in a range that begins behind b, and before any that follows b, and ends behind the last
  pub range_enumerates :
      (a n b : ℕ) → b < a → HasGap counts b a → ((i : ℕ) → i < length counts → slice_index counts i < a + n)
      → IsEnumeration counts b (passing is_level a n)
  range_enumerates a zero b rises gap ends = λ i lt. elim (cases_lt b (slice_index counts i)) [
    | inl more ↦ absurd (omega (arith, gap i lt more, ends i lt))
    | inr le ↦ le
  ]
  range_enumerates a (suc n) b rises gap ends = elim (cases_Bool (is_level a)) [
    | inl here ↦
        rw (passing-yes is_level a n here)
        (rises, gap, range_enumerates (a + 1) n a (omega arith) (λ i lt more. omega arith) (λ i lt. omega (arith, ends i lt)))
    | inr none ↦
        rw (passing-no is_level a n none)
        (range_enumerates (a + 1) n b (omega arith) (λ i lt more. elim (cases_eq (slice_index counts i) a) [
          | inl same ↦ absurd (both_ways (is_level a) none (list_any_at (λ count. nat_eq count a) counts i 0 lt (eq-eqb (slice_index counts i) a same)))
          | inr other ↦ omega (arith, gap i lt more)
        ]) (λ i lt. omega (arith, ends i lt)))
  ]

-- a fold of maxima is at least its start, and each element
pub fold_max_start : (c : ℕ) (cs : List ℕ) → c ≤ fold max c cs
fold_max_start c [] = omega arith
fold_max_start c (d ∷ cs) = omega (arith, fold_max_start (max c d) cs)

pub fold_max_le : (c : ℕ) (cs : List ℕ) (i : ℕ) → i < length cs → slice_index cs i ≤ fold max c cs
fold_max_le c [] i lt = absurd (omega arith)
fold_max_le c (d ∷ cs) zero lt = omega (arith, fold_max_start (max c d) cs)
fold_max_le c (d ∷ cs) (suc i) lt = fold_max_le (max c d) cs i (omega arith)

-- the levels of a device are all there are
pub levels_enumerate : (counts : List ℕ) → IsEnumeration counts 0 (levels counts)
unfolding levels
levels_enumerate counts =
    range_enumerates counts 1 (fold max 0 counts) 0 (omega arith) (λ i lt more. more) (λ i lt. omega (arith, fold_max_le 0 counts i lt))

-- values that are moved by one place have the same sum
total_moved : (f : ℕ → ℕ) (a n : ℕ) → sum_from f (a + 1) n ≡ sum_from (λ i. f (i + 1)) a n
total_moved f a zero = refl
total_moved f a (suc n) = omega (arith, total_moved f (a + 1) n)

-- the sum of all members' chunks
pub total_sum : (counts : List ℕ) → sum_from (slice_index counts) 0 (length counts) ≡ sum counts
total_sum [] = refl
total_sum (c ∷ cs) =
    let moved : sum_from (slice_index (c ∷ cs)) 1 (length cs) ≡ sum_from (slice_index cs) 0 (length cs) =
    total_moved (slice_index (c ∷ cs)) 0 (length cs) ∙ total_same (λ i. slice_index (c ∷ cs) (i + 1)) (slice_index cs) 0 (length cs) (λ i le lt. ap (slice_index (c ∷ cs)) (add-one i)) in
    omega (arith, moved, total_sum cs, sum_by-cons (λ x. x) c cs)

-- no chunk is before chunk 0
pub none_before : (counts : List ℕ) → before counts 0 ≡ 0
none_before counts = total_same (λ i. min (slice_index counts i) 0) (λ i. 0) 0 (length counts) (λ i le lt. omega arith) ∙ total_none 0 (length counts)

-- each chunk of a device is a chunk of a member, with its number
pub chunk_forward : (counts : List ℕ) (e : ℕ) → e < sum counts → IsAt counts (in_zones (zones counts) e) e
chunk_forward counts e lt =
    let same : before counts 0 + e ≡ e = omega (arith, none_before counts) in
    subst (IsAt counts (in_zones (zones counts) e)) same
    (zones_forward counts (levels counts) 0 e (levels_enumerate counts) (omega (arith, total_sum counts, none_before counts)))

-- and each chunk of a member is the chunk of the device with its number
pub chunk_back :
    (counts : List ℕ) (m j : ℕ) → m < length counts → j < slice_index counts m
    → in_zones (zones counts) (chunk_rank counts m j) ≡ record { member = m; at = j }
chunk_back counts m j within has =
    let same : chunk_rank counts m j - before counts 0 ≡ chunk_rank counts m j = omega (arith, none_before counts) in
    ap (in_zones (zones counts)) (sym same) ∙ (zones_back counts (levels counts) 0 m j (levels_enumerate counts) within (omega arith) has).1
