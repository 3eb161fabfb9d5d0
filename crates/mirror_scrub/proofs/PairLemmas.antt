-- The flags of a pair, sector by sector.
use Rattle.std.proofs.Common.{◌≡◌, ◌==◌, ◌+◌, ◌-◌, ◌<◌, ◌≤◌, inl, inr, ℕ, Bool, true, false, List, ◌∷◌, Option, None, Some, length, not, sym, ap, ◌∙◌, subst, refl, arith}
use Rattle.std.specs.Prelude.{MatchOption}
use Rattle.std.specs.List.{count_by, range_with_len}
use Rattle.std.proofs.lemmas.Bool.{cases_eq, cases_lt}
use Rattle.std.proofs.lemmas.Bool.Decides.{nat_tests}
use Rattle.std.proofs.lemmas.List.FromFn.{get_or-map-range_with_len, length-map-range_with_len}
use Rattle.stack_base.specs.declared.ids.Range.{Range}
use Rattle.model_disks.specs.Runs.{EndsWithin, IsApart, IsFirst, IsNextRun, flag, runs_from}
use Rattle.model_disks.proofs.WrittenLemmas.{inside_starts_none, no_runs, next_run_is, run_has_sectors, unset_at}
use Rattle.mirror_scrub.specs.declared.pair.Pair.{Pair}
use Rattle.mirror_scrub.specs.declared.stretch.Stretch.{Stretch}
use Rattle.mirror_scrub.specs.Seen.{differing}
use Rattle.mirror_scrub.specs.Stretches.{IsFirstRunOf, IsStretchOf, differ_at, differ_in, flags_in}
use Rattle.mirror_scrub.proofs.CountLemmas.{count_flags, count_none, count_on, count_some, counts_along}

module _ (p : Pair) where
  pub flag_in : (x : ℕ) → x < p.size → flag (flags_in p) x ≡ differ_in p x
  unfolding differing
  flag_in x lt = get_or-map-range_with_len (differ_in p) 0 p.size x x false lt (omega arith)

  pub flags_long : length (flags_in p) ≡ p.size
  unfolding differing
  flags_long = length-map-range_with_len (differ_in p) 0 p.size

  pub flags_count : count_by (λ (differing : Bool). differing) (flags_in p) ≡ count_by (differ_in p) (range_with_len 0 p.size)
  unfolding differing
  flags_count = count_flags (differ_in p) (range_with_len 0 p.size)

  -- what is so of all sectors before a place, and of the first ones of the stretch that begins there
  pub others_on : (s : Stretch) (so : Bool) (from at n : ℕ) → IsStretchOf p at s → n ≤ s.len
      → ((x : ℕ) → from ≤ x → x < at → differ_in p x ≡ not so) → ((i : ℕ) → i < n → differ_at s i ≡ not so)
      → (x : ℕ) → from ≤ x → x < at + n → differ_in p x ≡ not so
  others_on s so from at n is most before here x le lt = elim (cases_lt x at) [
    | inl first ↦ before x le first
    | inr behind ↦
        let place : at + (x - at) ≡ x = omega (arith, behind) in
        let inside : x - at < n = omega (arith, behind, lt) in
        ap (differ_in p) (sym place) ∙ sym (is.same (x - at) (omega (arith, inside, most))) ∙ here (x - at) inside
  ]

  -- the same from a place in the stretch on
  pub others_in : (s : Stretch) (so : Bool) (from at n : ℕ) → IsStretchOf p at s → n ≤ s.len → at ≤ from
      → ((i : ℕ) → from - at ≤ i → i < n → differ_at s i ≡ not so)
      → (x : ℕ) → from ≤ x → x < at + n → differ_in p x ≡ not so
  others_in s so from at n is most behind here x le lt =
      let place : at + (x - at) ≡ x = omega (arith, behind, le) in
      let inside : x - at < n = omega (arith, behind, le, lt) in
      ap (differ_in p) (sym place) ∙ sym (is.same (x - at) (omega (arith, inside, most))) ∙ here (x - at) (omega (arith, behind, le)) inside

  -- the first one behind sectors that are not so
  pub first_behind : (so : Bool) (from at place : ℕ) → from ≤ at → at ≤ p.size → ((x : ℕ) → from ≤ x → x < at → differ_in p x ≡ not so)
      → IsFirst (flags_in p) at so place → IsFirst (flags_in p) from so place
  first_behind so from at place behind within before first = record {
    behind = omega (arith, behind, first.behind);
    within = first.within;
    others = λ x le lt. elim (cases_lt x at) [
      | inl near ↦ flag_in x (omega (arith, near, within)) ∙ before x le near
      | inr far ↦ first.others x far lt
    ];
    here = first.here;
  }

  -- the first that is so, from what holds of the sectors
  pub first_is : (from : ℕ) (so : Bool) (place : ℕ) → from ≤ place → place ≤ p.size → ((x : ℕ) → from ≤ x → x < place → differ_in p x ≡ not so)
      → (place < p.size → differ_in p place ≡ so) → IsFirst (flags_in p) from so place
  first_is from so place behind within others here = record {
    behind = behind;
    within = omega (arith, within, flags_long);
    others = λ x le lt. flag_in x (omega (arith, lt, within)) ∙ others x le lt;
    here = λ lt. let inside : place < p.size = omega (arith, lt, flags_long) in flag_in place inside ∙ here inside;
  }

  -- the count of a stretch is added
  pub counts_on : (s : Stretch) (at : ℕ) → IsStretchOf p at s
      → count_by (differ_in p) (range_with_len 0 (at + s.len))
      ≡ count_by (differ_in p) (range_with_len 0 at) + count_by (differ_at s) (range_with_len 0 s.len)
  counts_on s at is =
      omega (
        arith,
        count_on (differ_in p) at s.len,
        counts_along (differ_at s) (differ_in p) 0 at s.len (λ i lt. ap (differ_at s) (omega arith) ∙ is.same i lt),
      )

-- a place that is not set is not inside a run
pub apart_unset : (flags : List Bool) (x : ℕ) → flag flags x ≡ false → IsApart flags x
apart_unset flags x unset set = cc (set, unset)

-- none is set where the first that is set is none, and then alone
pub none_set : (flags : List Bool) (size place : ℕ) → length flags ≡ size → IsFirst flags 0 true place
    → (place == size) ≡ (count_by (λ (set : Bool). set) flags == 0)
none_set flags size place long first = elim (cases_eq place size) [
  | inl same ↦
      let none = count_none flags (λ x lt. first.others x (omega arith) (omega (arith, lt, same, long))) in
      grind (arith, nat_tests, same, none)
  | inr other ↦
      let some = count_some flags place (first.here (omega (arith, other, first.within, long))) in
      grind (arith, nat_tests, other, some)
]

-- the first flag that is so, behind others that are not
pub first_after : (flags : List Bool) (so : Bool) (from next place : ℕ) → from ≤ next → ((x : ℕ) → from ≤ x → x < next → flag flags x ≡ not so)
    → IsFirst flags next so place → IsFirst flags from so place
first_after flags so from next place behind before first = record {
  behind = omega (arith, behind, first.behind);
  within = first.within;
  others = λ x le lt. elim (cases_lt x next) [ inl near ↦ before x le near | inr far ↦ first.others x far lt ];
  here = first.here;
}

-- the end of a run is looked for behind its first place
pub end_behind : (flags : List Bool) (start stop : ℕ) → flag flags start ≡ true → IsFirst flags (start + 1) false stop
    → IsFirst flags start false (start + (stop - start))
end_behind flags start stop set first =
    let whole : stop ≡ start + (stop - start) = omega (arith, first.behind) in
    subst (IsFirst flags start false) whole
    (first_after flags false start (start + 1) stop (omega arith) (λ x le lt. ap (flag flags) (omega (arith, le, lt)) ∙ set) first)

-- the first run behind flags of which none is set
pub run_after : (flags : List Bool) (from next : ℕ) (run : Option Range) → from ≤ next → ((x : ℕ) → from ≤ x → x < next → flag flags x ≡ false)
    → IsFirstRunOf flags next run → IsFirstRunOf flags from run
run_after flags from next None behind none first = first_after flags true from next (length flags) behind none first
run_after flags from next (Some run) behind none first =
    record { start = first_after flags true from next run.start behind none first.start; inside = first.inside; end = first.end }

-- a place that is not inside a run is not set where it is behind one that is
pub unset_behind : (flags : List Bool) (from : ℕ) → IsApart flags from → 0 < from → flag flags (from - 1) ≡ true → flag flags from ≡ false
unset_behind flags from apart some set = by_flag (flag flags from) refl where
  by_flag : (b : Bool) → flag flags from ≡ b → flag flags from ≡ false
  by_flag true is = cc (apart is, inside_starts_none flags from some set)
  by_flag false is = is

-- The first run of flags, from a place that is not inside one.
module _ (flags : List Bool) (from : ℕ) where
  pub runs_first : (run : Option Range) → from ≤ length flags → IsApart flags from → IsFirstRunOf flags from run
      → IsNextRun flags from run
  runs_first None within apart first = no_runs flags from within (λ x le lt. first.others x le lt)
  runs_first (Some run) within apart first =
      let stop = run.start + run.len in
      let len : stop - run.start ≡ run.len = omega arith in
      let some = run_has_sectors flags from run.start stop first.start first.end first.inside in
      next_run_is flags from run.start stop first.start.behind some first.end.within apart first.start.others first.end.others
      (unset_at flags run.start stop first.end)
      ∙ ap (λ n. record { start = run.start; len = n } ∷ runs_from flags stop) len

  pub place_first : (run : Option Range) (size : ℕ) → length flags ≡ size → IsFirstRunOf flags from run
      → MatchOption run (Unit {0}) (EndsWithin from size)
  place_first None size long first = tt
  place_first (Some run) size long first =
      let some = run_has_sectors flags from run.start (run.start + run.len) first.start first.end first.inside in
      (omega (arith, first.start.behind, some), omega (arith, first.end.within, long))

  pub apart_first : (run : Option Range) → IsFirstRunOf flags from run → MatchOption run (Unit {0}) (λ run. IsApart flags (run.start + run.len))
  apart_first None first = tt
  apart_first (Some run) first = apart_unset flags (run.start + run.len) (unset_at flags run.start (run.start + run.len) first.end)
