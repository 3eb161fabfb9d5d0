-- The written runs are the maximal runs.
use Rattle.std.proofs.Common.{◌≡◌, ◌+◌, ◌-◌, ◌<◌, ◌≤◌, ◌==◌, ◌||◌, ℕ, zero, suc, Bool, true, false, not, List, [], ◌∷◌, map, filter, length, drop, inl, inr, refl, sym, ap, ◌∙◌, subst, arith, length-drop}
use Rattle.std.specs.Prelude.{All, Contains}
use Rattle.std.specs.List.{range_with_len, prefix_len, AllPairs}
use Rattle.std.proofs.lemmas.List.{get_or-drop, get_or_past}
use Rattle.std.proofs.lemmas.List.Sums.{prefix_len-le-length, prefix_len_passes, prefix_len_stops}
use Rattle.std.proofs.lemmas.List.Elements.{All-cons, All-nil, Contains-append_left, Contains-append_right}
use Rattle.std.proofs.lemmas.Bool.Decides.{nat_tests}
use Rattle.std.proofs.lemmas.Bool.{cases_Bool, cases_eq, cases_lt, and_parts, or_cases, not-true, eqb-true}
use Rattle.stack_base.specs.declared.ids.Range.{Range}
use Rattle.stack_base.specs.Words.{is_written}
use Rattle.model_disks.specs.Runs.{flag, starts_run, run_at, runs_from, written_runs, IsMaximalRun, WrittenRunsAreMaximal}
use Rattle.model_disks.proofs.WrittenLemmas.{run_is, behind_unset_starts}

-- a run that is first in its list starts before all others
all_pairs_cons : {X : Type 0} (R : X → X → Type 0) (x : X) (xs : List X) → All (R x) xs → AllPairs R xs → AllPairs R (x ∷ xs)
all_pairs_cons R x xs first others zero zero d lt within = absurd (omega arith)
all_pairs_cons R x xs first others zero (suc j) d lt within = first j d (omega arith)
all_pairs_cons R x xs first others (suc i) zero d lt within = absurd (omega arith)
all_pairs_cons R x xs first others (suc i) (suc j) d lt within = others i j d (omega arith) (omega arith)

module _ (flags : List Bool) where
  -- what a start of a run says of the sector and of the one before it
  set_at : (x : ℕ) → starts_run flags x ≡ true → flag flags x ≡ true
  unfolding starts_run
  set_at x starts = (and_parts (flag flags x) (x == 0 || not (flag flags (x - 1))) starts).0

  unset_before : (x : ℕ) → starts_run flags x ≡ true → 0 < x → flag flags (x - 1) ≡ false
  unfolding starts_run
  unset_before x starts some =
      elim (or_cases (x == 0) (not (flag flags (x - 1))) (and_parts (flag flags x) (x == 0 || not (flag flags (x - 1))) starts).1) [
        | inl none ↦ absurd (omega (arith, eqb-true x 0 none))
        | inr unset ↦ not-true (flag flags (x - 1)) unset
      ]

  -- how many sectors follow
  long : ℕ → ℕ
  long x = prefix_len (λ f. f) (drop x flags)

  short_enough : (x : ℕ) → x < length flags → x + long x ≤ length flags
  unfolding long
  short_enough x within = omega (arith, prefix_len-le-length (λ f. f) (drop x flags), length-drop x flags)

  set_inside : (x y : ℕ) → x ≤ y → y < x + long x → flag flags y ≡ true
  unfolding long
  set_inside x y le lt =
      let there : x + (y - x) ≡ y = omega arith in
      ap (flag flags) (sym there) ∙ sym (get_or-drop x flags (y - x) false) ∙ prefix_len_passes (λ f. f) (drop x flags) (y - x) false (omega arith)

  unset_behind : (x : ℕ) → x < length flags → flag flags (x + long x) ≡ false
  unfolding long
  unset_behind x within = elim (cases_lt (long x) (length (drop x flags))) [
    | inl more ↦ sym (get_or-drop x flags (long x) false) ∙ prefix_len_stops (λ f. f) (drop x flags) false more
    | inr end ↦ get_or_past flags (x + long x) false (omega (arith, length-drop x flags))
  ]

  some_sectors : (x : ℕ) → x < length flags → flag flags x ≡ true → 0 < long x
  some_sectors x within set = elim (cases_eq (long x) 0) [
    | inl none ↦
        let here : x + long x ≡ x = omega arith in
        let unset = ap (flag flags) (sym here) ∙ unset_behind x within in
        cc (set, unset)
    | inr some ↦ omega (arith, some)
  ]

  is_maximal : (x : ℕ) → x < length flags → starts_run flags x ≡ true → IsMaximalRun flags (run_at flags x)
  unfolding run_at long
  is_maximal x within starts = record {
    some = some_sectors x within (set_at x starts);
    within = short_enough x within;
    inside = set_inside x;
    before = unset_before x starts;
    behind = unset_behind x within;
  }

  -- the runs that start at one of m places from a on
  runs : ℕ → ℕ → List Range
  runs a m = map (run_at flags) (filter (starts_run flags) (range_with_len a m))

  runs_if : (a m : ℕ) → starts_run flags a ≡ true → runs a (suc m) ≡ run_at flags a ∷ runs (a + 1) m
  unfolding runs
  runs_if a m starts = rw starts refl

  runs_else : (a m : ℕ) → starts_run flags a ≡ false → runs a (suc m) ≡ runs (a + 1) m
  unfolding runs
  runs_else a m other = rw other refl

  runs_none : (a : ℕ) → runs a 0 ≡ []
  unfolding runs
  runs_none a = refl

  -- what holds of each start holds of each run
  all_runs : (P : Range → Type 0) (a m : ℕ) → ((x : ℕ) → a ≤ x → x < a + m → starts_run flags x ≡ true → P (run_at flags x)) → All P (runs a m)
  all_runs P a zero each = subst (All P) (sym (runs_none a)) (All-nil P)
  all_runs P a (suc m) each =
      let others = all_runs P (a + 1) m (λ x le lt. each x (omega arith) (omega arith)) in
      elim (cases_Bool (starts_run flags a)) [
        | inl starts ↦ subst (All P) (sym (runs_if a m starts)) (All-cons P (run_at flags a) (runs (a + 1) m) (each a (omega arith) (omega arith) starts) others)
        | inr other ↦ subst (All P) (sym (runs_else a m other)) others
      ]

  -- each start has its run
  has_run : (a m x : ℕ) → a ≤ x → x < a + m → starts_run flags x ≡ true → Contains (runs a m) (run_at flags x)
  has_run a zero x le lt starts = absurd (omega arith)
  has_run a (suc m) x le lt starts = elim (cases_eq a x) [
    | inl same ↦
        let here : starts_run flags a ≡ true = ap (starts_run flags) same ∙ starts in
        subst (λ y. Contains (runs a (suc m)) (run_at flags y)) same
        (subst (λ all. Contains all (run_at flags a)) (sym (runs_if a m here)) (Contains-append_left (run_at flags a ∷ []) (runs (a + 1) m) (run_at flags a) (0, omega arith, refl)))
    | inr other ↦
        let behind = has_run (a + 1) m x (omega (arith, other)) (omega arith) starts in
        elim (cases_Bool (starts_run flags a)) [
          | inl here ↦
              subst (λ all. Contains all (run_at flags x)) (sym (runs_if a m here)) (Contains-append_right (run_at flags a ∷ []) (runs (a + 1) m) (run_at flags x) behind)
          | inr none ↦ subst (λ all. Contains all (run_at flags x)) (sym (runs_else a m none)) behind
        ]
  ]

  starts_later : (x y : ℕ) → x < y → (run_at flags x).start < (run_at flags y).start
  unfolding run_at
  starts_later x y lt = lt

  rising_runs : (a m : ℕ) → AllPairs (λ one other. one.start < other.start) (runs a m)
  rising_runs a zero = subst (AllPairs (λ one other. one.start < other.start)) (sym (runs_none a)) (λ i j d lt within. absurd (omega arith))
  rising_runs a (suc m) = elim (cases_Bool (starts_run flags a)) [
    | inl here ↦
        subst (AllPairs (λ one other. one.start < other.start)) (sym (runs_if a m here))
        (all_pairs_cons (λ one other. one.start < other.start) (run_at flags a) (runs (a + 1) m)
        (all_runs (λ other. (run_at flags a).start < other.start) (a + 1) m (λ x le lt starts. starts_later a x (omega arith))) (rising_runs (a + 1) m))
    | inr none ↦ subst (AllPairs (λ one other. one.start < other.start)) (sym (runs_else a m none)) (rising_runs (a + 1) m)
  ]

  -- a maximal run is the one at its start
  starts_at : (run : Range) → IsMaximalRun flags run → starts_run flags run.start ≡ true
  unfolding starts_run
  starts_at run maximal =
      let set : flag flags run.start ≡ true = maximal.inside run.start (omega arith) (omega (arith, maximal.some)) in
      elim (cases_eq run.start 0) [
        | inl first ↦ grind (arith, nat_tests)
        | inr other ↦ behind_unset_starts flags run.start set (maximal.before (omega (arith, other)))
      ]

  run_at_is : (run : Range) → IsMaximalRun flags run → run_at flags run.start ≡ run
  run_at_is run maximal =
      let len : run.start + run.len - run.start ≡ run.len = omega arith in
      run_is flags run.start (run.start + run.len) (omega (arith, maximal.some)) maximal.inside maximal.behind
      ∙ ap (λ n. record { start = run.start; len = n }) len

pub written_runs_are_maximal : WrittenRunsAreMaximal
unfolding runs_from runs
written_runs_are_maximal = record {
  maximal = λ image. all_runs (map is_written image) (IsMaximalRun (map is_written image)) 0 (length (map is_written image) - 0) (λ x le lt starts. is_maximal (map is_written image) x (omega arith) starts);
  all = λ image run maximal. subst (Contains (written_runs image)) (run_at_is (map is_written image) run maximal)
      (has_run (map is_written image) 0 (length (map is_written image) - 0) run.start (omega arith) (omega (arith, maximal.some, maximal.within)) (starts_at (map is_written image) run maximal));
  rising = λ image. rising_runs (map is_written image) 0 (length (map is_written image) - 0);
}
