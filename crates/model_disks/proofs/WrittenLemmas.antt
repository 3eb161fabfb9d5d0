-- The runs of written sectors, from one to the next.
use Rattle.std.proofs.Common.{◌≡◌, ◌+◌, ◌-◌, ◌<◌, ◌≤◌, inl, inr, ℕ, zero, suc, Bool, true, false, List, [], ◌∷◌, ◌++◌, map, filter, length, take, drop, refl, sym, ap, ◌∙◌, subst, arith, length-drop}
use Rattle.std.specs.Bool.{beq}
use Rattle.std.specs.List.{range_with_len, prefix_len, AllWithin}
use Rattle.std.proofs.lemmas.List.{get_or-drop, get_or-take, get_or_past, length-take-le}
use Rattle.std.proofs.lemmas.List.Elements.{filter-append}
use Rattle.std.proofs.lemmas.Bool.{cases_eq}
use Rattle.std.proofs.lemmas.Bool.Decides.{nat_tests}
use Rattle.stack_base.proofs.ListLemmas.{range_joined}
use Rattle.model_disks.specs.Runs.{flag, starts_run, run_at, runs_from, IsApart, IsFirst}

-- no number of the range passes
pub filter_none : (p : ℕ → Bool) (a m : ℕ) → ((x : ℕ) → a ≤ x → x < a + m → p x ≡ false) → filter p (range_with_len a m) ≡ []
filter_none p a zero none = refl
filter_none p a (suc m) none = rw (none a (omega arith) (omega arith)) (filter_none p (a + 1) m (λ x le lt. none x (omega arith) (omega arith)))

-- the first m flags are set, and the next one is not
prefix_is : (flags : List Bool) (m : ℕ) → ((x : ℕ) → x < m → flag flags x ≡ true) → flag flags m ≡ false → prefix_len (λ f. f) flags ≡ m
prefix_is [] zero set unset = refl
prefix_is [] (suc m) set unset = cc (set 0 (omega arith))
prefix_is (f ∷ fs) zero set unset = rw unset refl
prefix_is (f ∷ fs) (suc m) set unset =
    let first : f ≡ true = set 0 (omega arith) in
    rw first (omega (arith, prefix_is fs m (λ x lt. set (suc x) (omega arith)) unset))

-- numbers that do not pass can be passed over
skip : (p : ℕ → Bool) (a m k b : ℕ) → b ≡ a + m → ((x : ℕ) → a ≤ x → x < b → p x ≡ false) → filter p (range_with_len a (m + k)) ≡ filter p (range_with_len b k)
skip p a m k b is none =
    ap (filter p) (range_joined a m k)
    ∙ filter-append p (range_with_len a m) (range_with_len (a + m) k)
    ∙ ap (λ front. front ++ filter p (range_with_len (a + m) k)) (filter_none p a m (λ x le lt. none x le (omega arith)))
    ∙ ap (λ c. filter p (range_with_len c k)) (sym is)

-- one number passes, then others do not
one_of : (p : ℕ → Bool) (from start stop m more k : ℕ) → start ≡ from + m → stop ≡ start + 1 + more
    → ((x : ℕ) → from ≤ x → x < start → p x ≡ false) → p start ≡ true → ((x : ℕ) → start + 1 ≤ x → x < stop → p x ≡ false)
    → filter p (range_with_len from (m + suc (more + k))) ≡ start ∷ filter p (range_with_len stop k)
one_of p from start stop m more k is_start is_stop before here inside =
    skip p from m (suc (more + k)) start is_start before
    ∙ rw here (ap (λ rest. start ∷ rest) (skip p (start + 1) more k stop is_stop inside))

pub unset_starts_none : (flags : List Bool) (x : ℕ) → flag flags x ≡ false → starts_run flags x ≡ false
unfolding starts_run
unset_starts_none flags x unset = rw unset refl

pub inside_starts_none : (flags : List Bool) (x : ℕ) → 0 < x → flag flags (x - 1) ≡ true → starts_run flags x ≡ false
unfolding starts_run
inside_starts_none flags x some set = grind (arith, nat_tests)

pub behind_unset_starts : (flags : List Bool) (x : ℕ) → flag flags x ≡ true → flag flags (x - 1) ≡ false → starts_run flags x ≡ true
unfolding starts_run
behind_unset_starts flags x set unset = grind (arith, nat_tests)

-- no run starts where nothing is written
pub no_runs : (flags : List Bool) (from : ℕ) → from ≤ length flags → ((x : ℕ) → from ≤ x → x < length flags → flag flags x ≡ false) → runs_from flags from ≡ []
unfolding runs_from
no_runs flags from within none =
    ap (map (run_at flags)) (filter_none (starts_run flags) from (length flags - from) (λ x le lt. unset_starts_none flags x (none x le (omega arith))))

-- nor past the last sector
pub no_runs_past : (flags : List Bool) (from : ℕ) → length flags ≤ from → runs_from flags from ≡ []
unfolding runs_from
no_runs_past flags from past =
    let none : length flags - from ≡ 0 = omega arith in
    ap (λ n. map (run_at flags) (filter (starts_run flags) (range_with_len from n))) none

-- the run that starts here is as long as flags are set
pub run_is : (flags : List Bool) (start stop : ℕ) → start < stop → ((x : ℕ) → start ≤ x → x < stop → flag flags x ≡ true) → flag flags stop ≡ false
    → run_at flags start ≡ record { start = start; len = stop - start }
unfolding run_at
run_is flags start stop some set unset =
    let last : start + (stop - start) ≡ stop = omega arith in
    let len : prefix_len (λ f. f) (drop start flags) ≡ stop - start =
    prefix_is (drop start flags) (stop - start)
    (λ x lt. get_or-drop start flags x false ∙ set (start + x) (omega arith) (omega arith))
    (get_or-drop start flags (stop - start) false ∙ ap (flag flags) last ∙ unset) in
    rw len refl

-- a run starts at its first sector
starts_here : (flags : List Bool) (from start : ℕ) → from ≤ start → IsApart flags from
    → ((x : ℕ) → from ≤ x → x < start → flag flags x ≡ false) → flag flags start ≡ true → starts_run flags start ≡ true
starts_here flags from start ordered apart before set = elim (cases_eq from start) [
  | inl same ↦ subst (λ x. flag flags x ≡ true → starts_run flags x ≡ true) same apart set
  | inr other ↦ behind_unset_starts flags start set (before (start - 1) (omega (arith, other)) (omega (arith, other)))
]

-- a run from start to stop is the first, and the others are those behind it
pub next_run_is : (flags : List Bool) (from start stop : ℕ) → from ≤ start → start < stop → stop ≤ length flags
    → IsApart flags from
    → ((x : ℕ) → from ≤ x → x < start → flag flags x ≡ false) → ((x : ℕ) → start ≤ x → x < stop → flag flags x ≡ true) → flag flags stop ≡ false
    → runs_from flags from ≡ record { start = start; len = stop - start } ∷ runs_from flags stop
unfolding runs_from
next_run_is flags from start stop ordered some within apart before set unset =
    let parts : length flags - from ≡ start - from + suc (stop - start - 1 + (length flags - stop)) = omega arith in
    let first = starts_here flags from start ordered apart before (set start (omega arith) some) in
    ap (λ n. map (run_at flags) (filter (starts_run flags) (range_with_len from n))) parts
    ∙ ap (map (run_at flags)) (one_of (starts_run flags) from start stop (start - from) (stop - start - 1) (length flags - stop) (omega arith) (omega arith)
    (λ x le lt. unset_starts_none flags x (before x le lt)) first
    (λ x le lt. inside_starts_none flags x (omega arith) (set (x - 1) (omega arith) (omega arith))))
    ∙ ap (λ run. run ∷ map (run_at flags) (filter (starts_run flags) (range_with_len stop (length flags - stop)))) (run_is flags start stop some set unset)

-- the first sector is not inside a run
pub apart_at_start : (flags : List Bool) → IsApart flags 0
unfolding starts_run
apart_at_start flags set = rw set refl

-- nor is what is past the last
pub apart_past : (flags : List Bool) (from : ℕ) → length flags ≤ from → IsApart flags from
apart_past flags from past set = cc (set, get_or_past flags from false past)

-- nothing is written at the place that was found for what is not, nor past the end
pub unset_at : (flags : List Bool) (from place : ℕ) → IsFirst flags from false place → flag flags place ≡ false
unset_at flags from place found = grind (arith, get_or_past, nat_tests)

-- of two flags that do not differ, one is the other
pub agrees : (a b : Bool) → beq a b ≡ true → a ≡ b
agrees true true same = refl
agrees true false same = cc
agrees false true same = cc
agrees false false same = refl

-- a flag that is not set
not_true : (a : Bool) → beq a true ≡ false → a ≡ false
not_true true same = cc
not_true false same = refl

-- nor is one of a part of the flags in which none is
pub unset_span : (flags : List Bool) (place size n : ℕ) → place + size ≤ length flags → n ≡ size
    → AllWithin (λ f. beq f true ≡ false) (take n (drop place flags)) 0 (length (take n (drop place flags)))
    → (x : ℕ) → place ≤ x → x < place + size → flag flags x ≡ false
unset_span flags place size n within is none x le lt =
    let there : place + (x - place) ≡ x = omega (arith, le) in
    let inside : x - place < n = omega (arith, le, lt, is) in
    let long : length (take n (drop place flags)) ≡ n = length-take-le n (drop place flags) (omega (arith, within, is, length-drop place flags)) in
    sym (ap (flag flags) there)
    ∙ sym (get_or-drop place flags (x - place) false)
    ∙ sym (get_or-take n (drop place flags) (x - place) false inside)
    ∙ not_true (flag (take n (drop place flags)) (x - place)) (none (x - place) false (omega arith) (omega (arith, inside, long)))

-- a sector that is not written is not the first that is
pub unset_before : (flags : List Bool) (from place : ℕ) → IsFirst flags from true place → from < length flags → flag flags from ≡ false → from < place
unset_before flags from place found within unset = elim (cases_eq from place) [
  | inl same ↦
      let set = found.here (omega (arith, same, within)) in
      cc (set, ap (flag flags) same, unset)
  | inr other ↦ omega (arith, other, found.behind)
]

-- a written sector is not the first that is not written
pub run_has_sectors : (flags : List Bool) (from start stop : ℕ) → IsFirst flags from true start → IsFirst flags start false stop
    → start < length flags → start < stop
run_has_sectors flags from start stop first end within = elim (cases_eq start stop) [
  | inl same ↦
      let set = first.here within in
      let unset = ap (flag flags) same ∙ unset_at flags start stop end in
      cc (set, unset)
  | inr other ↦ omega (arith, other, end.behind)
]
