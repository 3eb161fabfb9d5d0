-- Flags of a front, behind which none is set: the runs are those of the front.
use Rattle.std.proofs.Common.{◌≡◌, ◌+◌, ◌-◌, ◌≤◌, ◌++◌, ℕ, zero, suc, Bool, true, false, List, [], ◌∷◌, Option, Some, None, map, filter, length, drop, replicate, refl, sym, ap, subst, ◌∙◌, arith, length-append}
use Rattle.std.specs.Prelude.{MatchOption}
use Rattle.std.specs.List.{range_with_len, prefix_len}
use Rattle.std.proofs.lemmas.List.{get_or_past, append-nil, drop-replicate, length-map}
use Rattle.std.proofs.lemmas.List.Elements.{filter-append}
use Rattle.stack_base.proofs.ListLemmas.{range_joined}
use Rattle.stack_base.specs.declared.ids.Range.{Range}
use Rattle.stack_base.specs.Words.{is_written}
use Rattle.model_disks.specs.Runs.{flag, starts_run, run_at, runs_from, IsApart, IsNextRun, EndsInWord}
use Rattle.model_disks.proofs.WrittenLemmas.{filter_none, unset_starts_none}

-- the flags of an image whose front has these
abbrev shown : List Bool → ℕ → List Bool
shown flags more = flags ++ replicate more false

flag_shown : (flags : List Bool) (more x : ℕ) → flag (shown flags more) x ≡ flag flags x
flag_shown [] zero x = refl
flag_shown [] (suc more) zero = refl
flag_shown [] (suc more) (suc x) = flag_shown [] more x
flag_shown (f ∷ flags) more zero = refl
flag_shown (f ∷ flags) more (suc x) = flag_shown flags more x

starts_shown : (flags : List Bool) (more x : ℕ) → starts_run (shown flags more) x ≡ starts_run flags x
unfolding starts_run
starts_shown flags more x = rw (flag_shown flags more x, flag_shown flags more (x - 1)) refl

none_set : (more : ℕ) → prefix_len (λ f. f) (replicate more false) ≡ 0
none_set zero = refl
none_set (suc more) = refl

prefix_shown : (flags : List Bool) (more x : ℕ) → prefix_len (λ f. f) (drop x (shown flags more)) ≡ prefix_len (λ f. f) (drop x flags)
prefix_shown [] more zero = none_set more
prefix_shown [] more (suc x) = ap (prefix_len (λ f. f)) (drop-replicate {X = Bool} (suc x) more false) ∙ none_set (more - suc x)
prefix_shown (true ∷ flags) more zero = ap (λ n. 1 + n) (prefix_shown flags more zero)
prefix_shown (false ∷ flags) more zero = refl
prefix_shown (f ∷ flags) more (suc x) = prefix_shown flags more x

run_shown : (flags : List Bool) (more x : ℕ) → run_at (shown flags more) x ≡ run_at flags x
unfolding run_at
run_shown flags more x = ap (λ n. record { start = x; len = n }) (prefix_shown flags more x)

runs_shown : (flags : List Bool) (more from : ℕ) → runs_from (shown flags more) from ≡ runs_from flags from
unfolding runs_from
runs_shown flags more from =
    let all = shown flags more in
    let here = length flags - from in
    let behind = length all - from - here in
    let parts : length all - from ≡ here + behind = omega (arith, length-append flags (replicate more false)) in
    let starts : starts_run all ≡ starts_run flags = λ k x. starts_shown flags more x k in
    let runs : run_at all ≡ run_at flags = λ k x. run_shown flags more x k in
    let none = filter_none (starts_run flags) (from + here) behind (λ x le lt. unset_starts_none flags x (get_or_past flags x false (omega arith))) in
    ap (λ n. map (run_at all) (filter (starts_run all) (range_with_len from n))) parts
    ∙ ap (λ (test : ℕ → Bool). map (run_at all) (filter test (range_with_len from (here + behind)))) starts
    ∙ ap (λ (run : ℕ → Range). map run (filter (starts_run flags) (range_with_len from (here + behind)))) runs
    ∙ ap (map (run_at flags))
    (ap (filter (starts_run flags)) (range_joined from here behind)
    ∙ filter-append (starts_run flags) (range_with_len from here) (range_with_len (from + here) behind)
    ∙ ap (λ rest. filter (starts_run flags) (range_with_len from here) ++ rest) none
    ∙ append-nil (filter (starts_run flags) (range_with_len from here)))

module _ (image : List (List ℕ)) (flags : List Bool) (more : ℕ) (is : map is_written image ≡ flags ++ replicate more false) where
  -- a place that is inside no run of the image is inside none of the front
  pub apart_in_front : (from : ℕ) → IsApart (map is_written image) from → IsApart flags from
  apart_in_front from apart set =
      let before = subst (λ fs. IsApart fs from) is apart in
      sym (starts_shown flags more from) ∙ before (flag_shown flags more from ∙ set)

  -- and the other way round
  apart_in_image : (from : ℕ) → IsApart flags from → IsApart (map is_written image) from
  apart_in_image from apart =
      subst (λ fs. IsApart fs from) (sym is) (λ set. starts_shown flags more from ∙ apart (sym (flag_shown flags more from) ∙ set))

  -- the first run of the front is that of the image
  pub runs_in_image : (from : ℕ) (run : Option Range) → IsNextRun flags from run → IsNextRun (map is_written image) from run
  runs_in_image from run first =
      let same : runs_from flags ≡ runs_from (map is_written image) =
      λ k x. (sym (ap (λ fs. runs_from fs x) is ∙ runs_shown flags more x)) k in
      subst (λ (runs : ℕ → List Range). MatchOption run (runs from ≡ []) (λ r. runs from ≡ r ∷ runs (r.start + r.len))) same first

  -- it ends within the image
  pub place_in_image : (from : ℕ) (run : Option Range)
      → MatchOption run (Unit {0}) (EndsInWord from (length flags)) → MatchOption run (Unit {0}) (EndsInWord from (length image))
  place_in_image from None place = tt
  place_in_image from (Some run) ((ahead, within), small) =
      let fits : run.start + run.len ≤ length image =
      omega (arith, within, ap length is, length-append flags (replicate more false), length-map image is_written) in
      ((ahead, fits), small)

  -- and its end is inside no run
  pub end_in_image : (run : Option Range) → MatchOption run (Unit {0}) (λ r. IsApart flags (r.start + r.len))
      → MatchOption run (Unit {0}) (λ r. IsApart (map is_written image) (r.start + r.len))
  end_in_image None apart = tt
  end_in_image (Some run) apart = apart_in_image (run.start + run.len) apart
