-- Each kind of step keeps the rule of a clock's table.
use Rattle.std.proofs.Common.{◌≡◌, ℕ, ◌+◌, ◌<◌, ◌≤◌, eqb, max, Bool, true, false, List, [], ◌∷◌, ◌++◌, length, set, arith, ap, refl, sym, subst, ◌∙◌, eq-eqb, ne_eqb}
use Rattle.std.specs.Prelude.{sum_by, IsPermutation, slice_index}
use Rattle.std.proofs.lemmas.List.Sums.{sum_by-append}
use Rattle.std.proofs.lemmas.List.Sorted.{IsPermutation-trans}
use Rattle.std.proofs.lemmas.List.{append-nil}
use mathlib.Core.Option.{some, none}
use mathlib.Core.Logic.{dite}
use native.Mathlib.Decide.{ℕ_discrete}
use prog.Atomic.{either}
use lib.ListN.{get_elem?}
use Rattle.atomic_table.proofs.Lists.{set_else}
use Rattle.atomic_table.specs.Table.{State, Me, Act, keeps, Valid, Allows, Splits, Joins, carried_after, stepped, step}
use Rattle.tick_clock.specs.declared.ticking.PassRank.{PassRank}
use Rattle.tick_clock.specs.declared.ticking.PassRank.TheVariants.{First, Other, Spent}
use Rattle.tick_clock.specs.declared.ticking.Ticket.{Ticket}
use Rattle.tick_clock.specs.declared.ticking.PassView.{PassView}
use Rattle.tick_clock.specs.Tickets.{is_first_pass, one_more_pass, last_of, IsRising}
use Rattle.tick_clock.specs.Ticking.{is_live_pass, first_in, other_in, split_in, first_passes, other_passes, passes_split, passes_joined, all_drawn, IsTidy, IsTicking, spent_pass_view, split_pass_view, fresh_pass_view, joined_pass_view, after_try, ShowsView, TriesToDraw, Looks}
use Rattle.tick_clock.proofs.Rows.{rises, ends_with}
use Rattle.tick_clock.proofs.Views.{sum_by-put, put_at, parted, put_shared, one_drawn, drawn-last, join_shared, put_tidy, last_tidy, live_tidy, none_split, all_spent}

word_set : (words : List ℕ) (n : ℕ) → length words ≡ 1 → slice_index (set words 0 n) 0 ≡ n
word_set [] n h = absurd (omega (arith, h))
word_set (x ∷ words) n h = refl

width_set : (words : List ℕ) (n : ℕ) → length words ≡ 1 → length (set words 0 n) ≡ 1
width_set [] n h = absurd (omega (arith, h))
width_set (x ∷ words) n h = h

-- what a pass that has found the word shows
shows : (s : State ℕ PassView) (id : ℕ) (v : PassView) → IsTicking s → get_elem? s.views id ≡ some v → v.known ≡ slice_index s.words 0 → slice_index s.words 0 < 18446744073709551616 → ShowsView v
shows s id v rule e found fits = record {
  row = rule.row;
  elsewhere = all_drawn (set s.views id spent_pass_view);
  rising = rule.rising;
  ends = found ∙ rule.ends;
  fits = omega (arith, found, fits);
  parted = IsPermutation-trans rule.row (all_drawn s.views) (v.drawn ++ all_drawn (set s.views id spent_pass_view)) rule.shared (parted s.views id v e);
  whole = λ first.
      let at = λ (f : PassView → ℕ). sum_by-put f s.views id v spent_pass_view e in
      let gone : List PassView = set s.views id spent_pass_view in
      let one : first_passes v ≡ 1 = ap first_in first in
      let split : passes_split v ≡ v.joined = ap split_in first in
      let other : other_passes v ≡ 0 = ap other_in first in
      let no_first : sum_by first_passes gone ≡ 0 = omega (arith, at first_passes, rule.one_first, one) in
      let no_split : sum_by passes_split gone ≡ 0 = none_split gone no_first in
      let no_other : sum_by other_passes gone ≡ 0 = omega (arith, at other_passes, at passes_split, at passes_joined, rule.counted, no_split, split, other) in
      all_spent (slice_index s.words 0) gone (put_tidy (slice_index s.words 0) s.views id spent_pass_view rule.tidy (omega arith, λ _. refl)) no_first no_other;
}

-- the word becomes n, which is not less, and one view and the row change
moved : (s : State ℕ PassView) (id n : ℕ) (carried : List (ℕ × ℕ)) (v w : PassView) (row : List Ticket) (rule : IsTicking s) → get_elem? s.views id ≡ some v
    → IsRising 0 row → n ≡ last_of 0 row → slice_index s.words 0 ≤ n
    → ((rest : List Ticket) → IsPermutation rule.row (v.drawn ++ rest) → IsPermutation row (w.drawn ++ rest))
    → w.rank ≡ v.rank → w.joined ≡ v.joined → w.known ≡ n → is_live_pass v.rank ≡ true
    → IsTicking (stepped s 0 n id carried w keeps)
moved s id n carried v w row rule e rising ends above shared rank joined known live =
    let at = λ (f : PassView → ℕ). sum_by-put f s.views id v w e in
    let here : slice_index (set s.words 0 n) 0 ≡ n = word_set s.words n rule.width in
    let first : first_passes w ≡ first_passes v = ap first_in rank in
    let other : other_passes w ≡ other_passes v = ap other_in rank in
    let split : passes_split w ≡ passes_split v = ap split_in rank in
    let below : (j : ℕ) (u : PassView) → get_elem? s.views j ≡ some u → IsTidy n u = λ j u f. let tidy = rule.tidy j u f in (omega (arith, tidy.0, above), tidy.1) in
    record {
      row = row;
      width = width_set s.words n rule.width;
      rising = rising;
      ends = here ∙ ends;
      shared = put_shared rule.row row s.views id v w e rule.shared shared;
      tidy = λ i u f. subst (λ k. IsTidy k u) (sym here) (put_tidy n s.views id w below (live_tidy n w (omega (arith, known)) (ap is_live_pass rank ∙ live)) i u f);
      one_first = omega (arith, at first_passes, rule.one_first, first);
      counted = omega (arith, at passes_split, at other_passes, at passes_joined, rule.counted, other, split, joined);
    }

-- a look, and a try that finds another word
finds : (s : State ℕ PassView) (id : ℕ) (me : Me ℕ PassView) (rule : IsTicking s) → get_elem? s.views id ≡ some me.0 → is_live_pass me.0.rank ≡ true → slice_index s.words 0 < 18446744073709551616
    → let w : PassView = record me.0 { known = slice_index s.words 0 } in
    IsTicking (stepped s 0 (slice_index s.words 0) id me.1 w keeps) × (me.0.known ≤ slice_index s.words 0) × ShowsView w
finds s id me rule e live fits =
    let n : ℕ = slice_index s.words 0 in
    let w : PassView = record me.0 { known = n } in
    let now : IsTicking (stepped s 0 n id me.1 w keeps) = moved s id n me.1 me.0 w rule.row rule e rule.rising rule.ends (omega arith) (λ rest p. p) refl refl refl live in
    let here : slice_index (set s.words 0 n) 0 ≡ n = word_set s.words n rule.width in
    (now, (rule.tidy id me.0 e).0, shows (stepped s 0 n id me.1 w keeps) id w now (put_at s.views id me.0 w e) (sym here) (omega (arith, here, fits)))

pub looks : (slots id : ℕ) (me : Me ℕ PassView) → is_live_pass me.0.rank ≡ true → Allows IsTicking slots id me 0 (λ n. n) (Looks (step slots 0 0 0 none) me)
looks slots id me live s rule _ e fits =
    let found = finds s id me rule e live fits in
    (record me.0 { known = slice_index s.words 0 }, keeps, tt, found.0, (refl, refl, found.1, found.2))

module _ (slots id old new seen : ℕ) (me : Me ℕ PassView) (live : is_live_pass me.0.rank ≡ true)
    (next : new ≡ max old seen + 1) (fits : new < 18446744073709551616) (s : State ℕ PassView) (rule : IsTicking s)
    (e : get_elem? s.views id ≡ some me.0) (bound : slice_index s.words 0 < 18446744073709551616) where
  abbrev May : Bool → Type 0
  May b = (w : PassView) × (a : Act ℕ) × Valid s.homes me.1 a × IsTicking (stepped s 0 (either b new (slice_index s.words 0)) id me.1 w a)
      × ((carried_after me.1 a ≡ me.1) × (w ≡ after_try b seen new (slice_index s.words 0) me.0) × (me.0.known ≤ slice_index s.words 0) × ShowsView w)

  hits : slice_index s.words 0 ≡ old → May true
  hits same =
      let t : Ticket = record { number = new; seen = seen } in
      let w : PassView = record me.0 { known = new; drawn = me.0.drawn ++ t ∷ [] } in
      let rising : IsRising 0 (rule.row ++ t ∷ []) = rises 0 rule.row t rule.rising (omega (arith, next, same, rule.ends)) in
      let now : IsTicking (stepped s 0 new id me.1 w keeps) =
      moved s id new me.1 me.0 w (rule.row ++ t ∷ []) rule e rising (sym (ends_with 0 rule.row t)) (omega (arith, next, same)) (one_drawn rule.row me.0.drawn t) refl refl refl live in
      let here : slice_index (set s.words 0 new) 0 ≡ new = word_set s.words new rule.width in
      (w, keeps, tt, now, (refl, refl, (rule.tidy id me.0 e).0, shows (stepped s 0 new id me.1 w keeps) id w now (put_at s.views id me.0 w e) (sym here) (omega (arith, here, fits))))

  misses : May false
  misses =
      let found = finds s id me rule e live bound in
      (record me.0 { known = slice_index s.words 0 }, keeps, tt, found.0, (refl, refl, found.1, found.2))

  tried : May (eqb (slice_index s.words 0) old)
  tried = dite (ℕ_discrete (slice_index s.words 0) old)
      (λ same. subst May (sym (eq-eqb (slice_index s.words 0) old same)) (hits same))
      (λ ne. subst May (sym (ne_eqb (slice_index s.words 0) old ne)) misses)

pub draws : (slots id old new seen : ℕ) (me : Me ℕ PassView) → is_live_pass me.0.rank ≡ true → new ≡ max old seen + 1 → new < 18446744073709551616
    → Allows IsTicking slots id me 0 (λ n. either (eqb n old) new n) (TriesToDraw (step slots 0 old new (some seen)) me)
draws slots id old new seen me live next fits s rule _ e bound = tried slots id old new seen me live next fits s rule e bound

false_not : false ≡ true → ⊥
false_not e = cc

split_tells : (r : PassRank) → is_first_pass r ≡ true
    → (first_in (one_more_pass r) ≡ first_in r) × (other_in (one_more_pass r) ≡ other_in r) × (split_in (one_more_pass r) ≡ split_in r + 1) × (is_live_pass (one_more_pass r) ≡ true)
split_tells (First split) h = (refl, refl, refl, refl)
split_tells Other h = absurd (false_not h)
split_tells Spent h = absurd (false_not h)

pub splits : (id : ℕ) (v : PassView) → is_first_pass v.rank ≡ true → Splits IsTicking id v (split_pass_view v) (fresh_pass_view v)
splits id v first s rule e =
    let now : List PassView = set s.views id (split_pass_view v) in
    let at = λ (f : PassView → ℕ). sum_by-put f s.views id v (split_pass_view v) e in
    let last = λ (f : PassView → ℕ). sum_by-append f now (fresh_pass_view v ∷ []) in
    let tells = split_tells v.rank first in
    let found = (rule.tidy id v e).0 in
    let word : ℕ = slice_index s.words 0 in
    record {
      row = rule.row;
      width = rule.width;
      rising = rule.rising;
      ends = rule.ends;
      shared = subst (IsPermutation rule.row) (sym (drawn-last now (fresh_pass_view v) ∙ append-nil (all_drawn now))) (put_shared rule.row rule.row s.views id v (split_pass_view v) e rule.shared (λ rest p. p));
      tidy = last_tidy word now (fresh_pass_view v) (put_tidy word s.views id (split_pass_view v) rule.tidy (live_tidy word (split_pass_view v) found tells.3)) (live_tidy word (fresh_pass_view v) found refl);
      one_first = omega (arith, at first_passes, last first_passes, rule.one_first, tells.0);
      counted = omega (arith, at passes_split, at other_passes, at passes_joined, last passes_split, last other_passes, last passes_joined, rule.counted, tells.1, tells.2);
    }

other_tells : (r : PassRank) → is_first_pass r ≡ false → is_live_pass r ≡ true → (first_in r ≡ 0) × (other_in r ≡ 1) × (split_in r ≡ 0)
other_tells (First split) h live = absurd (false_not (sym h))
other_tells Other h live = (refl, refl, refl)
other_tells Spent h live = absurd (false_not live)

pub joins : (id other : ℕ) (v w : PassView) → is_live_pass v.rank ≡ true → is_first_pass w.rank ≡ false → is_live_pass w.rank ≡ true → Joins IsTicking id v other w (joined_pass_view v w) spent_pass_view
joins id other v w live plain alive s rule e apart e' =
    let u : PassView = joined_pass_view v w in
    let now : List PassView = set s.views id u in
    let at = λ (f : PassView → ℕ). sum_by-put f s.views id v u e in
    let gone = λ (f : PassView → ℕ). sum_by-put f now other w spent_pass_view e' in
    let tells = other_tells w.rank plain alive in
    let word : ℕ = slice_index s.words 0 in
    let theirs : get_elem? s.views other ≡ some w = sym (set_else s.views id other u apart) ∙ e' in
    record {
      row = rule.row;
      width = rule.width;
      rising = rule.rising;
      ends = rule.ends;
      shared = join_shared rule.row s.views id other v w u e apart e' refl rule.shared;
      tidy = put_tidy word now other spent_pass_view (put_tidy word s.views id u rule.tidy (live_tidy word u (omega (arith, (rule.tidy id v e).0, (rule.tidy other w theirs).0)) live)) (omega arith, λ _. refl);
      one_first = omega (arith, at first_passes, gone first_passes, rule.one_first, tells.0);
      counted = omega (arith, at passes_split, at other_passes, at passes_joined, gone passes_split, gone other_passes, gone passes_joined, rule.counted, tells.1, tells.2);
    }
