-- Splits, joins and the close keep the rule of a lock's table.
use Rattle.std.proofs.Common.{◌≡◌, ℕ, ◌+◌, ◌%◌, ◌<◌, inl, inr, ⊎_elim, true, false, List, [], ◌∷◌, ◌++◌, None, arith, refl, sym, ◌∙◌, ap, subst, nat_lt, eq-eqb, true≢false}
use Rattle.std.specs.Prelude.{sum_by, slice_set, slice_index}
use Rattle.std.proofs.Math.Decide.{ℕ_discrete}
use Rattle.std.proofs.Math.Logic.{dite}
use Rattle.std.proofs.lemmas.List.{append-nil}
use Rattle.std.proofs.lemmas.List.Sums.{sum_by-append, sum_by-cons}
use Rattle.std.proofs.lemmas.Bool.{lt-ltb}
use mathlib.Core.Option.{some, none, some-injective}
use lib.ListN.{get_elem?}
use Rattle.std.specs.declared.snapshot.Snapshot.{Snapshot}
use Rattle.atomic_table.specs.Table.{State, Me, step, keeps, Allows}
use Rattle.atomic_table.proofs.Lists.{at_set, set_else, at_longer, at_snoc}
use Rattle.seat_lock.specs.declared.view.View.{View}
use Rattle.seat_lock.specs.declared.view.Rank.TheVariants.{First}
use Rattle.seat_lock.specs.declared.view.Phase.TheVariants.{Idle, Serving}
use Rattle.seat_lock.specs.History.{indicator, count, calls_by, HistoryLeaves}
use Rattle.seat_lock.specs.Seats.{is_first, split_of, own}
use Rattle.seat_lock.specs.Turning.{around, is_live, firsts_of, others_of, out_of, firsts, others, split_by, joined_by, out, number_count, HasTurn, Stands, Knows, IsServing, IsTurning, first_after_split, new_view, joined_view, spent_view, Learnt}
use Rattle.seat_lock.proofs.Sums.{sum_by-put, sum_by-at, sum_by-two, sum_none, put_all, tail_all}
use Rattle.seat_lock.proofs.Histories.{count_one, count_append, calls_by-append, none_of, nil_left, longer_is, squeeze, nothing, all_calls, all_none, all_prefix}
use Rattle.seat_lock.proofs.Turns.{idle_not, no_split, not_live, first_more, first_live, plain_other, one_most, number_step}
use Rattle.seat_lock.proofs.Keeping.{moved, same_place}

first_same : (ws : List ℕ) (a b : ℕ) → ws ≡ a % around ∷ b % around ∷ [] → slice_set ws 0 (slice_index ws 0) ≡ a % around ∷ b % around ∷ []
first_same ws a b e = ap (λ (l : List ℕ). slice_set l 0 (slice_index l 0)) e

module _ {T A R : Type 0} where
  -- without the lead's view there is no lead, and nobody else has split a seat
  no_first : (xs : List (View T A R)) → sum_by firsts xs ≡ 0 → sum_by split_by xs ≡ 0
  no_first [] h = refl
  no_first (v ∷ xs) h =
      let a = sum_by-cons firsts v xs in
      let b = sum_by-cons split_by v xs in
      let n = no_split v.known.rank (omega arith) in
      omega (arith, no_first xs (omega arith))

  split_is : (xs : List (View T A R)) (id : ℕ) (v : View T A R) → get_elem? xs id ≡ some v → firsts v ≡ 1 → sum_by firsts xs ≡ 1 → sum_by split_by xs ≡ split_by v
  split_is xs id v e one all =
      let put = λ (f : View T A R → ℕ). sum_by-put f xs id v spent_view e in
      let none = no_first (slice_set xs id spent_view) (omega (arith, put firsts)) in
      omega (arith, none, put split_by)

module _ {T D A R M : Type 0} (plain : T → D) (mark : T → M) (answers : D → A → R → D → Type 0) (key : Snapshot T) where
  abbrev Rule : State T (View T A R) → Type 0
  Rule s = IsTurning plain mark answers key s

  pub splits : (s : State T (View T A R)) (id : ℕ) (v : View T A R) → is_first v.known.rank ≡ true → v.phase ≡ Idle → split_of v.known.rank < 65535 → Rule s → get_elem? s.views id ≡ some v
      → Rule record { words = s.words; homes = s.homes; views = slice_set s.views id (first_after_split v) ++ new_view v ∷ [] }
  splits s id v lead idle few t e =
      let k = t.each id v e in
      let u : View T A R = first_after_split v in
      let w : View T A R = new_view v in
      let put = λ (f : View T A R → ℕ). sum_by-put f s.views id v u e in
      let tail = λ (f : View T A R → ℕ). sum_by-append f (slice_set s.views id u) (w ∷ []) in
      let cons = λ (f : View T A R → ℕ). sum_by-cons f w [] in
      let m = first_more v.known.rank lead in
      let live = first_live v.known.rank lead in
      let split = split_is s.views id v e m.3 t.one_first in
      let given : split_of v.known.rank + 1 ≡ t.given = omega (arith, split, t.given_is) in
      let not_serving : v.phase ≡ Serving t.served → ⊥ = λ h. idle_not t.served (sym idle ∙ h) in
      let place = same_place plain mark answers key t.log t.served s.homes s.views id v u e not_serving not_serving t.place in
      let none_log : calls_by ((split_of v.known.rank + 1) ∷ []) t.log ≡ [] = subst (λ n. calls_by (n ∷ []) t.log ≡ []) (sym given) (none_of t.given t.log t.made) in
      let cut : calls_by ((split_of v.known.rank + 1) ∷ []) v.known.seen ++ calls_by ((split_of v.known.rank + 1) ∷ []) k.prefix.0 ≡ [] = sym (calls_by-append ((split_of v.known.rank + 1) ∷ []) v.known.seen k.prefix.0) ∙ ap (calls_by ((split_of v.known.rank + 1) ∷ [])) (sym k.prefix.1) ∙ none_log in
      let none_seen : calls_by ((split_of v.known.rank + 1) ∷ []) v.known.seen ≡ [] = nil_left (calls_by ((split_of v.known.rank + 1) ∷ []) v.known.seen) (calls_by ((split_of v.known.rank + 1) ∷ []) k.prefix.0) cut in
      let knows_u : Knows t.served t.drawn t.log key u = record { start = λ _. k.start live.0; prefix = k.prefix; own_calls = k.own_calls; own_number = λ _. k.own_number live.0; spent = λ d. absurd (true≢false (sym live.1 ∙ d)); parts = k.parts; stands = k.stands } in
      let knows_w : Knows t.served t.drawn t.log key w = record { start = λ _. k.start live.0; prefix = k.prefix; own_calls = none_log ∙ sym none_seen; own_number = λ _. count_one (split_of v.known.rank + 1) (split_of v.known.rank + 1) ∙ ap indicator (eq-eqb (split_of v.known.rank + 1) (split_of v.known.rank + 1) refl); spent = λ d. absurd (true≢false d); parts = (((v.known.seen, refl), none_seen), ((v.known.seen, refl), all_none v.known.seen)); stands = tt } in
      record {
        log = t.log;
        served = t.served;
        drawn = t.drawn;
        given = t.given + 1;
        words = t.words;
        place = ⊎_elim (λ p. inl (p.0, p.1, p.2, tail_all (λ x. IsServing t.served x → ⊥) (slice_set s.views id u) w (λ h. idle_not t.served h) p.3)) (λ p. inr (p.0, (p.1.0, p.1.1, at_longer (slice_set s.views id u) (w ∷ []) p.1.0 p.1.1 p.1.2, p.1.3))) place;
        each = tail_all (λ x. Knows t.served t.drawn t.log key x) (slice_set s.views id u) w knows_w (put_all (λ x. Knows t.served t.drawn t.log key x) s.views id u knows_u (λ j x ne a. t.each j x a));
        apart = λ i j x y n ne a b h l.
            ⊎_elim
            (λ a1. ⊎_elim
            (λ b1. ⊎_elim
            (λ q. ⊎_elim (λ r. ne (q.0 ∙ sym r.0)) (λ r. subst (HasTurn n) idle (subst (λ (z : View T A R). HasTurn n z.phase) (sym q.1) h)) (at_set s.views id j u y b1))
            (λ q. ⊎_elim (λ r. subst (HasTurn n) idle (subst (λ (z : View T A R). HasTurn n z.phase) (sym r.1) l)) (λ r. t.apart i j x y n ne q.1 r.1 h l) (at_set s.views id j u y b1))
            (at_set s.views id i u x a1))
            (λ b1. subst (λ (z : View T A R). HasTurn n z.phase) (sym b1) l)
            (at_snoc (slice_set s.views id u) w y j b))
            (λ a1. subst (λ (z : View T A R). HasTurn n z.phase) (sym a1) h)
            (at_snoc (slice_set s.views id u) w x i a);
        turns_out = omega (arith, put out, tail out, cons out, t.turns_out);
        one_first = omega (arith, put firsts, tail firsts, cons firsts, t.one_first, m);
        counted = omega (arith, put split_by, put others, put joined_by, tail split_by, tail others, tail joined_by, cons split_by, cons others, cons joined_by, t.counted, m);
        numbers = λ x. let step_on = number_step x t.given in let same : count x ((split_of v.known.rank + 1) ∷ []) ≡ count x (t.given ∷ []) = ap (λ n. count x (n ∷ [])) given in omega (arith, put (number_count x), tail (number_count x), cons (number_count x), t.numbers x, step_on, same);
        given_is = omega (arith, put split_by, tail split_by, cons split_by, t.given_is, m);
        few = omega (arith, given);
        made = λ k' d h. let a = t.made k' d h in omega arith;
      }

  still_there : (s : State T (View T A R)) (id other : ℕ) (v u : View T A R) → get_elem? s.views id ≡ some v → u.phase ≡ Idle → (n i : ℕ) (x : View T A R)
      → get_elem? (slice_set (slice_set s.views id u) other spent_view) i ≡ some x → HasTurn n x.phase → get_elem? s.views i ≡ some x
  still_there s id other v u e idle n i x a h =
      ⊎_elim (λ p. absurd (subst (λ (z : View T A R). HasTurn n z.phase) (sym p.1) h))
      (λ p. ⊎_elim (λ q. absurd (subst (HasTurn n) idle (subst (λ (z : View T A R). HasTurn n z.phase) (sym q.1) h))) (λ q. q.1) (at_set s.views id i u x p.1))
      (at_set (slice_set s.views id u) other i spent_view x a)

  pub joins : (s : State T (View T A R)) (id other : ℕ) (v w : View T A R) → v.phase ≡ Idle → is_live v.known.rank ≡ true → w.phase ≡ Idle → is_first w.known.rank ≡ false → is_live w.known.rank ≡ true → Rule s → get_elem? s.views id ≡ some v
      → ¬ (other ≡ id) → get_elem? (slice_set s.views id (joined_view v w)) other ≡ some w
      → Rule record { words = s.words; homes = s.homes; views = slice_set (slice_set s.views id (joined_view v w)) other spent_view }
  joins s id other v w idle live idle' plain' live' t e ne e' =
      let u : View T A R = joined_view v w in
      let old : get_elem? s.views other ≡ some w = sym (set_else s.views id other u ne) ∙ e' in
      let k = t.each id v e in
      let k' = t.each other w old in
      let l = longer_is v.known.seen w.known.seen t.log k.prefix k'.prefix in
      let mine = squeeze v.known.numbers v.known.seen u.known.seen t.log l.0 l.2 k.own_calls in
      let theirs = squeeze w.known.numbers w.known.seen u.known.seen t.log l.1 l.2 k'.own_calls in
      let both : calls_by (v.known.numbers ++ w.known.numbers) t.log ≡ calls_by (v.known.numbers ++ w.known.numbers) u.known.seen =
      ap (calls_by (v.known.numbers ++ w.known.numbers)) l.2.1 ∙ calls_by-append (v.known.numbers ++ w.known.numbers) u.known.seen l.2.0
      ∙ ap (λ x. calls_by (v.known.numbers ++ w.known.numbers) u.known.seen ++ x) (nothing v.known.numbers w.known.numbers l.2.0 mine.1 theirs.1) ∙ append-nil (calls_by (v.known.numbers ++ w.known.numbers) u.known.seen) in
      let two = sum_by-two (number_count v.known.number) s.views id other v w (λ h. ne (sym h)) e old in
      let one = k.own_number live in
      let put = λ (f : View T A R → ℕ). sum_by-put f s.views id v u e in
      let gone = λ (f : View T A R → ℕ). sum_by-put f (slice_set s.views id u) other w spent_view e' in
      let o = plain_other w.known.rank plain' live' in
      let not_serving : v.phase ≡ Serving t.served → ⊥ = λ h. idle_not t.served (sym idle ∙ h) in
      let not_serving' : w.phase ≡ Serving t.served → ⊥ = λ h. idle_not t.served (sym idle' ∙ h) in
      let knows_u : Knows t.served t.drawn t.log key u = record {
        start = k.start;
        prefix = l.2;
        own_calls = both;
        own_number = λ _. omega (arith, count_append v.known.number v.known.numbers w.known.numbers, two, one, t.numbers v.known.number, one_most (nat_lt v.known.number t.given));
        spent = λ d. absurd (true≢false (sym live ∙ d));
        parts = ((l.0, mine.0), (l.1, theirs.0));
        stands = subst (Stands t.served t.drawn t.log u.known.seen) (sym idle) tt;
      } in
      let knows_s : Knows t.served t.drawn t.log key spent_view = record { start = λ d. absurd (true≢false (sym d)); prefix = (t.log, refl); own_calls = all_none t.log; own_number = λ d. absurd (true≢false (sym d)); spent = λ _. (refl, refl); parts = tt; stands = tt } in
      let still = λ (i : ℕ) (x : View T A R) (a : get_elem? (slice_set (slice_set s.views id u) other spent_view) i ≡ some x) (n : ℕ) (h : HasTurn n x.phase).
      still_there s id other v u e idle n i x a h in
      record {
        log = t.log;
        served = t.served;
        drawn = t.drawn;
        given = t.given;
        words = t.words;
        place = same_place plain mark answers key t.log t.served s.homes (slice_set s.views id u) other w spent_view e' not_serving' (λ h. idle_not t.served h) (same_place plain mark answers key t.log t.served s.homes s.views id v u e not_serving not_serving t.place);
        each = put_all (λ x. Knows t.served t.drawn t.log key x) (slice_set s.views id u) other spent_view knows_s (λ j x n a. put_all (λ y. Knows t.served t.drawn t.log key y) s.views id u knows_u (λ i y n' b. t.each i y b) j x a);
        apart = λ i j x y n d a b h m. t.apart i j x y n d (still i x a n h) (still j y b n m) h m;
        turns_out = omega (arith, put out, gone out, t.turns_out, ap out_of idle');
        one_first = omega (arith, put firsts, gone firsts, t.one_first, o);
        counted = omega (arith, put split_by, put others, put joined_by, gone split_by, gone others, gone joined_by, t.counted, o);
        numbers = λ x. omega (arith, put (number_count x), gone (number_count x), t.numbers x, count_append x v.known.numbers w.known.numbers);
        given_is = omega (arith, put split_by, gone split_by, t.given_is, o);
        few = t.few;
        made = t.made;
      }

  -- where all others were joined, the first seat has seen the whole history, and the thing is at home
  pub ends : (s : State T (View T A R)) (id : ℕ) (v : View T A R) → v.known.rank ≡ First v.known.joined → v.phase ≡ Idle → Rule s → get_elem? s.views id ≡ some v
      → (own v.known ≡ v.known.seen) × ((kept : T) × (s.homes ≡ some kept ∷ []) × HistoryLeaves plain mark answers key.value v.known.seen kept)
  ends s id v lead idle t e =
      let put = λ (f : View T A R → ℕ). sum_by-put f s.views id v spent_view e in
      let k = t.each id v e in
      let rest : List (View T A R) = slice_set s.views id spent_view in
      let one : firsts v ≡ 1 = ap firsts_of lead in
      let split : split_by v ≡ v.known.joined = ap split_of lead in
      let other : others v ≡ 0 = ap others_of lead in
      let firstless : sum_by firsts rest ≡ 0 = omega (arith, put firsts, t.one_first) in
      let splitless = no_first rest firstless in
      let alone : sum_by others rest ≡ 0 = omega (arith, put others, put split_by, put joined_by, t.counted) in
      let spent = λ (i : ℕ) (x : View T A R) (a : get_elem? rest i ≡ some x). not_live x.known.rank (omega (arith, sum_by-at firsts rest i x a)) (omega (arith, sum_by-at others rest i x a)) in
      let bare = λ (i : ℕ) (x : View T A R) (a : get_elem? rest i ≡ some x). put_all (λ y. is_live y.known.rank ≡ false → (y.known.numbers ≡ []) × (y.phase ≡ Idle)) s.views id spent_view (λ _. (refl, refl)) (λ j y n b. (t.each j y b).spent) i x a (spent i x a) in
      let all_mine = λ (x : ℕ) (h : x < t.given).
      let none : sum_by (number_count x) rest ≡ 0 = sum_none (number_count x) rest (λ i y a. ap (count x) (bare i y a).0) in
      let yes : nat_lt x t.given ≡ true = lt-ltb x t.given h in
      let got : count x v.known.numbers ≡ 1 = omega (arith, put (number_count x), t.numbers x, none, ap indicator yes) in got in
      let whole : calls_by v.known.numbers t.log ≡ t.log = all_calls v.known.numbers t.log (λ i d h. all_mine _ (t.made i d h)) in
      let full : t.log ≡ own v.known = sym whole ∙ k.own_calls in
      let seen : calls_by v.known.numbers v.known.seen ≡ v.known.seen = all_prefix v.known.numbers v.known.seen t.log k.prefix (λ i d h. all_mine _ (t.made i d h)) in
      let same : t.log ≡ v.known.seen = full ∙ seen in (
        seen,
        ⊎_elim
            (λ p. (p.0, p.1, subst (λ l. HistoryLeaves plain mark answers key.value l p.0) same p.2))
            (λ p. absurd (dite (ℕ_discrete p.1.0 id)
            (λ h.
            let there : get_elem? s.views p.1.0 ≡ some v = subst (λ j. get_elem? s.views j ≡ some v) (sym h) e in
            let same : p.1.1 ≡ v = some-injective p.1.1 v (sym p.1.2 ∙ there) in
            let phase : p.1.1.phase ≡ Idle = ap (λ (y : View T A R). y.phase) same ∙ idle in
            idle_not t.served (sym phase ∙ p.1.3))
            (λ n. idle_not t.served (sym (bare p.1.0 p.1.1 (set_else s.views id p.1.0 spent_view n ∙ p.1.2)).1 ∙ p.1.3))))
            t.place,
      )

  -- a seat learns what was made of it
  pub learns : (slots id : ℕ) (m : Me T (View T A R)) → m.0.phase ≡ Idle → Allows Rule slots id m 0 (λ n. n) (Learnt (step slots 0 0 0 none) m)
  learns slots id m idle s t _ e _ =
      let k = t.each id m.0 e in
      let w : View T A R = record m.0 { parts = None } in
      let not_serving : m.0.phase ≡ Serving t.served → ⊥ = λ h. idle_not t.served (sym idle ∙ h) in
      let knows : Knows t.served t.drawn t.log key w = record { start = k.start; prefix = k.prefix; own_calls = k.own_calls; own_number = k.own_number; spent = k.spent; parts = tt; stands = k.stands } in
      let t' = moved plain mark answers key s t id m.0 w e (slice_set s.words 0 (slice_index s.words 0)) s.homes t.log t.served t.drawn
      (first_same s.words t.drawn t.served t.words)
      (same_place plain mark answers key t.log t.served s.homes s.views id m.0 w e not_serving not_serving t.place)
      (λ j u ne a. t.each j u a)
      knows
      (λ j u n ne a h b. t.apart j id u m.0 n ne a e b h)
      (omega arith)
      refl refl refl t.made in
      (w, keeps, tt, t', (refl, k.parts, (λ whole. (ends s id m.0 whole idle t e).0)))
