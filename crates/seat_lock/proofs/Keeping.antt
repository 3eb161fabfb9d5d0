-- The steps of a call keep the rule of a lock's table.
use Rattle.std.proofs.Common.{◌≡◌, ◌≢◌, ℕ, zero, suc, ◌+◌, ◌%◌, ◌≤◌, ◌<◌, inl, inr, ⊎_elim, true, List, [], ◌∷◌, ◌++◌, Some, None, All, arith, refl, sym, ◌∙◌, ap, subst, nat_lt, true≢false}
use Rattle.std.specs.Prelude.{sum_by, slice_set, slice_index}
use Rattle.std.proofs.Math.Nat.{mod-add-mod}
use Rattle.std.proofs.Math.Decide.{ℕ_discrete}
use Rattle.std.proofs.Math.Logic.{dite}
use Rattle.std.proofs.lemmas.List.{append-nil}
use Rattle.std.proofs.lemmas.List.Elements.{All-append}
use mathlib.Core.Option as option
use mathlib.Core.Option.{some, none, some-injective, some-ne-none}
use lib.ListN.{get_elem?}
use Rattle.std.specs.declared.snapshot.Snapshot.{Snapshot}
use Rattle.atomic_table.specs.Table.{State, Me, step, Act, keeps, takes, gives, stepped, Allows, Valid, carried_after, homes_after, rest}
use Rattle.atomic_table.proofs.Lists.{at_set, set_else, set_again, one_turn}
use Rattle.seat_lock.specs.declared.view.View.{View}
use Rattle.seat_lock.specs.declared.view.Known.{Known}
use Rattle.seat_lock.specs.declared.view.Entry.{Entry}
use Rattle.seat_lock.specs.declared.view.Phase.TheVariants.{Idle, Waiting, Serving}
use Rattle.seat_lock.specs.History.{count, calls_by, Leads, HistoryLeaves}
use Rattle.seat_lock.specs.Seats.{split_of, own, call_of, Calls}
use Rattle.seat_lock.specs.Turning.{around, FoundTurn, WaitsFor, is_live, firsts_of, others_of, out_of, firsts, others, split_by, joined_by, out, number_count, HasTurn, Stands, Knows, IsServing, ThingPlace, IsTurning, first_view, Drew, HasLooked, IsLeftBy, served_view, seat_entries, passed_on, Passed, after_call, HasThing}
use Rattle.seat_lock.proofs.Sums.{sum_by-put, sum_by-at, sum_by-two, sum_by-most, sum_of, set_at, put_all}
use Rattle.seat_lock.proofs.Histories.{all_one, calls_by-append, call_is_own, call_is_other, prefix_snoc, prefix_same, leads_snoc}
use Rattle.seat_lock.proofs.Turns.{live_out, turn_in, idle_not, waiting_not, later_stands, steps_on, waiting_is, not_next, one_most, below, number_one}

-- the words after a step
pub first_word : (ws : List ℕ) (a b : ℕ) → ws ≡ a % around ∷ b % around ∷ [] → slice_set ws 0 ((slice_index ws 0 + 1) % around) ≡ (a + 1) % around ∷ b % around ∷ []
first_word ws a b e = ap (λ (l : List ℕ). slice_set l 0 ((slice_index l 0 + 1) % around)) e ∙ ap (λ (n : ℕ). n ∷ b % around ∷ []) (mod-add-mod a around 1)

pub second_word : (ws : List ℕ) (a b : ℕ) → ws ≡ a % around ∷ b % around ∷ [] → slice_set ws 1 ((slice_index ws 1 + 1) % around) ≡ a % around ∷ (b + 1) % around ∷ []
second_word ws a b e = ap (λ (l : List ℕ). slice_set l 1 ((slice_index l 1 + 1) % around)) e ∙ ap (λ (n : ℕ). a % around ∷ n ∷ []) (mod-add-mod b around 1)

pub same_word : (ws : List ℕ) (a b : ℕ) → ws ≡ a % around ∷ b % around ∷ [] → slice_set ws 1 (slice_index ws 1) ≡ a % around ∷ b % around ∷ []
same_word ws a b e = ap (λ (l : List ℕ). slice_set l 1 (slice_index l 1)) e

module _ {T A R : Type 0} (key : Snapshot T) where
  one_is : (i : ℕ) (v : View T A R) → get_elem? (first_view key ∷ []) i ≡ some v → v ≡ first_view key
  one_is zero v e = sym (some-injective (first_view key) v e)
  one_is (suc i) v e = absurd (some-ne-none v (sym e))

  one_knows : Knows 0 0 [] key (first_view {A = A} {R = R} key)
  one_knows = record { start = λ _. refl; prefix = prefix_same []; own_calls = refl; own_number = λ _. refl; spent = λ d. absurd (true≢false d); parts = tt; stands = tt }

  one_view : (i : ℕ) (v : View T A R) → get_elem? (first_view key ∷ []) i ≡ some v → Knows 0 0 [] key v
  one_view i v e = subst (Knows 0 0 [] key) (sym (one_is i v e)) one_knows

  -- what is known stays true while later turns are drawn
  later : (served drawn : ℕ) (log : List (Entry A R)) (u : View T A R) → Knows served drawn log key u → Knows served (drawn + 1) log key u
  later served drawn log u k = record { start = k.start; prefix = k.prefix; own_calls = k.own_calls; own_number = k.own_number; spent = k.spent; parts = k.parts; stands = later_stands served drawn log u.known.seen u.phase k.stands }

module _ {T D A R M : Type 0} (plain : T → D) (mark : T → M) (answers : D → A → R → D → Type 0) (key : Snapshot T) where
  abbrev Rule : State T (View T A R) → Type 0
  Rule s = IsTurning plain mark answers key s

  pub moved : (s : State T (View T A R)) (t : Rule s) (id : ℕ) (v w : View T A R) → get_elem? s.views id ≡ some v
      → (words : List ℕ) (homes : List (option.Option T)) (log : List (Entry A R)) (served drawn : ℕ)
      → words ≡ drawn % around ∷ served % around ∷ []
      → ThingPlace plain mark answers key log served homes (slice_set s.views id w)
      → ((j : ℕ) (u : View T A R) → j ≢ id → get_elem? s.views j ≡ some u → Knows served drawn log key u)
      → Knows served drawn log key w
      → ((j : ℕ) (u : View T A R) (n : ℕ) → j ≢ id → get_elem? s.views j ≡ some u → HasTurn n w.phase → HasTurn n u.phase → ⊥)
      → drawn + t.served + out v ≡ served + t.drawn + out w
      → w.known.rank ≡ v.known.rank → w.known.joined ≡ v.known.joined → w.known.numbers ≡ v.known.numbers
      → All (λ e. e.by < t.given) log
      → Rule record { words = words; homes = homes; views = slice_set s.views id w }
  moved s t id v w e words homes log served drawn is_words is_place knows knows' apart turns rank joined numbers made =
      let at = λ (f : View T A R → ℕ). sum_by-put f s.views id v w e in
      let l : firsts w ≡ firsts v = ap firsts_of rank in
      let o : others w ≡ others v = ap others_of rank in
      let p : split_by w ≡ split_by v = ap split_of rank in
      record {
        log = log;
        served = served;
        drawn = drawn;
        given = t.given;
        words = is_words;
        place = is_place;
        each = put_all (λ u. Knows served drawn log key u) s.views id w knows' knows;
        apart = λ i j u x n ne a b h k. ⊎_elim
            (λ q. ⊎_elim (λ r. ne (q.0 ∙ sym r.0)) (λ r. apart j x n r.0 r.1 (subst (λ (z : View T A R). HasTurn n z.phase) (sym q.1) h) k) (at_set s.views id j w x b))
            (λ q. ⊎_elim (λ r. apart i u n q.0 q.1 (subst (λ (z : View T A R). HasTurn n z.phase) (sym r.1) k) h) (λ r. t.apart i j u x n ne q.1 r.1 h k) (at_set s.views id j w x b))
            (at_set s.views id i w u a);
        turns_out = omega (arith, at out, t.turns_out, turns);
        one_first = omega (arith, at firsts, t.one_first);
        counted = omega (arith, at split_by, at others, at joined_by, t.counted);
        numbers = λ x. let same : number_count x w ≡ number_count x v = ap (λ ns. count x ns) numbers in omega (arith, at (number_count x), t.numbers x);
        given_is = omega (arith, at split_by, t.given_is);
        few = t.few;
        made = made;
      }

  -- where a seat changes that is not served, the place stays
  pub same_place : (log : List (Entry A R)) (served : ℕ) (homes : List (option.Option T)) (views : List (View T A R)) (id : ℕ) (v w : View T A R) → get_elem? views id ≡ some v
      → (IsServing served v → ⊥) → (IsServing served w → ⊥) → ThingPlace plain mark answers key log served homes views → ThingPlace plain mark answers key log served homes (slice_set views id w)
  same_place log served homes views id v w e not not' p = ⊎_elim
      (λ t. inl (t.0, t.1, t.2, put_all (λ u. IsServing served u → ⊥) views id w not' (λ j u ne a. t.3 j u a)))
      (λ t. inr (t.0, (t.1.0, t.1.1, set_else views id t.1.0 w (λ same. not (ap (λ (u : View T A R). u.phase) (some-injective v t.1.1 (sym e ∙ subst (λ j. get_elem? views j ≡ some t.1.1) same t.1.2)) ∙ t.1.3)) ∙ t.1.2, t.1.3))) p

  -- the last turn that is out is not far from the first
  pub out_few : (s : State T (View T A R)) → Rule s → sum_by out s.views ≤ 65536
  out_few s t =
      let most = sum_by-most out (λ v. firsts v + others v) s.views (λ i v e. live_out v.known.rank v.phase (v.known.numbers ≡ []) (t.each i v e).spent) in
      let parts = sum_of (firsts) (others) s.views in
      omega (arith, most, parts, t.one_first, t.counted, t.given_is, t.few)

  pub draws : (slots id : ℕ) (m : Me T (View T A R)) → m.0.phase ≡ Idle → is_live m.0.known.rank ≡ true → Allows Rule slots id m 0 (λ n. (n + 1) % around) (Drew (step slots 0 1 0 none) m)
  draws slots id m idle live s t _ e _ =
      let k = t.each id m.0 e in
      let w : View T A R = record m.0 { phase = Waiting t.drawn } in
      let not_serving : m.0.phase ≡ Serving t.served → ⊥ = λ h. idle_not t.served (sym idle ∙ h) in
      let few = out_few s t in
      let knows : Knows t.served (t.drawn + 1) t.log key w = record { start = k.start; prefix = k.prefix; own_calls = k.own_calls; own_number = k.own_number; spent = λ h. absurd (true≢false (sym live ∙ h)); parts = k.parts; stands = (omega (arith, t.turns_out), omega arith) } in
      let t' = moved s t id m.0 w e (slice_set s.words 0 ((slice_index s.words 0 + 1) % around)) s.homes t.log t.served (t.drawn + 1)
      (first_word s.words t.drawn t.served t.words)
      (same_place t.log t.served s.homes s.views id m.0 w e not_serving (λ h. waiting_not t.drawn t.served h) t.place)
      (λ j u ne a. later key t.served t.drawn t.log u (t.each j u a))
      knows
      (λ j u n ne a h b. let r = turn_in t.served t.drawn t.log u.known.seen u.phase n (t.each j u a).stands b in omega arith)
      (omega (arith, ap out_of idle))
      refl refl refl t.made in
      (w, keeps, tt, t', (t.drawn, refl, ap (λ ws. slice_index ws 0) t.words))

  module _ (slots id k : ℕ) (m : Me T (View T A R)) (waiting : m.0.phase ≡ Waiting k) (live : is_live m.0.known.rank ≡ true)
      (s : State T (View T A R)) (t : Rule s) (e : get_elem? s.views id ≡ some m.0) where
    abbrev Looks : Type 0
    Looks = (w : View T A R) × (a : Act T) × Valid s.homes m.1 a × Rule (stepped s 1 (slice_index s.words 1) id m.1 w a)
        × HasLooked plain mark answers (step slots 1 0 0 none) m (slice_index s.words 1) (w, carried_after m.1 a)

    found : slice_index s.words 1 ≡ t.served % around
    found = ap (λ ws. slice_index ws 1) t.words

    stands : (t.served ≤ k) × (k < t.drawn)
    stands = subst (λ p. Stands t.served t.drawn t.log m.0.known.seen p) waiting (t.each id m.0 e).stands

    turn_is : (n : ℕ) → HasTurn n (Serving k) → HasTurn n m.0.phase
    turn_is n h = subst (HasTurn n) (sym waiting) h

    other_turn : slice_index s.words 1 ≢ k % around → Looks
    other_turn ne =
        let same : slice_set s.views id m.0 ≡ s.views = set_again s.views id m.0 e in
        let words : slice_set s.words 1 (slice_index s.words 1) ≡ s.words = same_word s.words t.drawn t.served t.words ∙ sym t.words in
        let t' = subst Rule (λ i. record { words = sym words i; homes = s.homes; views = sym same i }) t in
        (m.0, keeps, tt, t', (λ k' v. ((λ _. refl), (λ h. absurd (ne (h ∙ ap (λ n. n % around) (waiting_is m.0.phase k' k v waiting)))))))

    mine : slice_index s.words 1 ≡ k % around → k ≡ t.served
    mine h =
        let few = out_few s t in
        sym (one_turn t.served k around stands.0 (omega (arith, stands, t.turns_out, few)) (sym found ∙ h))

    taken : slice_index s.words 1 ≡ k % around → (kept : T) → s.homes ≡ some kept ∷ [] → HistoryLeaves plain mark answers key.value t.log kept → Looks
    taken h kept homes left =
        let kn = t.each id m.0 e in
        let w : View T A R = served_view m.0 k t.log in
        let here = mine h in
        let t' = moved s t id m.0 w e (slice_set s.words 1 (slice_index s.words 1)) (slice_set s.homes 0 none) t.log t.served t.drawn
        (same_word s.words t.drawn t.served t.words)
        (inr (ap (λ (hs : List (option.Option T)). slice_set hs 0 none) homes, (id, w, set_at s.views id m.0 w e, ap Serving here)))
        (λ j u ne a. t.each j u a)
        (record { start = kn.start; prefix = prefix_same t.log; own_calls = refl; own_number = kn.own_number; spent = λ d. absurd (true≢false (sym live ∙ d)); parts = tt; stands = (here, stands.1, refl) })
        (λ j u n ne a x y. t.apart j id u m.0 n ne a e y (turn_is n x))
        (omega (arith, ap out_of waiting))
        refl refl refl t.made in (
          w,
          takes 0 kept,
          ap (λ hs. get_elem? hs 0) homes,
          t',
          (λ k' v. let same = waiting_is m.0.phase k' k v waiting in (
            (λ ne. absurd (ne (h ∙ ap (λ n. n % around) (sym same)))),
            (λ _. (t.log, kept, ap (λ n. (served_view m.0 n t.log, (0, kept) ∷ m.1)) (sym same), kn.prefix, subst (λ o. IsLeftBy plain mark answers o t.log kept) (sym (kn.start live)) left, kn.own_calls, kn.own_number live)),
          )),
        )

    gone : slice_index s.words 1 ≡ k % around → (i : ℕ) (v : View T A R) → get_elem? s.views i ≡ some v → v.phase ≡ Serving t.served → ⊥
    gone h i v a p = dite (ℕ_discrete i id)
        (λ same. waiting_not k t.served (sym waiting ∙ ap (λ (u : View T A R). u.phase) (some-injective m.0 v (sym e ∙ subst (λ j. get_elem? s.views j ≡ some v) same a)) ∙ p))
        (λ ne. t.apart i id v m.0 t.served ne a e (subst (HasTurn t.served) (sym p) refl) (subst (HasTurn t.served) (sym waiting) (mine h)))

    looked : Looks
    looked = dite (ℕ_discrete (slice_index s.words 1) (k % around))
        (λ h. ⊎_elim (λ p. taken h p.0 p.1 p.2) (λ p. absurd (gone h p.1.0 p.1.1 p.1.2 p.1.3)) t.place)
        other_turn

  pub looks : (slots id k : ℕ) (m : Me T (View T A R)) → m.0.phase ≡ Waiting k → is_live m.0.known.rank ≡ true → Allows Rule slots id m 1 (λ n. n) (HasLooked plain mark answers (step slots 1 0 0 none) m)
  looks slots id k m waiting live s t _ e _ = looked slots id k m waiting live s t e

  pub one_home : (s : State T (View T A R)) → Rule s → (h : option.Option T) → slice_set s.homes 0 h ≡ h ∷ []
  one_home s t h = ⊎_elim (λ p. ap (λ (hs : List (option.Option T)). slice_set hs 0 h) p.1) (λ p. ap (λ (hs : List (option.Option T)). slice_set hs 0 h) p.0) t.place

  pub first_rule : (kept : T) → kept ≡ key.value → Rule record { words = 0 ∷ 0 ∷ []; homes = some kept ∷ []; views = first_view key ∷ [] }
  first_rule kept same = record {
    log = [];
    served = 0;
    drawn = 0;
    given = 1;
    words = refl;
    place = inl (kept, refl, (ap plain (sym same), ap mark same), (λ i v a h. idle_not 0 (sym (ap (λ (u : View T A R). u.phase) (one_is key i v a)) ∙ h)));
    each = λ i v e. one_view key i v e;
    apart = λ i j v w n ne a b h k. absurd (subst (λ (u : View T A R). HasTurn n u.phase) (one_is key i v a) h);
    turns_out = refl;
    one_first = refl;
    counted = refl;
    numbers = λ x. number_one x;
    given_is = refl;
    few = omega arith;
    made = λ k d h. absurd (omega arith);
  }

module _ {T D A R M : Type 0} (plain : T → D) (mark : T → M) (answers : D → A → R → D → Type 0) (key : Snapshot T) (a : A) (b : R) (calls : List (A × R)) (picked : calls ≡ (a, b) ∷ []) where
  pub passes : (slots id k : ℕ) (m : Me T (View T A R)) (kept : T)
      → m.0.phase ≡ Serving k → is_live m.0.known.rank ≡ true → m.1 ≡ (0, kept) ∷ []
      → HistoryLeaves plain mark answers key.value (m.0.known.seen ++ call_of m.0.known a b ∷ []) kept
      → Allows (Rule plain mark answers key) slots id m 1 (λ n. (n + 1) % around) (Passed calls (step slots 1 1 0 none) m)
  passes slots id k m kept serving live held left s t _ e _ =
      let kn = t.each id m.0 e in
      let en : Entry A R = call_of m.0.known a b in
      let log' : List (Entry A R) = t.log ++ en ∷ [] in
      let st : (k ≡ t.served) × (k < t.drawn) × (m.0.known.seen ≡ t.log) = subst (λ p. Stands t.served t.drawn t.log m.0.known.seen p) serving kn.stands in
      let w : View T A R = passed_on calls m.0 in
      let seen : w.known.seen ≡ log' = ap (λ o. m.0.known.seen ++ seat_entries m.0.known.number o) picked ∙ ap (λ l. l ++ en ∷ []) st.2 in
      let own1 = kn.own_number live in
      let mine : HasTurn t.served m.0.phase = subst (HasTurn t.served) (sym serving) st.0 in
      let homes : slice_set s.homes 0 (some kept) ≡ some kept ∷ [] = one_home plain mark answers key s t (some kept) in
      let back : homes_after s.homes m.1 gives ≡ some kept ∷ [] = ap (λ c. homes_after s.homes c gives) held ∙ homes in
      let knows : Knows (t.served + 1) t.drawn log' key w = record {
        start = kn.start;
        prefix = ([], sym seen ∙ sym (append-nil w.known.seen));
        own_calls = ap (calls_by m.0.known.numbers) (sym seen);
        own_number = kn.own_number;
        spent = λ d. absurd (true≢false (sym live ∙ d));
        parts = tt;
        stands = tt;
      } in
      let number : m.0.known.number < t.given =
      below m.0.known.number t.given (omega (arith, sum_by-at (number_count m.0.known.number) s.views id m.0 e, t.numbers m.0.known.number, own1)) in
      let t' = moved plain mark answers key s t id m.0 w e (slice_set s.words 1 ((slice_index s.words 1 + 1) % around)) (homes_after s.homes m.1 gives) log' (t.served + 1) t.drawn
      (second_word s.words t.drawn t.served t.words)
      (inl (kept, back, subst (λ l. HistoryLeaves plain mark answers key.value (l ++ en ∷ []) kept) st.2 left, put_all (λ u. IsServing (t.served + 1) u → ⊥) s.views id w (λ h. idle_not (t.served + 1) h) (λ j u ne a. not_next t.served t.drawn t.log u.known.seen u.phase (t.each j u a).stands)))
      (λ j u ne a. let ku = t.each j u a in
      let two = sum_by-two (number_count m.0.known.number) s.views id j m.0 u (λ h. ne (sym h)) e a in
      let zero_there : count m.0.known.number u.known.numbers ≡ 0 = omega (arith, two, own1, t.numbers m.0.known.number, one_most (nat_lt m.0.known.number t.given)) in
      record {
        start = ku.start;
        prefix = prefix_snoc u.known.seen t.log en ku.prefix;
        own_calls = calls_by-append u.known.numbers t.log (en ∷ []) ∙ ap (λ l. calls_by u.known.numbers t.log ++ l) (call_is_other u.known.numbers en zero_there) ∙ append-nil (calls_by u.known.numbers t.log) ∙ ku.own_calls;
        own_number = ku.own_number;
        spent = ku.spent;
        parts = ku.parts;
        stands = steps_on t.served t.drawn t.log u.known.seen en u.phase (λ h. t.apart j id u m.0 t.served ne a e h mine) ku.stands;
      })
      knows
      (λ j u n ne a h b. h)
      (omega (arith, ap out_of serving))
      refl refl refl
      (All-append (λ (x : Entry A R). x.by < t.given) t.log (en ∷ []) t.made (all_one (λ (x : Entry A R). x.by < t.given) en number)) in
      (w, gives, tt, t', (λ kept' h. ap (λ c. (passed_on calls m.0, rest c)) held))

  pub after_it : (v : View T A R) → ◌≡◌ {A = View T A R} (passed_on calls v) (after_call v a b)
  after_it v = ap (λ o. record v { known = record v.known { seen = v.known.seen ++ seat_entries v.known.number o }; phase = Idle; parts = None }) picked

module _ {T : Type 0} where
  abbrev head_or : T → List (ℕ × T) → T
  head_or d [] = d
  head_or d (x ∷ xs) = x.1

  pub now_is : (c : List (ℕ × T)) (kept now : T) → c ≡ (0, kept) ∷ [] → c ≡ (0, now) ∷ rest c → now ≡ kept
  now_is c kept now e f = sym (ap (head_or kept) f) ∙ ap (head_or kept) e

  pub only_it : (c : List (ℕ × T)) (kept k : T) → c ≡ (0, kept) ∷ [] → ◌≡◌ {A = List (ℕ × T)} ((0, k) ∷ rest c) ((0, k) ∷ [])
  only_it c kept k e = ap (λ (l : List (ℕ × T)). (0, k) ∷ rest l) e

module _ {T D A R M : Type 0} (plain : T → D) (mark : T → M) (answers : D → A → R → D → Type 0) where
  -- the thing after it served is what the longer history leaves
  pub served : (start : T) (seen : List (Entry A R)) (by : ℕ) (kept now x : T) (a : A) (b : R) → now ≡ kept
      → HistoryLeaves plain mark answers start seen kept → answers (plain now) a b (plain x) → mark x ≡ mark now
      → HistoryLeaves plain mark answers start (seen ++ record { by = by; asked = a; told = b } ∷ []) x
  served start seen by kept now x a b same left did marked = (
    leads_snoc answers (plain start) (plain kept) (plain x) seen (record { by = by; asked = a; told = b }) left.0 (subst (λ n. answers (plain n) a b (plain x)) same did),
    marked ∙ ap mark same ∙ left.1,
  )

module _ {T D A R M : Type 0} (plain : T → D) (mark : T → M) (answers : D → A → R → D → Type 0) (key : Snapshot T)
    (k n : ℕ) (v : View T A R) (m : Me T (View T A R)) (l : HasLooked plain mark answers (step 1 1 0 0 none) (record v { phase = Waiting k }, []) n m) (turn : n ≡ k % around)
    (start : v.known.start ≡ Some key) (live : is_live v.known.rank ≡ true) where
  -- a seat whose turn it is has the thing
  pub has_thing : HasThing plain mark answers key m
  has_thing =
      let f = (l k refl).1 turn in
      let left : HistoryLeaves plain mark answers key.value f.0 f.1 = subst (λ o. IsLeftBy plain mark answers o f.0 f.1) start f.4 in (
        k,
        f.1,
        ap (λ x. x.0.phase) f.2,
        ap (λ x. x.1) f.2,
        ap (λ x. x.0.known.start) f.2 ∙ start,
        subst (λ s. HistoryLeaves plain mark answers key.value s f.1) (sym (ap (λ x. x.0.known.seen) f.2)) left,
        ap (λ x. is_live x.0.known.rank) f.2 ∙ live,
        ap (λ x. count x.0.known.number x.0.known.numbers) f.2 ∙ f.6,
      )

  -- and has called when it was served
  pub has_called : (a : A) (b : R) (m2 : Me T (View T A R)) → m2 ≡ (after_call m.0 a b, [])
      → ((d : D) × Leads answers (plain key.value) (after_call m.0 a b).known.seen d) → Calls answers (plain key.value) v.known a b m2.0.known
  has_called a b m2 is run =
      let f = (l k refl).1 turn in
      let en : Entry A R = call_of v.known a b in
      let p = f.3 in
      let longer : List (Entry A R) = (v.known.seen ++ p.0) ++ en ∷ [] in
      let one : m2.0.known ≡ (after_call m.0 a b).known = ap (λ x. x.0.known) is in
      let two : (after_call m.0 a b).known ≡ record v.known { seen = f.0 ++ en ∷ [] } = ap (λ x. (after_call x.0 a b).known) f.2 in
      let three : ◌≡◌ {A = Known T A R} (record v.known { seen = f.0 ++ en ∷ [] }) (record v.known { seen = longer }) = ap (λ (h : List (Entry A R)). record v.known { seen = h ++ en ∷ [] }) p.1 in
      let all : m2.0.known ≡ record v.known { seen = longer } = one ∙ two ∙ three in
      let own_is : calls_by v.known.numbers longer ≡ own v.known ++ en ∷ [] =
      calls_by-append v.known.numbers (v.known.seen ++ p.0) (en ∷ []) ∙ ap (λ h. calls_by v.known.numbers (v.known.seen ++ p.0) ++ h) (call_is_own v.known.numbers en f.6)
      ∙ ap (λ h. calls_by v.known.numbers h ++ en ∷ []) (sym p.1) ∙ ap (λ h. h ++ en ∷ []) f.5 in
      record {
        between = p.0;
        seen = all;
        own_calls = ap own all ∙ own_is;
        after = run.0;
        run = subst (λ s. Leads answers (plain key.value) s run.0) (sym (ap (λ (x : Known T A R). x.seen) one)) run.1;
      }

module _ {T D A R M : Type 0} (plain : T → D) (mark : T → M) (answers : D → A → R → D → Type 0) where
  pub looked_at : (n : ℕ) (m m0 m' : Me T (View T A R)) → m ≡ m0 → HasLooked plain mark answers (step 1 1 0 0 none) m n m' → HasLooked plain mark answers (step 1 1 0 0 none) m0 n m'
  looked_at n m m0 m' e l = subst (λ x. HasLooked plain mark answers (step 1 1 0 0 none) x n m') e l

  -- a look that finds the turn of who waits
  pub found_at : (n turn : ℕ) (m m0 m' : Me T (View T A R)) → m ≡ m0 → n ≡ turn → HasLooked plain mark answers (step 1 1 0 0 none) m n m' → FoundTurn plain mark answers turn m0 m'
  found_at n turn m m0 m' e f l = subst (λ x. FoundTurn plain mark answers x m0 m') f (looked_at n m m0 m' e l)

  -- and one that finds another turn, which leaves all as it is
  pub not_yet : (n turn k : ℕ) (m m' : Me T (View T A R)) → HasLooked plain mark answers (step 1 1 0 0 none) m n m' → m.0.phase ≡ Waiting k → turn ≡ k % around → n ≢ turn → m' ≡ m
  not_yet n turn k m m' l waiting t ne = (l k waiting).0 (λ e. ne (e ∙ sym t))

module _ {T A R : Type 0} where
  -- who has drawn a turn waits for it
  pub waits_for : (turn k : ℕ) (m m' : Me T (View T A R)) → m' ≡ (record m.0 { phase = Waiting k }, m.1) → m.1 ≡ [] → turn ≡ k % around → is_live m.0.known.rank ≡ true → WaitsFor turn m'
  waits_for turn k m m' e none' t live =
      let is : ◌≡◌ {A = Me T (View T A R)} m' (record m'.0 { phase = Waiting k }, []) = e ∙ ap (λ c. (record m.0 { phase = Waiting k }, c)) none' ∙ sym (ap (λ x. (record x.0 { phase = Waiting k }, [])) e) in
      (k, is, t, ap (λ x. is_live x.0.known.rank) e ∙ live)

  -- the view of a seat that has drawn, by what it knew
  pub drawn_from : (known : Known T A R) (k : ℕ) (m m' : Me T (View T A R)) → m' ≡ (record m.0 { phase = Waiting k }, m.1) → m.0.known ≡ known → m.1 ≡ [] → m.0.parts ≡ None
      → ◌≡◌ {A = Me T (View T A R)} m' (record { known = known; phase = Waiting k; parts = None }, [])
  drawn_from known k m m' e f g h =
      e ∙ ap (λ x. (record { known = x; phase = Waiting k; parts = m.0.parts }, m.1)) f
      ∙ ap (λ x. (record { known = known; phase = Waiting k; parts = m.0.parts }, x)) g
      ∙ ap (λ x. (record { known = known; phase = Waiting k; parts = x }, [])) h
