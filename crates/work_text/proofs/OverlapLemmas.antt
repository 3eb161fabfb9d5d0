-- Which sectors of a device the writes so far have, by its marks.
use Rattle.std.proofs.Common.{◌≡◌, ℕ, zero, suc, ◌+◌, ◌<◌, ◌≤◌, ◌==◌, ◌&&◌, ◌||◌, Bool, true, false, cond, nat_le, nat_lt, ◌-◌, List, [], ◌∷◌, ◌++◌, length, get_or, set, Some, refl, ap, sym, ◌∙◌, subst, inl, inr, arith, length-set}
use Rattle.std.specs.Prelude.{All, slice_get}
use Rattle.std.specs.List.{list_any, range_with_len}
use Rattle.std.proofs.lemmas.Bool.{cases_eq, cases_lt, cases_Bool, and_parts, ltb-true, leb-true, lt-ltb, le-leb, eq-eqb, ne_eqb, and_from, false_from_ne_true, both_ways}
use Rattle.std.proofs.lemmas.List.Elements.{All-head, All-tail}
use Rattle.std.proofs.lemmas.List.Folds.{list_any-append, list_any_at, list_any_none}
use Rattle.std.proofs.lemmas.List.FromFn.{length-range_with_len, get_or-range_with_len}
use Rattle.std.proofs.lemmas.Option.{slice_get-get_or, slice_get_within, same_Some}
use Rattle.std.proofs.Math.Bool.{or-true, or-false}
use Rattle.stack_base.specs.declared.stack.Stack.{Stack}
use Rattle.stack_base.proofs.ListLemmas.{any_or}
use Rattle.decl_text.specs.Known.{Written}
use Rattle.decl_text.specs.Checks.{shares}
use Rattle.work_text.specs.Marks.{covers, IsRow, AreMarks}

-- a sector of a run that the write has
covers_true : (dev at : ℕ) (w : Written) → (w.dev == dev) ≡ true → w.start ≤ at → at < w.start + w.count → covers dev at w ≡ true
covers_true dev at w same from before = and_from _ _ same (and_from _ _ (le-leb w.start at from) (lt-ltb at (w.start + w.count) before))

shares_true : (dev start len : ℕ) (w : Written) → shares dev start len w ≡ true → ((w.dev == dev) ≡ true) × (start < w.start + w.count) × (w.start < start + len)
shares_true dev start len w is =
    let last = and_parts _ _ is in
    let first = and_parts _ _ last.0 in
    (first.0, ltb-true start (w.start + w.count) first.1, ltb-true w.start (start + len) last.1)

covered_at : (dev start len i : ℕ) (w : Written) → i < len → covers dev (start + i) w ≡ true → list_any (λ at. covers dev at w) (range_with_len start len) ≡ true
covered_at dev start len i w lt covered =
    list_any_at (λ at. covers dev at w) (range_with_len start len) i 0 (rw (length-range_with_len start len) lt)
    (rw (get_or-range_with_len start len i 0 lt) covered)

some_covered : (dev start len : ℕ) (w : Written) → 1 ≤ len → 1 ≤ w.count → shares dev start len w ≡ true → list_any (λ at. covers dev at w) (range_with_len start len) ≡ true
some_covered dev start len w some has is =
    let facts = shares_true dev start len w is in
    elim (cases_lt start w.start) [
      | inl later ↦ covered_at dev start len (w.start - start) w (omega (arith, facts.2)) (covers_true dev (start + (w.start - start)) w facts.0 (omega arith) (omega arith))
      | inr first ↦ covered_at dev start len 0 w (omega arith) (covers_true dev (start + 0) w facts.0 (omega arith) (omega (arith, facts.1)))
    ]

covered_shares : (dev start len at : ℕ) (w : Written) → start ≤ at → at < start + len → covers dev at w ≡ true → shares dev start len w ≡ true
covered_shares dev start len at w le lt is =
    let all = and_parts _ _ is in
    let run = and_parts _ _ all.1 in
    let from : w.start ≤ at = leb-true w.start at run.0 in
    let before : at < w.start + w.count = ltb-true at (w.start + w.count) run.1 in
    and_from _ _ (and_from _ _ all.0 (lt-ltb start (w.start + w.count) (omega arith))) (lt-ltb w.start (start + len) (omega arith))

-- a write that shares a sector with a run covers one of the run's, and the other way round
shares_covers : (dev start len : ℕ) (w : Written) → 1 ≤ len → 1 ≤ w.count → list_any (λ at. covers dev at w) (range_with_len start len) ≡ shares dev start len w
shares_covers dev start len w some has =
    elim (cases_Bool (shares dev start len w)) [
      | inl is ↦ some_covered dev start len w some has is ∙ sym is
      | inr not_it ↦
          list_any_none (λ at. covers dev at w) (range_with_len start len) (λ k d lt.
          let within : k < len = rw (length-range_with_len start len) at lt in
          rw (get_or-range_with_len start len k d within)
          (false_from_ne_true (covers dev (start + k) w)
          (λ is. both_ways (shares dev start len w) not_it (covered_shares dev start len (start + k) w (omega arith) (omega arith) is))))
          ∙ sym not_it
    ]

any_false : {X : Type 0} (xs : List X) → list_any (λ x. false) xs ≡ false
any_false [] = refl
any_false (x ∷ xs) = any_false xs

-- some write shares a sector with a run exactly if some sector of the run is covered
pub run_shares : (dev start len : ℕ) (writes : List Written) → 1 ≤ len → All (λ (w : Written). 1 ≤ w.count) writes
    → list_any (λ at. list_any (covers dev at) writes) (range_with_len start len) ≡ list_any (shares dev start len) writes
run_shares dev start len [] some has = any_false (range_with_len start len)
run_shares dev start len (w ∷ writes) some has =
    any_or (λ at. covers dev at w) (λ at. list_any (covers dev at) writes) (range_with_len start len)
    ∙ ap (λ b. b || list_any (λ at. list_any (covers dev at) writes) (range_with_len start len))
    (shares_covers dev start len w some (All-head (λ (v : Written). 1 ≤ v.count) w writes has))
    ∙ ap (λ b. shares dev start len w || b) (run_shares dev start len writes some (All-tail (λ (v : Written). 1 ≤ v.count) w writes has))

-- two tests that agree on a run
any_along : (p q : ℕ → Bool) (start len : ℕ) → ((at : ℕ) → start ≤ at → at < start + len → p at ≡ q at) → list_any p (range_with_len start len) ≡ list_any q (range_with_len start len)
any_along p q start zero same = refl
any_along p q start (suc len) same =
    ap (λ b. b || list_any p (range_with_len (start + 1) len)) (same start (omega arith) (omega arith))
    ∙ ap (λ b. q start || b) (any_along p q (start + 1) len (λ at le lt. same at (omega arith) (omega arith)))

-- the marks of a device tell whether some write shares a sector with a run
pub row_shares : (stack : Stack) (mark : ℕ) (writes : List Written) (dev : ℕ) (row : List ℕ) (start len : ℕ) → IsRow stack mark writes dev row → start + len ≤ length row → 1 ≤ len
    → All (λ (w : Written). 1 ≤ w.count) writes
    → list_any (λ at. get_or row at 0 == mark) (range_with_len start len) ≡ list_any (shares dev start len) writes
row_shares stack mark writes dev row start len marked within some has =
    any_along (λ at. get_or row at 0 == mark) (λ at. list_any (covers dev at) writes) start len (λ at le lt. marked.told at (omega arith))
    ∙ run_shares dev start len writes some has

slice_get-set_same : {X : Type 0} (xs : List X) (i : ℕ) (y : X) → i < length xs → slice_get (set xs i y) i ≡ Some y
slice_get-set_same [] i y lt = absurd (omega (arith, lt))
slice_get-set_same (x ∷ xs) zero y lt = refl
slice_get-set_same (x ∷ xs) (suc i) y lt = slice_get-set_same xs i y (omega (arith, lt))

slice_get-set_other : {X : Type 0} (xs : List X) (i j : ℕ) (y : X) → (j ≡ i → ⊥) → slice_get (set xs i y) j ≡ slice_get xs j
slice_get-set_other [] i j y other = refl
slice_get-set_other (x ∷ xs) zero zero y other = absurd (other refl)
slice_get-set_other (x ∷ xs) zero (suc j) y other = refl
slice_get-set_other (x ∷ xs) (suc i) zero y other = refl
slice_get-set_other (x ∷ xs) (suc i) (suc j) y other = slice_get-set_other xs i j y (λ e. other (ap suc e))

-- one more write, at its own device and at another
covers_here : (dev at : ℕ) (w : Written) (writes : List Written) → dev ≡ w.dev
    → list_any (covers dev at) (writes ++ w ∷ []) ≡ (list_any (covers dev at) writes || (nat_le w.start at && nat_lt at (w.start + w.count)))
covers_here dev at w writes here =
    list_any-append (covers dev at) writes (w ∷ [])
    ∙ ap (λ b. list_any (covers dev at) writes || b) (or-false (covers dev at w) ∙ ap (λ b. b && (nat_le w.start at && nat_lt at (w.start + w.count))) (eq-eqb w.dev dev (sym here)))

covers_there : (dev at : ℕ) (w : Written) (writes : List Written) → (dev ≡ w.dev → ⊥)
    → list_any (covers dev at) (writes ++ w ∷ []) ≡ list_any (covers dev at) writes
covers_there dev at w writes there =
    list_any-append (covers dev at) writes (w ∷ [])
    ∙ ap (λ b. list_any (covers dev at) writes || b) (or-false (covers dev at w) ∙ ap (λ b. b && (nat_le w.start at && nat_lt at (w.start + w.count))) (ne_eqb w.dev dev (λ e. there (sym e))))
    ∙ or-false (list_any (covers dev at) writes)

-- a place that is marked where this holds
marked_is : (b : Bool) (mark old : ℕ) → (cond b mark old == mark) ≡ ((old == mark) || b)
marked_is true mark old = eq-eqb mark mark refl ∙ sym (or-true (old == mark))
marked_is false mark old = sym (or-false (old == mark))

marked_past : (b : Bool) (mark old : ℕ) → old ≤ mark → cond b mark old ≤ mark
marked_past true mark old past = omega arith
marked_past false mark old past = past

-- the marks of one more write
pub marks_more : (stack : Stack) (mark : ℕ) (writes : List Written) (marks : List (List ℕ)) (w : Written) (old row : List ℕ) → AreMarks stack mark writes marks
    → slice_get marks w.dev ≡ Some old → length row ≡ length old
    → ((at : ℕ) → get_or row at 0 ≡ cond (nat_le w.start at && nat_lt at (w.start + w.count)) mark (get_or old at 0))
    → AreMarks stack mark (writes ++ w ∷ []) (set marks w.dev row)
marks_more stack mark writes marks w old row are found long marked =
    let here : w.dev < length marks = slice_get_within marks w.dev old found in
    record {
      count = length-set marks w.dev row ∙ are.count;
      each = λ dev next is.
          elim (cases_eq dev w.dev) [
            | inl same ↦
                let got : Some row ≡ Some next = sym (slice_get-set_same marks w.dev row here) ∙ ap (slice_get (set marks w.dev row)) (sym same) ∙ is in
                let before : IsRow stack mark writes dev old = are.each dev old (ap (slice_get marks) same ∙ found) in
                subst (IsRow stack mark (writes ++ w ∷ []) dev) (same_Some row next got)
                (record {
                  long = λ top. long ∙ before.long top;
                  told = λ at lt.
                      ap (λ n. n == mark) (marked at) ∙ marked_is (nat_le w.start at && nat_lt at (w.start + w.count)) mark (get_or old at 0)
                      ∙ ap (λ b. b || (nat_le w.start at && nat_lt at (w.start + w.count))) (before.told at (omega arith)) ∙ sym (covers_here dev at w writes same);
                  past = λ at lt. subst (λ n. n ≤ mark) (sym (marked at)) (marked_past (nat_le w.start at && nat_lt at (w.start + w.count)) mark (get_or old at 0) (before.past at (omega arith)));
                })
            | inr other ↦
                let before : IsRow stack mark writes dev next = are.each dev next (sym (slice_get-set_other marks w.dev dev row other) ∙ is) in
                record {
                  long = before.long;
                  told = λ at lt. before.told at lt ∙ sym (covers_there dev at w writes other);
                  past = before.past;
                }
          ];
    }

-- the marks of the next round, of which no write is known yet
pub marks_next : (stack : Stack) (mark : ℕ) (writes : List Written) (marks : List (List ℕ)) → AreMarks stack mark writes marks → AreMarks stack (mark + 1) [] marks
marks_next stack mark writes marks are = record {
  count = are.count;
  each = λ dev row is.
      let before = are.each dev row is in
      record {
        long = before.long;
        told = λ at lt. ne_eqb (get_or row at 0) (mark + 1) (λ same. omega (arith, same, before.past at lt));
        past = λ at lt. omega (arith, before.past at lt);
      };
}

-- a row that is read at a place
pub row_read : (stack : Stack) (mark : ℕ) (writes : List Written) (marks : List (List ℕ)) (dev : ℕ) (row : List ℕ) → AreMarks stack mark writes marks → dev < length stack.devices.items
    → row ≡ get_or marks dev row → slice_get marks dev ≡ Some row
row_read stack mark writes marks dev row are known is =
    slice_get-get_or marks dev row (omega (arith, are.count)) ∙ ap Some (sym is)
