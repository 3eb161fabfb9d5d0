-- Objects of one kind are opened one behind the other.
use Rattle.std.proofs.Common.{◌≡◌, ◌≢◌, inl, inr, ◌+◌, ◌<◌, ◌≤◌, ◌==◌, ◌++◌, ℕ, Bool, true, false, List, [], ◌∷◌, length, map, filter, get_or, set, Some, None, refl, sym, ap, subst, ◌∙◌, arith, length-append, find}
use Rattle.std.specs.List.{position_or_len, range_with_len}
use Rattle.std.specs.Option.{option_or}
use Rattle.std.proofs.lemmas.List.{append-nil, get_or-set_same, get_or-set_other, length-set, map-append}
use Rattle.std.proofs.lemmas.List.Elements.{filter-append}
use Rattle.std.proofs.lemmas.List.Folds.{find_at, find-append, position_or_len_push}
use Rattle.std.proofs.lemmas.Option.{slice_get-get_or, none-some}
use Rattle.std.proofs.lemmas.Bool.{eq-eqb, ne_eqb, cases_lt}
use Rattle.task_core.specs.Tables.{is_entry_of, IsEntryAt}
use Rattle.task_core.specs.opened.Filled.{AreMade, IsNext}
use Rattle.stack_base.proofs.ListLemmas.{range_more}
use Rattle.stack_base.proofs.NumberLemmas.{below_or_last}

-- what is found is found with one more, and what is not found is the last where this passes
still_found : {E : Type 0} (p : E → Bool) (xs : List E) (x e : E) → find p xs ≡ Some e → find p (xs ++ x ∷ []) ≡ Some e
still_found p xs x e found = find-append p xs (x ∷ []) ∙ ap (λ o. option_or o (find p (x ∷ []))) found

last_found : {E : Type 0} (p : E → Bool) (xs : List E) (x : E) → find p xs ≡ None → p x ≡ true → find p (xs ++ x ∷ []) ≡ Some x
last_found p xs x none passes = find-append p xs (x ∷ []) ∙ ap (λ o. option_or o (find p (x ∷ []))) none ∙ rw (passes) refl

not_found : {E : Type 0} (p : E → Bool) (xs : List E) (x : E) → find p xs ≡ None → p x ≡ false → find p (xs ++ x ∷ []) ≡ None
not_found p xs x none fails = find-append p xs (x ∷ []) ∙ ap (λ o. option_or o (find p (x ∷ []))) none ∙ rw (fails) refl

-- places
place_bound : {E : Type 0} (p : E → Bool) (xs : List E) → position_or_len p xs ≤ length xs
place_bound p [] = omega arith
place_bound p (x ∷ xs) = by_case (place_bound p xs) (p x) refl
  where
    by_case : position_or_len p xs ≤ length xs → (b : Bool) → p x ≡ b → position_or_len p (x ∷ xs) ≤ length (x ∷ xs)
    by_case rest true q = rw (q) (omega arith)
    by_case rest false q = rw (q) (omega (arith, rest))

not_there : {E : Type 0} (p : E → Bool) (xs : List E) → position_or_len p xs < length xs → find p xs ≡ None → ⊥
not_there p [] lt none = absurd (omega (arith, lt))
not_there p (x ∷ xs) lt none =
    none-some (get_or (x ∷ xs) (position_or_len p (x ∷ xs)) x)
    (sym none ∙ find_at p (x ∷ xs) ∙ slice_get-get_or (x ∷ xs) (position_or_len p (x ∷ xs)) x lt)

no_place : {E : Type 0} (p : E → Bool) (xs : List E) → find p xs ≡ None → position_or_len p xs ≡ length xs
no_place p xs none = elim (cases_lt (position_or_len p xs) (length xs)) [
  | inl lt ↦ absurd (not_there p xs lt none)
  | inr le ↦ let bound = place_bound p xs in omega (arith, le, bound)
]

place_stays : {E : Type 0} (p : E → Bool) (xs : List E) (x : E) → position_or_len p xs < length xs → position_or_len p (xs ++ x ∷ []) ≡ position_or_len p xs
place_stays p xs x lt = let apart : (position_or_len p xs == length xs) ≡ false = ne_eqb _ _ (λ e. omega (arith, lt, e)) in position_or_len_push p xs x ∙ rw (apart) refl

place_last : {E : Type 0} (p : E → Bool) (xs : List E) (x : E) → find p xs ≡ None → p x ≡ true → position_or_len p (xs ++ x ∷ []) ≡ length xs
place_last p xs x none passes =
    let none_is = no_place p xs none in
    let same : (position_or_len p xs == length xs) ≡ true = eq-eqb _ _ none_is in position_or_len_push p xs x ∙ rw (same, passes) (omega arith)

-- one more index
pub filter_more : (p : ℕ → Bool) (n : ℕ) → filter p (range_with_len 0 (n + 1)) ≡ filter p (range_with_len 0 n) ++ filter p (n ∷ [])
filter_more p n = ap (filter p) (range_more n) ∙ filter-append p (range_with_len 0 n) (n ∷ [])

module _ {E : Type 0} (key : E → ℕ) (number : ℕ → ℕ) (is_used : ℕ → Bool) (IsMade : ℕ → E → Type 0) (n : ℕ) (entries : List E) (table : List ℕ)
    (all : AreMade key number is_used IsMade n entries table) where
  ordered_more : (more : List E) → map key more ≡ map key entries ++ map number (filter is_used (n ∷ []))
      → map key more ≡ map number (filter is_used (range_with_len 0 (n + 1)))
  ordered_more more is =
      is ∙ ap (λ keys. keys ++ map number (filter is_used (n ∷ []))) all.order
      ∙ sym (ap (map number) (filter_more is_used n) ∙ map-append number (filter is_used (range_with_len 0 n)) (filter is_used (n ∷ [])))

  -- the next one is not used
  passed : is_used n ≡ false → AreMade key number is_used IsMade (n + 1) entries table
  passed not_used =
      let few = all.few in
      record {
        few = omega (arith, few);
        made = λ i lt used. elim (below_or_last i n lt) [
          | inl before ↦ all.made i before used
          | inr last ↦ absurd (clash i last used)
        ];
        entered = λ i lt used. elim (below_or_last i n lt) [
          | inl before ↦ all.entered i before used
          | inr last ↦ absurd (clash i last used)
        ];
        no_other = λ k none. all.no_other k (λ i lt used. none i (omega (arith, lt)) used);
        order = ordered_more entries (rw (not_used) (sym (append-nil (map key entries))));
      }
    where
      clash : (i : ℕ) → i ≡ n → is_used i ≡ true → ⊥
      clash i last used = let q : is_used n ≡ true = ap is_used (sym last) ∙ used in cc

  -- the next one is made
  module _ (entry : E) (made : IsMade n entry) (keyed : key entry ≡ number n) (used : is_used n ≡ true)
      (apart : (i : ℕ) → i < n → number i ≢ number n) (inside : number n < length table) where
    nothing_yet : find (is_entry_of key (number n)) entries ≡ None
    nothing_yet = all.no_other (number n) (λ i lt used. apart i lt)

    now_found : find (is_entry_of key (number n)) (entries ++ entry ∷ []) ≡ Some entry
    now_found = last_found (is_entry_of key (number n)) entries entry nothing_yet (eq-eqb (key entry) (number n) keyed)

    made_at : (i : ℕ) → i < n + 1 → is_used i ≡ true
        → (e : E) × (find (is_entry_of key (number i)) (entries ++ entry ∷ []) ≡ Some e) × IsMade i e
    made_at i lt is = elim (below_or_last i n lt) [
      | inl before ↦
          let old = all.made i before is in (old.0, still_found (is_entry_of key (number i)) entries entry old.0 old.1, old.2)
      | inr last ↦
          subst (λ j. (e : E) × (find (is_entry_of key (number j)) (entries ++ entry ∷ []) ≡ Some e) × IsMade j e) (sym last) (entry, now_found, made)
    ]

    old_at : (i : ℕ) → i < n → is_used i ≡ true → IsEntryAt key (set table (number n) (length entries)) (entries ++ entry ∷ []) (number i)
    old_at i lt is =
        let old : IsEntryAt key table entries (number i) = all.entered i lt is in
        let stays : get_or (set table (number n) (length entries)) (number i) 0 ≡ get_or table (number i) 0 =
        get_or-set_other table (number n) (number i) (length entries) 0 (apart i lt) in
        let there = old.there in
        let long : length (entries ++ entry ∷ []) ≡ length entries + 1 = length-append entries (entry ∷ []) in
        record {
          there = omega (arith, stays, there, long);
          first = stays ∙ old.first ∙ sym (place_stays (is_entry_of key (number i)) entries entry (subst (λ k. k < length entries) old.first old.there));
        }

    new_at : IsEntryAt key (set table (number n) (length entries)) (entries ++ entry ∷ []) (number n)
    new_at =
        let now : get_or (set table (number n) (length entries)) (number n) 0 ≡ length entries =
        get_or-set_same table (number n) (length entries) 0 inside in
        let long : length (entries ++ entry ∷ []) ≡ length entries + 1 = length-append entries (entry ∷ []) in
        record {
          there = omega (arith, now, long);
          first = now ∙ sym (place_last (is_entry_of key (number n)) entries entry nothing_yet (eq-eqb (key entry) (number n) keyed));
        }

    added : AreMade key number is_used IsMade (n + 1) (entries ++ entry ∷ []) (set table (number n) (length entries))
    added =
        let few = all.few in
        let long : length (entries ++ entry ∷ []) ≡ length entries + 1 = length-append entries (entry ∷ []) in
        record {
          few = omega (arith, few, long);
          made = made_at;
          entered = λ i lt is. elim (below_or_last i n lt) [
            | inl before ↦ old_at i before is
            | inr last ↦ subst (λ j. IsEntryAt key (set table (number n) (length entries)) (entries ++ entry ∷ []) (number j)) (sym last) new_at
          ];
          no_other = λ k none.
              not_found (is_entry_of key k) entries entry (all.no_other k (λ i lt is. none i (omega (arith, lt)) is))
              (ne_eqb (key entry) k (λ e. none n (omega arith) used (sym keyed ∙ e)));
          order = ordered_more (entries ++ entry ∷ []) (rw (used) (map-append key entries (entry ∷ []) ∙ ap (λ k. map key entries ++ k ∷ []) keyed));
        }

  pub one_more : (more : List E) (after : List ℕ) → ((i : ℕ) → i < n → number i ≢ number n) → number n < length table
      → IsNext key number is_used IsMade n entries table more after
      → AreMade key number is_used IsMade (n + 1) more after × (length after ≡ length table)
  one_more more after apart inside (inl (used, entry, made, keyed, items, enters)) = (
    subst (λ xs. AreMade key number is_used IsMade (n + 1) xs after) (sym items)
        (subst (AreMade key number is_used IsMade (n + 1) (entries ++ entry ∷ [])) (sym enters) (added entry made keyed used apart inside)),
    ap length enters ∙ length-set table (number n) (length entries),
  )
  one_more more after apart inside (inr (not_used, items, enters)) = (
    subst (λ xs. AreMade key number is_used IsMade (n + 1) xs after) (sym items)
        (subst (AreMade key number is_used IsMade (n + 1) entries) (sym enters) (passed not_used)),
    ap length enters,
  )

-- none is made yet
pub none_made : {E : Type 0} (key : E → ℕ) (number : ℕ → ℕ) (is_used : ℕ → Bool) (IsMade : ℕ → E → Type 0) (table : List ℕ)
    → AreMade key number is_used IsMade 0 [] table
none_made key number is_used IsMade table = record {
  few = omega arith;
  made = λ index lt used. absurd (omega (arith, lt));
  entered = λ index lt used. absurd (omega (arith, lt));
  no_other = λ other none. refl;
  order = refl;
}

pub not_itself : (i n : ℕ) → i < n → i ≢ n
not_itself i n lt e = absurd (omega (arith, lt, e))
