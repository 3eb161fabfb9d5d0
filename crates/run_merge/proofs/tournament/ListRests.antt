-- What stands in lists from a place of each on.
use Rattle.std.proofs.Common.{◌≡◌, ◌≢◌, ◌⊎◌, ◌+◌, ◌<◌, ◌≤◌, ◌++◌, ℕ, zero, suc, List, [], ◌∷◌, length, inl, inr, refl, sym, ◌∙◌, ap, subst, arith, drop, get_or}
use Rattle.std.specs.Prelude.{Contains, IsPermutation}
use Rattle.std.proofs.lemmas.List.{drop_more, get_or-drop, length-drop}
use Rattle.std.proofs.lemmas.List.Elements.{Contains-append_cases}
use Rattle.std.proofs.lemmas.List.Sorted.{IsPermutation-append_right, IsPermutation-middle, IsPermutation-refl, IsPermutation-trans}
use Rattle.run_merge.specs.Heads.{rest}

-- the same places, the same rest
pub rest_same : {X : Type 0} (rows : List (List X)) (at other : ℕ → ℕ) → ((list : ℕ) → at list ≡ other list) → rest at rows ≡ rest other rows
rest_same [] at other same = refl
rest_same (row ∷ rows) at other same =
    let here = same 0 in
    let later = rest_same rows (λ list. at (suc list)) (λ list. other (suc list)) (λ list. same (suc list)) in
    λ i. drop (here i) row ++ later i

-- where one list went on by an element, this is what was taken of the rest
pub rest_taken : {X : Type 0} (rows : List (List X)) (at new : ℕ → ℕ) (list : ℕ) (x : X) → list < length rows → at list < length (get_or rows list [])
    → get_or (get_or rows list []) (at list) x ≡ x → new list ≡ at list + 1 → ((other : ℕ) → other ≢ list → new other ≡ at other)
    → IsPermutation (rest at rows) (x ∷ rest new rows)
rest_taken [] at new list x less some is more others = absurd (omega (arith, less))
rest_taken (row ∷ rows) at new zero x less some is more others =
    let first = drop_more row (at 0) x some in
    let later = rest_same rows (λ list. at (suc list)) (λ list. new (suc list)) (λ list. sym (others (suc list) (omega arith))) in
    let all : rest at (row ∷ rows) ≡ x ∷ rest new (row ∷ rows) = λ i. (first ∙ (λ j. is j ∷ drop (sym more j) row)) i ++ later i in
    subst (λ l. IsPermutation (rest at (row ∷ rows)) l) all (IsPermutation-refl (rest at (row ∷ rows)))
rest_taken (row ∷ rows) at new (suc list) x less some is more others =
    let here : drop (at 0) row ≡ drop (new 0) row = ap (λ n. drop n row) (sym (others 0 (omega arith))) in
    let later = rest_taken rows (λ list. at (suc list)) (λ list. new (suc list)) list x (omega (arith, less)) some is more (λ other differs. others (suc other) (λ same. differs (omega (arith, same)))) in
    let one = IsPermutation-append_right (drop (at 0) row) (rest (λ list. at (suc list)) rows) (x ∷ rest (λ list. new (suc list)) rows) later in
    let two = IsPermutation-middle (drop (at 0) row) x (rest (λ list. new (suc list)) rows) in
    let three = IsPermutation-trans (rest at (row ∷ rows)) (drop (at 0) row ++ x ∷ rest (λ list. new (suc list)) rows) (x ∷ (drop (at 0) row ++ rest (λ list. new (suc list)) rows)) one two in
    subst (λ l. IsPermutation (rest at (row ∷ rows)) (x ∷ (l ++ rest (λ list. new (suc list)) rows))) here three

-- it is one of these
pub record IsInRest {X : Type 0} (rows : List (List X)) (at : ℕ → ℕ) (y : X) : Type 0 where
  pub list : ℕ
  pub place : ℕ
  pub is_list : list < length rows
  pub behind : at list ≤ place
  pub within : place < length (get_or rows list [])
  pub is : get_or (get_or rows list []) place y ≡ y

pub left_is : {X : Type 0} (rows : List (List X)) (at : ℕ → ℕ) (y : X) → Contains (rest at rows) y → IsInRest rows at y
left_is [] at y (k, lt, is) = absurd (omega (arith, lt))
left_is (row ∷ rows) at y there = by_two (Contains-append_cases (drop (at 0) row) (rest (λ list. at (suc list)) rows) y there) (left_is rows (λ list. at (suc list)) y)
  where
    by_two : Contains (drop (at 0) row) y ⊎ Contains (rest (λ list. at (suc list)) rows) y → (Contains (rest (λ list. at (suc list)) rows) y → IsInRest rows (λ list. at (suc list)) y)
        → IsInRest (row ∷ rows) at y
    by_two (inl (k, lt, is)) later = record {
      list = 0;
      place = at 0 + k;
      is_list = omega arith;
      behind = omega arith;
      within = let long = length-drop (at 0) row in omega (arith, lt, long);
      is = sym (get_or-drop (at 0) row k y) ∙ is;
    }
    by_two (inr behind) later =
        let l = later behind in
        let less = l.is_list in
        record { list = suc l.list; place = l.place; is_list = omega (arith, less); behind = l.behind; within = l.within; is = l.is }

-- where each list was taken whole
pub none_left : {X : Type 0} (rows : List (List X)) (at : ℕ → ℕ) → ((list : ℕ) → list < length rows → length (get_or rows list []) ≤ at list) → rest at rows ≡ []
none_left [] at whole = refl
none_left (row ∷ rows) at whole =
    let here = whole 0 (omega arith) in
    let later = none_left rows (λ list. at (suc list)) (λ list less. whole (suc list) (omega (arith, less))) in
    λ i. dropped (at 0) row here i ++ later i
  where
    dropped : {X : Type 0} (n : ℕ) (row : List X) → length row ≤ n → drop n row ≡ []
    dropped zero [] le = refl
    dropped (suc n) [] le = refl
    dropped zero (x ∷ row) le = absurd (omega (arith, le))
    dropped (suc n) (x ∷ row) le = dropped n row (omega (arith, le))
