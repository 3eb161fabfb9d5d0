-- Taken one after the other, the first heads of a tournament are its lists joined.
use Rattle.std.proofs.Common.{◌≡◌, ◌⊎◌, ◌+◌, ◌-◌, ◌<◌, ◌≤◌, ◌++◌, ◌==◌, ℕ, zero, suc, Bool, true, false, List, [], ◌∷◌, None, Some, length, map, inl, inr, refl, sym, ◌∙◌, ap, subst, arith, drop, get_or}
use Rattle.std.specs.Prelude.{All, Contains, IsPermutation}
use Rattle.std.specs.Global.{Vec}
use Rattle.std.specs.List.Sorted.{IsNonDecreasingBy}
use Rattle.std.proofs.lemmas.Bool.{eqb-true, eqb-false, cases_lt}
use Rattle.std.proofs.lemmas.List.{append-nil, append_assoc, length-append, map-append, get_or_append_left, get_or-append_right}
use Rattle.std.proofs.lemmas.List.Elements.{All-head, All-tail, Contains-append_cases, Contains-append_right, Contains-get_or}
use Rattle.std.proofs.lemmas.List.Sorted.{Contains-permutation, IsPermutation-append_right, IsPermutation-refl, IsPermutation-sym, IsPermutation-trans, length_permutation}
use Rattle.run_merge.specs.declared.heads.Head.{Head}
use Rattle.run_merge.specs.Heads.{TakesHead, IsTournamentAt, winner_of, head_at, node_head, rest, rows}
use Rattle.run_merge.specs.Joining.{IsJoinedByTicket, all_in}
use Rattle.run_merge.proofs.tournament.ListRests.{rest_taken}
use Rattle.run_merge.proofs.tournament.Winner.{IsFirst, first_is, nothing_left}

-- from which place on each list is left
abbrev pub places : ℕ → List Head → ℕ → ℕ
places count nodes list = (node_head nodes (count + list)).at

-- these are the values of what was taken, in order, none of which is behind what is left
pub record Joins {T : Type 0} (rows : List (List (ℕ × T))) (nodes : List Head) (values : List T) : Type 0 where
  pub stands : IsTournamentAt rows (places (length rows) nodes) nodes
  pub taken : List (ℕ × T)
  pub same : IsPermutation (rest (λ list. 0) rows) (taken ++ rest (places (length rows) nodes) rows)
  pub rises : IsNonDecreasingBy (λ (e : ℕ × T). e.0) taken
  pub before : (x y : ℕ × T) → Contains taken x → Contains (rest (places (length rows) nodes) rows) y → x.0 ≤ y.0
  pub value : values ≡ map (λ (e : ℕ × T). e.1) taken

rises_on : {T : Type 0} (xs : List (ℕ × T)) (x : ℕ × T) → IsNonDecreasingBy (λ (e : ℕ × T). e.0) xs → ((y : ℕ × T) → Contains xs y → y.0 ≤ x.0) → IsNonDecreasingBy (λ (e : ℕ × T). e.0) (xs ++ x ∷ [])
rises_on {T} xs x rises most i j d le less = by_two (cases_lt j (length xs)) (cases_lt i (length xs))
  where
    none_more : (n : ℕ) → n - n ≡ 0
    none_more n = omega arith

    last : (n : ℕ) → length xs ≡ n → (get_or (xs ++ x ∷ []) n d) ≡ x
    last n long = get_or-append_right xs (x ∷ []) n n d long (omega arith) ∙ ap (λ k. get_or (x ∷ []) k d) (none_more n)

    by_two : (j < length xs) ⊎ (length xs ≤ j) → (i < length xs) ⊎ (length xs ≤ i) → (get_or (xs ++ x ∷ []) i d).0 ≤ (get_or (xs ++ x ∷ []) j d).0
    by_two (inl j_in) (inl i_in) =
        let a = ap (λ (e : ℕ × T). e.0) (get_or_append_left xs (x ∷ []) d i i_in) in
        let b = ap (λ (e : ℕ × T). e.0) (get_or_append_left xs (x ∷ []) d j j_in) in
        let up = rises i j d le j_in in
        omega (arith, a, b, up)
    by_two (inl j_in) (inr i_out) = absurd (omega (arith, le, j_in, i_out))
    by_two (inr j_out) (inl i_in) =
        let long = length-append xs (x ∷ []) in
        let is : length xs ≡ j = omega (arith, less, long, j_out) in
        let a = ap (λ (e : ℕ × T). e.0) (get_or_append_left xs (x ∷ []) d i i_in) in
        let b = ap (λ (e : ℕ × T). e.0) (last j is) in
        let up = most (get_or xs i d) (Contains-get_or xs i d i_in) in
        omega (arith, a, b, up)
    by_two (inr j_out) (inr i_out) =
        let long = length-append xs (x ∷ []) in
        let is : i ≡ j = omega (arith, less, long, j_out, i_out, le) in
        let same = ap (λ n. (get_or (xs ++ x ∷ []) n d).0) is in
        omega (arith, same)

leaf_on : {T : Type 0} (rows : List (List (ℕ × T))) (list n : ℕ) (head : Head) → head ≡ head_at rows list n → head ≡ head_at rows list head.at
leaf_on rows list n head is = is ∙ ap (head_at rows list) (sym (ap (λ (h : Head). h.at) is))

-- tickets rise along each list
pub rising_rows : {T : Type 0} (lists : List (Vec (ℕ × T))) → All (λ (list : Vec (ℕ × T)). IsNonDecreasingBy (λ (e : ℕ × T). e.0) list.items) lists
    → (list : ℕ) → IsNonDecreasingBy (λ (e : ℕ × T). e.0) (get_or (rows lists) list [])
rising_rows [] rising list = λ i j d le less. absurd (omega (arith, less))
rising_rows {T} (v ∷ lists) rising zero = All-head (λ (list : Vec (ℕ × T)). IsNonDecreasingBy (λ (e : ℕ × T). e.0) list.items) v lists rising
rising_rows {T} (v ∷ lists) rising (suc list) = rising_rows lists (All-tail (λ (list : Vec (ℕ × T)). IsNonDecreasingBy (λ (e : ℕ × T). e.0) list.items) v lists rising) list

pub rows_long : {X : Type 0} (lists : List (Vec X)) → length (rows lists) ≡ length lists
rows_long [] = refl
rows_long (v ∷ lists) = let rest = rows_long lists in omega (arith, rest)

all_left : {X : Type 0} (lists : List (Vec X)) → rest (λ list. 0) (rows lists) ≡ all_in lists
all_left [] = refl
all_left (v ∷ lists) = ap (λ l. v.items ++ l) (all_left lists)

module _ {T : Type 0} (rows : List (List (ℕ × T))) (rising : (list : ℕ) → IsNonDecreasingBy (λ (e : ℕ × T). e.0) (get_or rows list [])) where
  pub joins_first : (nodes : List Head) → IsTournamentAt rows (λ list. 0) nodes → Joins rows nodes []
  joins_first nodes s =
      let opened : (list : ℕ) → list < length rows → places (length rows) nodes list ≡ 0 = λ list less. ap (λ (h : Head). h.at) (s.leaf list less) in
      record {
        stands = record { holds = s.holds; leaf = λ list less. leaf_on rows list 0 (node_head nodes (length rows + list)) (s.leaf list less) };
        taken = [];
        same = subst (IsPermutation (rest (λ list. 0) rows)) (same_within rows (λ list. 0) (places (length rows) nodes) (λ list less. sym (opened list less))) (IsPermutation-refl (rest (λ list. 0) rows));
        rises = λ i j d le less. absurd (omega (arith, less));
        before = λ x y there. absurd (let lt = there.1 in omega (arith, lt));
        value = refl;
      }
    where
      same_within : {X : Type 0} (rows : List (List X)) (at other : ℕ → ℕ) → ((list : ℕ) → list < length rows → at list ≡ other list) → rest at rows ≡ rest other rows
      same_within [] at other same = refl
      same_within (row ∷ rows) at other same =
          let here = same 0 (omega arith) in
          let later = same_within rows (λ list. at (suc list)) (λ list. other (suc list)) (λ list less. same (suc list) (omega (arith, less))) in
          λ i. drop (here i) row ++ later i

  module _ (old new : List Head) (values : List T) (j : Joins rows old values) (head : Head) (is : winner_of old ≡ Some head) (on : TakesHead rows head old new) where
    abbrev was : ℕ → ℕ
    was = places (length rows) old

    abbrev now : ℕ → ℕ
    now = places (length rows) new

    first : IsFirst rows was head
    first = first_is rows was old j.stands rising head is

    leaf : (list : ℕ) → list < length rows → node_head new (length rows + list) ≡ head_at rows list (now list)
    leaf list less = by_test (list == head.list) refl
      where
        by_test : (c : Bool) → (list == head.list) ≡ c → node_head new (length rows + list) ≡ head_at rows list (now list)
        by_test true same =
            subst (λ l. node_head new (length rows + l) ≡ head_at rows l (now l)) (sym (eqb-true list head.list same))
            (leaf_on rows head.list (head.at + 1) (node_head new (length rows + head.list)) on.here)
        by_test false other =
            let stays = on.others list (eqb-false list head.list other) in
            stays ∙ j.stands.leaf list less ∙ ap (head_at rows list) (sym (ap (λ (h : Head). h.at) stays))

    abbrev entry : (ℕ × T) → ℕ × T
    entry d = get_or (get_or rows head.list []) head.at d

    left : (d : ℕ × T) → IsPermutation (rest was rows) (entry d ∷ rest now rows)
    left d =
        let some : was head.list < length (get_or rows head.list []) = subst (λ n. n < length (get_or rows head.list [])) first.place first.some in
        let found : get_or (get_or rows head.list []) (was head.list) (entry d) ≡ entry d =
        subst (λ n. get_or (get_or rows head.list []) n (entry d) ≡ entry d) first.place (same_at (get_or rows head.list []) head.at first.some d) in
        rest_taken rows was now head.list (entry d) first.list some found (ap (λ (h : Head). h.at) on.here ∙ ap (λ n. n + 1) first.place)
        (λ other differs. ap (λ (h : Head). h.at) (on.others other differs))
      where
        same_at : {X : Type 0} (xs : List X) (n : ℕ) → n < length xs → (d : X) → get_or xs n (get_or xs n d) ≡ get_or xs n d
        same_at [] n less d = absurd (omega (arith, less))
        same_at (x ∷ xs) zero less d = refl
        same_at (x ∷ xs) (suc n) less d = same_at xs n (omega (arith, less)) d

    pub joins_on : (value : T) → value ≡ (entry (0, value)).1 → Joins rows new (values ++ value ∷ [])
    joins_on value is_value =
        let x = entry (0, value) in
        let out = left (0, value) in
        let to_old : (y : ℕ × T) → Contains (rest now rows) y → Contains (rest was rows) y =
        λ y there. Contains-permutation (x ∷ rest now rows) (rest was rows) y (IsPermutation-sym (rest was rows) (x ∷ rest now rows) out) (Contains-append_right (x ∷ []) (rest now rows) y there) in
        let x_old : Contains (rest was rows) x =
        Contains-permutation (x ∷ rest now rows) (rest was rows) x (IsPermutation-sym (rest was rows) (x ∷ rest now rows) out) (0, omega arith, refl) in
        let one = IsPermutation-append_right j.taken (rest was rows) (x ∷ rest now rows) out in
        let two = IsPermutation-trans (rest (λ list. 0) rows) (j.taken ++ rest was rows) (j.taken ++ x ∷ rest now rows) j.same one in
        record {
          stands = record { holds = on.holds; leaf = leaf };
          taken = j.taken ++ x ∷ [];
          same = subst (IsPermutation (rest (λ list. 0) rows)) (sym (append_assoc j.taken (x ∷ []) (rest now rows))) two;
          rises = rises_on j.taken x j.rises (λ y there. j.before y x there x_old);
          before = λ a y there right. by_two (Contains-append_cases j.taken (x ∷ []) a there) (to_old y right);
          value = (λ i. j.value i ++ is_value i ∷ []) ∙ sym (map-append (λ (e : ℕ × T). e.1) j.taken (x ∷ []));
        }
      where
        by_two : {a y : ℕ × T} → Contains j.taken a ⊎ Contains (entry (0, value) ∷ []) a → Contains (rest was rows) y → a.0 ≤ y.0
        by_two {a} {y} (inl there) right = j.before a y there right
        by_two {a} {y} (inr (k, lt, same)) right =
            let zero_of : k ≡ 0 = omega (arith, lt) in
            let here : entry (0, value) ≡ a = sym (ap (λ n. get_or (entry (0, value) ∷ []) n a) zero_of) ∙ same in
            let least = first.least (0, value) y right in
            let key = ap (λ (e : ℕ × T). e.0) here in
            omega (arith, least, key)

    pub less_left : (d : ℕ × T) → length (rest now rows) < length (rest was rows)
    less_left d = let long = length_permutation (rest was rows) (entry d ∷ rest now rows) (left d) in omega (arith, long)

pub are_joined : {T : Type 0} (lists : List (Vec (ℕ × T))) (nodes : List Head) (values : List T) → Joins (rows lists) nodes values → winner_of nodes ≡ None
    → IsJoinedByTicket (all_in lists) values
are_joined lists nodes values j none =
    let empty = nothing_left (rows lists) (places (length (rows lists)) nodes) nodes j.stands none in
    record {
      ordered = j.taken;
      same = subst (λ l. IsPermutation l j.taken) (all_left lists)
          (subst (IsPermutation (rest (λ list. 0) (rows lists))) (ap (λ l. j.taken ++ l) empty ∙ append-nil j.taken) j.same);
      rises = j.rises;
      values = j.value;
    }
