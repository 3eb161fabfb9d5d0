-- The head at the root of a tournament is the first of all that is left.
use Rattle.std.proofs.Common.{◌≡◌, ◌⊎◌, ◌+◌, ◌*◌, ◌<◌, ◌≤◌, if◌then◌else◌, ℕ, zero, suc, Bool, true, false, List, [], Option, None, Some, length, inl, inr, refl, sym, ◌∙◌, ap, subst, arith, get_or}
use Rattle.std.specs.Prelude.{Contains, nat_lt, slice_get}
use Rattle.std.specs.List.Sorted.{IsNonDecreasingBy}
use Rattle.std.specs.Option.{unwrap_or}
use Rattle.std.proofs.lemmas.Bool.{ltb-false, ltb-true}
use Rattle.std.proofs.lemmas.Option.{none-some, slice_get_cases, slice_get-get_or, get_or_from_slice_get}
use Rattle.run_merge.specs.declared.heads.Head.{Head}
use Rattle.run_merge.specs.Heads.{IsTournamentAt, ticketed_head, winner_of, head_at, is_before, no_head, node_head, rest, smaller, ticket_in, with_ticket}
use Rattle.run_merge.proofs.tournament.ListRests.{left_is, none_left}

-- no ticket is behind any, and else the smaller one is not behind
abbrev pub IsNotBefore : Option ℕ → Option ℕ → Type 0
IsNotBefore None first = Unit {0}
IsNotBefore (Some ticket) None = ⊥
IsNotBefore (Some ticket) (Some first) = first ≤ ticket

behind_itself : (ticket : Option ℕ) → IsNotBefore ticket ticket
behind_itself None = tt
behind_itself (Some ticket) = omega arith

behind_both : (a b c : Option ℕ) → IsNotBefore a b → IsNotBefore b c → IsNotBefore a c
behind_both None b c ab bc = tt
behind_both (Some a) None c ab bc = absurd ab
behind_both (Some a) (Some b) None ab bc = absurd bc
behind_both (Some a) (Some b) (Some c) ab bc = omega (arith, ab, bc)

smaller_of : (a b : Option ℕ) → IsNotBefore a (if is_before b a then b else a) × IsNotBefore b (if is_before b a then b else a)
smaller_of None None = (tt, tt)
smaller_of None (Some b) = (tt, omega arith)
smaller_of (Some a) None = (omega arith, tt)
smaller_of (Some a) (Some b) = by_test (nat_lt b a) refl
  where
    by_test : (c : Bool) → nat_lt b a ≡ c → IsNotBefore (Some a) (if c then Some b else Some a) × IsNotBefore (Some b) (if c then Some b else Some a)
    by_test true lt = let less = ltb-true b a lt in (omega (arith, less), omega arith)
    by_test false lt = let le = ltb-false b a lt in (omega arith, omega (arith, le))

pick_ticket : (c : Bool) (first second : Head) → (if c then second else first).ticket ≡ (if c then second.ticket else first.ticket)
pick_ticket true first second = refl
pick_ticket false first second = refl

pick_one : (c : Bool) (first second : Head) → ((if c then second else first) ≡ first) ⊎ ((if c then second else first) ≡ second)
pick_one true first second = inr refl
pick_one false first second = inl refl

behind_smaller : (first second : Head) → IsNotBefore first.ticket (smaller first second).ticket × IsNotBefore second.ticket (smaller first second).ticket
behind_smaller first second =
    let same = sym (pick_ticket (is_before second.ticket first.ticket) first second) in
    let both = smaller_of first.ticket second.ticket in
    (subst (IsNotBefore first.ticket) same both.0, subst (IsNotBefore second.ticket) same both.1)

-- a number is twice another one, or one more
halves : (n : ℕ) → (half : ℕ) × ((n ≡ 2 * half) ⊎ (n ≡ 2 * half + 1))
halves zero = (0, inl refl)
halves (suc n) = by_two (halves n)
  where
    by_two : (half : ℕ) × ((n ≡ 2 * half) ⊎ (n ≡ 2 * half + 1)) → (half : ℕ) × ((suc n ≡ 2 * half) ⊎ (suc n ≡ 2 * half + 1))
    by_two (half, inl even) = (half, inr (omega (arith, even)))
    by_two (half, inr odd) = (half + 1, inl (omega (arith, odd)))

-- the first of all that is left
pub record IsFirst {T : Type 0} (rows : List (List (ℕ × T))) (at : ℕ → ℕ) (head : Head) : Type 0 where
  pub list : head.list < length rows
  pub place : head.at ≡ at head.list
  pub some : head.at < length (get_or rows head.list [])
  pub least : (d y : ℕ × T) → Contains (rest at rows) y → (get_or (get_or rows head.list []) head.at d).0 ≤ y.0

with_some : (head other : Head) (ticket : Option ℕ) → with_ticket head ticket ≡ Some other → (head ≡ other) × (t : ℕ) × (ticket ≡ Some t)
with_some head other None is = absurd (none-some other is)
with_some head other (Some t) is = (ap (λ o. unwrap_or o head) is, t, refl)

with_none : (head : Head) (ticket : Option ℕ) → with_ticket head ticket ≡ None → ticket ≡ None
with_none head None is = refl
with_none head (Some t) is = absurd (none-some head (sym is))

ticket_some : {T : Type 0} (xs : List (ℕ × T)) (place t : ℕ) → ticket_in (slice_get xs place) ≡ Some t → (place < length xs) × ((d : ℕ × T) → (get_or xs place d).0 ≡ t)
ticket_some {T} xs place t is = by_two (slice_get_cases xs place).1
  where
    by_two : ((x : ℕ × T) × (place < length xs) × (slice_get xs place ≡ Some x) × (get_or xs place x ≡ x)) ⊎ ((length xs ≤ place) × (slice_get xs place ≡ None))
        → (place < length xs) × ((d : ℕ × T) → (get_or xs place d).0 ≡ t)
    by_two (inl (x, lt, there, same)) =
        (lt, λ d. ap (λ (e : ℕ × T). e.0) (get_or_from_slice_get xs place x d there) ∙ ap (λ o. unwrap_or o t) (sym (ap ticket_in there) ∙ is))
    by_two (inr (le, none)) = absurd (none-some t (sym (ap ticket_in none) ∙ is))

ticket_none : {T : Type 0} (xs : List (ℕ × T)) (place : ℕ) → ticket_in (slice_get xs place) ≡ None → length xs ≤ place
ticket_none {T} xs place is = by_two (slice_get_cases xs place).1
  where
    by_two : ((x : ℕ × T) × (place < length xs) × (slice_get xs place ≡ Some x) × (get_or xs place x ≡ x)) ⊎ ((length xs ≤ place) × (slice_get xs place ≡ None)) → length xs ≤ place
    by_two (inl (x, lt, there, same)) = absurd (none-some x.0 (sym is ∙ ap ticket_in there))
    by_two (inr (le, none)) = le

none_behind : (ticket first : Option ℕ) → first ≡ None → IsNotBefore ticket first → ticket ≡ None
none_behind None first none behind = refl
none_behind (Some ticket) first none behind = absurd (subst (IsNotBefore (Some ticket)) none behind)

module _ {T : Type 0} (rows : List (List (ℕ × T))) (at : ℕ → ℕ) (nodes : List Head) (s : IsTournamentAt rows at nodes) where
  -- the root comes before each node
  before_all : (fuel number : ℕ) → number ≤ fuel → 1 ≤ number → number < length rows + length rows → IsNotBefore (node_head nodes number).ticket (node_head nodes 1).ticket
  before_all zero number le some less = absurd (omega (arith, le, some))
  before_all (suc fuel) number le some less = by_half (before_all fuel) (halves number)
    where
      AllBefore : Type 0
      AllBefore = (number : ℕ) → number ≤ fuel → 1 ≤ number → number < length rows + length rows → IsNotBefore (node_head nodes number).ticket (node_head nodes 1).ticket

      up : AllBefore → (half : ℕ) → 1 ≤ half → half < number → half < length rows → IsNotBefore (node_head nodes number).ticket (node_head nodes half).ticket → IsNotBefore (node_head nodes number).ticket (node_head nodes 1).ticket
      up before half is smaller_half inner behind =
          behind_both (node_head nodes number).ticket (node_head nodes half).ticket (node_head nodes 1).ticket behind
          (before half (omega (arith, le, smaller_half)) is (omega (arith, inner)))

      by_half : AllBefore → (half : ℕ) × ((number ≡ 2 * half) ⊎ (number ≡ 2 * half + 1)) → IsNotBefore (node_head nodes number).ticket (node_head nodes 1).ticket
      by_half before (half, inl even) =
          let is : 1 ≤ half = omega (arith, even, some) in
          let inner : half < length rows = omega (arith, even, less) in
          let played = s.holds.inner half is inner tt in
          let behind = (behind_smaller (node_head nodes (2 * half)) (node_head nodes (2 * half + 1))).0 in
          up before half is (omega (arith, even, is)) inner
          (subst (λ n. IsNotBefore (node_head nodes n).ticket (node_head nodes half).ticket) (sym even) (subst (λ (h : Head). IsNotBefore (node_head nodes (2 * half)).ticket h.ticket) (sym played) behind))
      by_half before (zero, inr odd) = subst (λ n. IsNotBefore (node_head nodes n).ticket (node_head nodes 1).ticket) (sym odd) (behind_itself (node_head nodes 1).ticket)
      by_half before (suc half, inr odd) =
          let inner : suc half < length rows = omega (arith, odd, less) in
          let played = s.holds.inner (suc half) (omega arith) inner tt in
          let behind = (behind_smaller (node_head nodes (2 * suc half)) (node_head nodes (2 * suc half + 1))).1 in
          up before (suc half) (omega arith) (omega (arith, odd)) inner
          (subst (λ n. IsNotBefore (node_head nodes n).ticket (node_head nodes (suc half)).ticket) (sym odd) (subst (λ (h : Head). IsNotBefore (node_head nodes (2 * suc half + 1)).ticket h.ticket) (sym played) behind))

  -- the head of a list from its place on
  abbrev IsLeaf : Head → Type 0
  IsLeaf head = (list : ℕ) × (list < length rows) × (head ≡ head_at rows list (at list))

  leaf_is : (fuel number : ℕ) → length rows + length rows ≤ number + fuel → 1 ≤ number → number < length rows + length rows → IsLeaf (node_head nodes number)
  leaf_is zero number long some less = absurd (omega (arith, long, less))
  leaf_is (suc fuel) number long some less = by_place (leaf_is fuel) (compare number (length rows))
    where
      AreLeaves : Type 0
      AreLeaves = (number : ℕ) → length rows + length rows ≤ number + fuel → 1 ≤ number → number < length rows + length rows → IsLeaf (node_head nodes number)

      compare : (a b : ℕ) → (a < b) ⊎ ((k : ℕ) × (a ≡ b + k))
      compare a zero = inr (a, omega arith)
      compare zero (suc b) = inl (omega arith)
      compare (suc a) (suc b) = by_two (compare a b)
        where
          by_two : (a < b) ⊎ ((k : ℕ) × (a ≡ b + k)) → (suc a < suc b) ⊎ ((k : ℕ) × (suc a ≡ suc b + k))
          by_two (inl lt) = inl (omega (arith, lt))
          by_two (inr (k, is)) = inr (k, omega (arith, is))

      by_pick : AreLeaves → (number < length rows) → (node_head nodes number ≡ node_head nodes (2 * number)) ⊎ (node_head nodes number ≡ node_head nodes (2 * number + 1)) → IsLeaf (node_head nodes number)
      by_pick leaves inner (inl first) = subst IsLeaf (sym first) (leaves (2 * number) (omega (arith, long, some)) (omega (arith, some)) (omega (arith, inner)))
      by_pick leaves inner (inr second) = subst IsLeaf (sym second) (leaves (2 * number + 1) (omega (arith, long, some)) (omega arith) (omega (arith, inner)))

      picked : (number < length rows) → (node_head nodes number ≡ node_head nodes (2 * number)) ⊎ (node_head nodes number ≡ node_head nodes (2 * number + 1))
      picked inner =
          subst (λ (h : Head). (h ≡ node_head nodes (2 * number)) ⊎ (h ≡ node_head nodes (2 * number + 1))) (sym (s.holds.inner number some inner tt))
          (pick_one (is_before (node_head nodes (2 * number + 1)).ticket (node_head nodes (2 * number)).ticket) (node_head nodes (2 * number)) (node_head nodes (2 * number + 1)))

      by_place : AreLeaves → (number < length rows) ⊎ ((k : ℕ) × (number ≡ length rows + k)) → IsLeaf (node_head nodes number)
      by_place leaves (inl inner) = by_pick leaves inner (picked inner)
      by_place leaves (inr (list, is)) =
          let small : list < length rows = omega (arith, is, less) in
          (list, small, ap (node_head nodes) is ∙ s.leaf list small)

  root_is : (head : Head) → winner_of nodes ≡ Some head → (node_head nodes 1 ≡ head) × (t : ℕ) × (head.ticket ≡ Some t)
  root_is head is = by_two (slice_get_cases nodes 1).1
    where
      by_two : ((x : Head) × (1 < length nodes) × (slice_get nodes 1 ≡ Some x) × (get_or nodes 1 x ≡ x)) ⊎ ((length nodes ≤ 1) × (slice_get nodes 1 ≡ None))
          → (node_head nodes 1 ≡ head) × (t : ℕ) × (head.ticket ≡ Some t)
      by_two (inl (x, lt, there, same)) =
          let (one, t, some) = with_some x head x.ticket (sym (ap ticketed_head there) ∙ is) in
          (get_or_from_slice_get nodes 1 x no_head there ∙ one, t, sym (ap (λ (h : Head). h.ticket) one) ∙ some)
      by_two (inr (le, none)) = absurd (none-some head (sym (ap ticketed_head none) ∙ is))

  -- where the root has this ticket, no element that is left has a smaller one
  none_smaller : ((list : ℕ) → IsNonDecreasingBy (λ (e : ℕ × T). e.0) (get_or rows list [])) → (t : ℕ) → (node_head nodes 1).ticket ≡ Some t → (y : ℕ × T) → Contains (rest at rows) y → t ≤ y.0
  none_smaller rises t is y there =
      let l = left_is rows at y there in
      let row = get_or rows l.list [] in
      let less = l.is_list in
      let within : at l.list < length row = let a = l.behind in let b = l.within in omega (arith, a, b) in
      let ticket : (node_head nodes (length rows + l.list)).ticket ≡ Some (get_or row (at l.list) y).0 =
      ap (λ (h : Head). h.ticket) (s.leaf l.list less) ∙ ap ticket_in (slice_get-get_or row (at l.list) y within) in
      let long : 1 ≤ length rows + l.list = omega (arith, less) in
      let small : length rows + l.list < length rows + length rows = omega (arith, less) in
      let behind = before_all (length rows + l.list) (length rows + l.list) (omega arith) long small in
      let least : t ≤ (get_or row (at l.list) y).0 = subst (λ p. IsNotBefore p (Some t)) ticket (subst (IsNotBefore (node_head nodes (length rows + l.list)).ticket) is behind) in
      let later = rises l.list (at l.list) l.place y l.behind l.within in
      let same = ap (λ (e : ℕ × T). e.0) l.is in
      omega (arith, least, later, same)

  pub first_is : ((list : ℕ) → IsNonDecreasingBy (λ (e : ℕ × T). e.0) (get_or rows list [])) → (head : Head) → winner_of nodes ≡ Some head → IsFirst rows at head
  first_is rises head is =
      let (root, t, ticket) = root_is head is in
      let some : 1 < length nodes = slice_within nodes head is in
      let long = s.holds.long in
      let (list, less, leaf) = leaf_is (length rows + length rows) 1 (omega arith) (omega arith) (omega (arith, some, long)) in
      let head_is : head ≡ head_at rows list (at list) = sym root ∙ leaf in
      subst (IsFirst rows at) (sym head_is) (
      let here = ticket_some (get_or rows list []) (at list) t (sym (ap (λ (h : Head). h.ticket) head_is) ∙ ticket) in
      record {
        list = less;
        place = refl;
        some = here.0;
        least = λ d y there.
            let least = none_smaller rises t (ap (λ (h : Head). h.ticket) root ∙ ticket) y there in
            let same = here.1 d in
            omega (arith, least, same);
      })
    where
      slice_within : (nodes : List Head) (head : Head) → winner_of nodes ≡ Some head → 1 < length nodes
      slice_within nodes head is = by_two (slice_get_cases nodes 1).1
        where
          by_two : ((x : Head) × (1 < length nodes) × (slice_get nodes 1 ≡ Some x) × (get_or nodes 1 x ≡ x)) ⊎ ((length nodes ≤ 1) × (slice_get nodes 1 ≡ None)) → 1 < length nodes
          by_two (inl (x, lt, there, same)) = lt
          by_two (inr (le, none)) = absurd (none-some head (sym (ap ticketed_head none) ∙ is))

  pub nothing_left : winner_of nodes ≡ None → rest at rows ≡ []
  nothing_left is = none_left rows at (λ list less. whole list less (slice_get_cases nodes 1).1)
    where
      whole : (list : ℕ) → list < length rows
          → ((x : Head) × (1 < length nodes) × (slice_get nodes 1 ≡ Some x) × (get_or nodes 1 x ≡ x)) ⊎ ((length nodes ≤ 1) × (slice_get nodes 1 ≡ None))
          → length (get_or rows list []) ≤ at list
      whole list less (inl (x, lt, there, same)) =
          let none = with_none x x.ticket (sym (ap ticketed_head there) ∙ is) in
          let root = ap (λ (h : Head). h.ticket) (get_or_from_slice_get nodes 1 x no_head there) ∙ none in
          let behind = before_all (length rows + list) (length rows + list) (omega arith) (omega (arith, less)) (omega (arith, less)) in
          let ticket = none_behind (node_head nodes (length rows + list)).ticket (node_head nodes 1).ticket root behind in
          ticket_none (get_or rows list []) (at list) (sym (ap (λ (h : Head). h.ticket) (s.leaf list less)) ∙ ticket)
      whole list less (inr (le, none)) = let long = s.holds.long in absurd (omega (arith, le, less, long))
