-- Rows of tickets.
use Rattle.std.proofs.Common.{◌≡◌, ◌≢◌, ℕ, ◌+◌, ◌<◌, ◌≤◌, ◌⊎◌, inl, inr, ⊎_elim, max, List, [], ◌∷◌, ◌++◌, length, eq-eqb, ne_eqb, arith, ap, refl, sym, subst, ◌∙◌}
use Rattle.std.specs.Prelude.{All, Contains, IsPermutation}
use Rattle.std.proofs.lemmas.List.Sums.{sum_by-cons, sum_by-append}
use Rattle.std.proofs.lemmas.List.Sorted.{sum_by-IsPermutation, All-permutation, Contains-permutation, IsPermutation-sym, length_permutation}
use Rattle.std.proofs.lemmas.List.Elements.{All-nil, All-cons, All-head, All-tail, All-weaker, All-contains, All-contains_itself, Contains-append_left, Contains-append_right, Contains-append_cases}
use Rattle.std.proofs.lemmas.List.{append-nil}
use mathlib.Core.Logic.{dite}
use native.Mathlib.Decide.{ℕ_discrete}
use Rattle.tick_clock.specs.declared.ticking.Ticket.{Ticket}
use Rattle.tick_clock.specs.Tickets.{PassState, hit, ticket_count, AreApart, last_of, IsRising, IsOneOf, IsOneMore, SeeOwn, ShowsTickets, HasAll}

-- a row with one more ticket
pub rises : (last : ℕ) (ts : List Ticket) (t : Ticket) → IsRising last ts → t.number ≡ max (last_of last ts) t.seen + 1 → IsRising last (ts ++ t ∷ [])
rises last [] t r next = (next, tt)
rises last (u ∷ us) t r next = (r.0, rises u.number us t r.1 next)

pub ends_with : (last : ℕ) (ts : List Ticket) (t : Ticket) → last_of last (ts ++ t ∷ []) ≡ t.number
ends_with last [] t = refl
ends_with last (u ∷ us) t = ends_with u.number us t

-- of the tickets behind `last` none is at most that
above : (last : ℕ) (ts : List Ticket) → IsRising last ts → All (λ u. last < u.number) ts
above last [] r = All-nil (λ u. last < u.number)
above last (t ∷ ts) r =
    All-cons (λ u. last < u.number) t ts (omega (arith, r.0)) (All-weaker (λ u. t.number < u.number) (λ u. last < u.number) (λ u h. omega (arith, r.0, h)) ts (above t.number ts r.1))

-- the last ticket is at least each of them
pub below_last : (last : ℕ) (ts : List Ticket) → IsRising last ts → (last ≤ last_of last ts) × All (λ u. u.number ≤ last_of last ts) ts
below_last last [] r = (omega arith, All-nil (λ u. u.number ≤ last))
below_last last (t ∷ ts) r =
    let rest = below_last t.number ts r.1 in
    (omega (arith, r.0, rest.0), All-cons (λ u. u.number ≤ last_of t.number ts) t ts rest.0 rest.1)

hit_here : (n : ℕ) (t : Ticket) → t.number ≡ n → hit n t ≡ 1
hit_here n t e = rw (eq-eqb t.number n e) refl

hit_else : (n : ℕ) (t : Ticket) → t.number ≢ n → hit n t ≡ 0
hit_else n t ne = rw (ne_eqb t.number n ne) refl

none_below : (last : ℕ) (ts : List Ticket) (n : ℕ) → IsRising last ts → n ≤ last → ticket_count n ts ≡ 0
none_below last [] n r h = refl
none_below last (t ∷ ts) n r h =
    let other : hit n t ≡ 0 = hit_else n t (λ e. omega (arith, r.0, e, h)) in
    omega (arith, other, sum_by-cons (hit n) t ts, none_below t.number ts n r.1 (omega (arith, r.0, h)))

once : (last : ℕ) (ts : List Ticket) (n : ℕ) → IsRising last ts → ticket_count n ts ≤ 1
once last [] n r = omega arith
once last (t ∷ ts) n r =
    dite (ℕ_discrete t.number n)
    (λ e. omega (arith, hit_here n t e, sum_by-cons (hit n) t ts, none_below t.number ts n r.1 (omega (arith, e))))
    (λ ne. omega (arith, hit_else n t ne, sum_by-cons (hit n) t ts, once t.number ts n r.1))

pub rising_apart : (row : List Ticket) → IsRising 0 row → AreApart row
rising_apart row r n = once 0 row n r

-- tickets that are part of a rising row
pub part_apart : (row drawn elsewhere : List Ticket) → IsRising 0 row → IsPermutation row (drawn ++ elsewhere) → AreApart drawn
part_apart row drawn elsewhere r parted n =
    omega (arith, once 0 row n r, sum_by-IsPermutation (hit n) row (drawn ++ elsewhere) parted, sum_by-append (hit n) drawn elsewhere)

-- a place of a rising row
pub at_place : (last : ℕ) (front : List Ticket) (t : Ticket) (back : List Ticket) → IsRising last (front ++ t ∷ back)
    → (t.number ≡ max (last_of last front) t.seen + 1) × IsRising last front
at_place last [] t back r = (r.0, tt)
at_place last (u ∷ us) t back r = let rest = at_place u.number us t back r.1 in (rest.0, (r.0, rest.1))

pub above_front : (front : List Ticket) (t : Ticket) (back : List Ticket) → IsRising 0 (front ++ t ∷ back) → All (λ u. u.number < t.number) front
above_front front t back r =
    let here = at_place 0 front t back r in
    All-weaker (λ u. u.number ≤ last_of 0 front) (λ u. u.number < t.number) (λ u h. omega (arith, here.0, h)) front (below_last 0 front here.1).1

pub next_of_front : (front : List Ticket) (t : Ticket) (back : List Ticket) → IsRising 0 (front ++ t ∷ back) → t.seen ≤ last_of 0 front → t.number ≡ last_of 0 front + 1
next_of_front front t back r h = omega (arith, (at_place 0 front t back r).0, h)

one_more_of : (ts : List Ticket) (last : ℕ) (t : Ticket) → IsOneOf ts last → t.number ≡ max last t.seen + 1 → IsOneMore ts t
one_more_of ts last t one e = dite (ℕ_discrete t.number (t.seen + 1)) (λ s. inr s) (λ ne. inl (last, one, omega (arith, e, ne)))

each_more : (all : List Ticket) (last : ℕ) (ts : List Ticket) → IsRising last ts → IsOneOf all last → All (Contains all) ts → All (IsOneMore all) ts
each_more all last [] r one h = All-nil (IsOneMore all)
each_more all last (t ∷ ts) r one h =
    All-cons (IsOneMore all) t ts (one_more_of all last t one r.0)
    (each_more all t.number ts r.1 (inr (t, All-head (Contains all) t ts h, refl)) (All-tail (Contains all) t ts h))

pub each_one_more : (row : List Ticket) → IsRising 0 row → All (IsOneMore row) row
each_one_more row r = each_more row 0 row r (inl refl) (All-contains_itself row)

-- where a row behind `last` saw only tickets up to `last` and its own, it counts
counts : (all : List Ticket) (last : ℕ) (ts : List Ticket) → IsRising last ts → ((u : Ticket) → Contains all u → (u.number ≤ last) ⊎ Contains ts u)
    → All (λ t. IsOneOf all t.seen) ts → last_of last ts ≡ last + length ts
counts all last [] r split h = omega arith
counts all last (t ∷ ts) r split h =
    let least : All (λ u. t.number ≤ u.number) (t ∷ ts) =
    All-cons (λ u. t.number ≤ u.number) t ts (omega arith)
    (All-weaker (λ u. t.number < u.number) (λ u. t.number ≤ u.number) (λ u l. omega (arith, l)) ts (above t.number ts r.1)) in
    let seen : t.seen ≤ last = ⊎_elim
    (λ none. omega (arith, none))
    (λ some. ⊎_elim
    (λ before. omega (arith, some.2, before))
    (λ behind. absurd (omega (arith, r.0, some.2, All-contains (λ u. t.number ≤ u.number) (t ∷ ts) some.0 least behind)))
    (split some.0 some.1))
    (All-head (λ u. IsOneOf all u.seen) t ts h) in
    let next : (u : Ticket) → Contains all u → (u.number ≤ t.number) ⊎ Contains ts u = λ u there. ⊎_elim
    (λ before. inl (omega (arith, r.0, before)))
    (λ behind. ⊎_elim
    (λ first. inl (All-contains (λ v. v.number ≤ t.number) (t ∷ []) u (All-cons (λ v. v.number ≤ t.number) t [] (omega arith) (All-nil (λ v. v.number ≤ t.number))) first))
    (λ rest. inr rest)
    (Contains-append_cases (t ∷ []) ts u behind))
    (split u there) in
    omega (arith, r.0, seen, counts all t.number ts r.1 next (All-tail (λ u. IsOneOf all u.seen) t ts h))

pub row_counts : (row : List Ticket) → IsRising 0 row → SeeOwn row → last_of 0 row ≡ length row
row_counts row r own = omega (arith, counts row 0 row r (λ u h. inr h) own)

-- what is one of some tickets is one of them in any order
one_of_keeps : (xs ys : List Ticket) → IsPermutation xs ys → (n : ℕ) → IsOneOf xs n → IsOneOf ys n
one_of_keeps xs ys p n one = ⊎_elim (λ none. inl none) (λ some. inr (some.0, Contains-permutation xs ys some.0 p some.1, some.2)) one

one_more_keeps : (xs ys : List Ticket) → IsPermutation xs ys → (t : Ticket) → IsOneMore xs t → IsOneMore ys t
one_more_keeps xs ys p t more = ⊎_elim (λ before. inl (before.0, one_of_keeps xs ys p before.0 before.1, before.2)) (λ seen. inr seen) more

-- the row is the pass's tickets, where it has all
pub has_row : (pass : PassState) (shown : ShowsTickets pass) → HasAll pass → IsPermutation shown.row pass.drawn
has_row pass shown all = subst (IsPermutation shown.row) (ap (λ ts. pass.drawn ++ ts) (shown.whole all) ∙ append-nil pass.drawn) shown.parted

-- the last of a row is what was before it or one of its tickets
last_in : (all : List Ticket) (last : ℕ) (ts : List Ticket) → IsOneOf all last → All (Contains all) ts → IsOneOf all (last_of last ts)
last_in all last [] one h = one
last_in all last (t ∷ ts) one h = last_in all t.number ts (inr (t, All-head (Contains all) t ts h, refl)) (All-tail (Contains all) t ts h)

pub pass_found : (pass : PassState) → (shown : ShowsTickets pass) → IsOneOf shown.row pass.known
pass_found pass shown = subst (IsOneOf shown.row) (sym shown.ends) (last_in shown.row 0 shown.row (inl refl) (All-contains_itself shown.row))

pub pass_once : (pass : PassState) → ShowsTickets pass → AreApart pass.drawn × All (λ t. t.number ≤ pass.known) pass.drawn
pass_once pass shown =
    let highest : ℕ → Type 0 = λ n. All (λ t. t.number ≤ n) (pass.drawn ++ shown.elsewhere) in
    let all : highest pass.known = subst highest (sym shown.ends)
    (All-permutation (λ t. t.number ≤ last_of 0 shown.row) shown.row (pass.drawn ++ shown.elsewhere) shown.parted (below_last 0 shown.row shown.rising).1) in (
      part_apart shown.row pass.drawn shown.elsewhere shown.rising shown.parted,
      All-weaker (Contains pass.drawn) (λ t. t.number ≤ pass.known)
          (λ t h. All-contains (λ u. u.number ≤ pass.known) (pass.drawn ++ shown.elsewhere) t all (Contains-append_left pass.drawn shown.elsewhere t h)) pass.drawn (All-contains_itself pass.drawn),
    )

pub pass_greatest : (pass : PassState) → ShowsTickets pass → HasAll pass → IsOneOf pass.drawn pass.known × All (λ t. t.number ≤ pass.known) pass.drawn
pass_greatest pass shown all =
    (one_of_keeps shown.row pass.drawn (has_row pass shown all) pass.known (pass_found pass shown), (pass_once pass shown).1)

pub pass_one_more : (pass : PassState) → ShowsTickets pass → HasAll pass → All (IsOneMore pass.drawn) pass.drawn
pass_one_more pass shown all =
    let same = has_row pass shown all in
    All-weaker (IsOneMore shown.row) (IsOneMore pass.drawn) (one_more_keeps shown.row pass.drawn same) pass.drawn
    (All-permutation (IsOneMore shown.row) shown.row pass.drawn same (each_one_more shown.row shown.rising))

pub pass_counts : (pass : PassState) → ShowsTickets pass → HasAll pass → SeeOwn pass.drawn → pass.known ≡ length pass.drawn
pass_counts pass shown all own =
    let same = has_row pass shown all in
    let back = IsPermutation-sym shown.row pass.drawn same in
    let seen : SeeOwn shown.row = All-weaker (λ t. IsOneOf pass.drawn t.seen) (λ t. IsOneOf shown.row t.seen) (λ t. one_of_keeps pass.drawn shown.row back t.seen) shown.row
    (All-permutation (λ t. IsOneOf pass.drawn t.seen) pass.drawn shown.row back own) in
    shown.ends ∙ row_counts shown.row shown.rising seen ∙ sym (length_permutation shown.row pass.drawn same)
