-- The views of a clock's table: their sums and their tickets, after one of them changed.
use Rattle.std.proofs.Common.{◌≡◌, ◌≢◌, ℕ, zero, suc, ◌+◌, ◌<◌, ◌≤◌, ⊎_elim, true, false, List, length, [], ◌∷◌, ◌++◌, set, arith, ap, refl, sym, subst, ◌∙◌, true≢false}
use Rattle.std.specs.Prelude.{sum_by, IsPermutation}
use Rattle.std.proofs.lemmas.List.Sums.{sum_by-cons, sum_by-set}
use Rattle.std.proofs.lemmas.List.Sorted.{IsPermutation-refl, IsPermutation-sym, IsPermutation-trans, IsPermutation-append_left, IsPermutation-append_right, IsPermutation-append_comm}
use Rattle.std.proofs.lemmas.List.{append-nil, append_assoc, length-drop, set-set, set_comm}
use mathlib.Core.Option.{some, some-injective, some-ne-none}
use lib.ListN.{get_elem?}
use Rattle.atomic_table.proofs.Lists.{at_set, at_snoc, drop_at, set_again, set_else}
use Rattle.tick_clock.specs.declared.ticking.PassRank.{PassRank}
use Rattle.tick_clock.specs.declared.ticking.PassRank.TheVariants.{First, Other, Spent}
use Rattle.tick_clock.specs.declared.ticking.Ticket.{Ticket}
use Rattle.tick_clock.specs.declared.ticking.PassView.{PassView}
use Rattle.tick_clock.specs.Ticking.{is_live_pass, first_in, other_in, split_in, first_passes, other_passes, passes_split, all_drawn, IsTidy, spent_pass_view}

-- one view changes
pub sum_by-put : (f : PassView → ℕ) (vs : List PassView) (i : ℕ) (v w : PassView) → get_elem? vs i ≡ some v → sum_by f (set vs i w) + f v ≡ sum_by f vs + f w
sum_by-put f vs i v w e =
    let there : i < length vs = omega (arith, ap length (drop_at vs i v e), length-drop i vs) in
    omega (arith, sum_by-set f vs i w v there, sum_by-set f vs i v v there, ap (sum_by f) (set_again vs i v e))

pub put_at : (vs : List PassView) (i : ℕ) (v w : PassView) → get_elem? vs i ≡ some v → get_elem? (set vs i w) i ≡ some w
put_at [] i v w e = absurd (some-ne-none v (sym e))
put_at (u ∷ vs) zero v w e = refl
put_at (u ∷ vs) (suc i) v w e = put_at vs i v w e

-- the first of three lists and the second change places
first_two_swapped : (xs ys zs : List Ticket) → IsPermutation (xs ++ (ys ++ zs)) (ys ++ (xs ++ zs))
first_two_swapped xs ys zs =
    subst (IsPermutation (xs ++ (ys ++ zs))) (append_assoc ys xs zs)
    (subst (λ l. IsPermutation l ((ys ++ xs) ++ zs)) (append_assoc xs ys zs) (IsPermutation-append_left zs (xs ++ ys) (ys ++ xs) (IsPermutation-append_comm xs ys)))

-- all tickets are those of one view and those of the others
pub parted : (vs : List PassView) (i : ℕ) (v : PassView) → get_elem? vs i ≡ some v → IsPermutation (all_drawn vs) (v.drawn ++ all_drawn (set vs i spent_pass_view))
parted [] i v e = absurd (some-ne-none v (sym e))
parted (u ∷ vs) zero v e =
    subst (λ (w : PassView). IsPermutation (u.drawn ++ all_drawn vs) (w.drawn ++ all_drawn vs)) (some-injective u v e) (IsPermutation-refl (u.drawn ++ all_drawn vs))
parted (u ∷ vs) (suc i) v e =
    let rest : List Ticket = all_drawn (set vs i spent_pass_view) in
    IsPermutation-trans (u.drawn ++ all_drawn vs) (u.drawn ++ (v.drawn ++ rest)) (v.drawn ++ (u.drawn ++ rest))
    (IsPermutation-append_right u.drawn (all_drawn vs) (v.drawn ++ rest) (parted vs i v e))
    (first_two_swapped u.drawn v.drawn rest)

-- one view's tickets change, and with them the row
pub put_shared : (row now : List Ticket) (vs : List PassView) (i : ℕ) (v w : PassView) → get_elem? vs i ≡ some v → IsPermutation row (all_drawn vs)
    → ((rest : List Ticket) → IsPermutation row (v.drawn ++ rest) → IsPermutation now (w.drawn ++ rest)) → IsPermutation now (all_drawn (set vs i w))
put_shared row now vs i v w e shared step =
    let rest : List Ticket = all_drawn (set vs i spent_pass_view) in
    let before : IsPermutation row (v.drawn ++ rest) = IsPermutation-trans row (all_drawn vs) (v.drawn ++ rest) shared (parted vs i v e) in
    let after : IsPermutation (all_drawn (set vs i w)) (w.drawn ++ rest) =
    subst (λ l. IsPermutation (all_drawn (set vs i w)) (w.drawn ++ all_drawn l)) (set-set vs i w spent_pass_view) (parted (set vs i w) i w (put_at vs i v w e)) in
    IsPermutation-trans now (w.drawn ++ rest) (all_drawn (set vs i w)) (step rest before) (IsPermutation-sym (all_drawn (set vs i w)) (w.drawn ++ rest) after)

-- the row and a view have one ticket more
pub one_drawn : (row drawn : List Ticket) (t : Ticket) (rest : List Ticket) → IsPermutation row (drawn ++ rest) → IsPermutation (row ++ t ∷ []) ((drawn ++ t ∷ []) ++ rest)
one_drawn row drawn t rest p =
    let one : List Ticket = t ∷ [] in
    let moved : IsPermutation (drawn ++ (rest ++ one)) (drawn ++ (one ++ rest)) = IsPermutation-append_right drawn (rest ++ one) (one ++ rest) (IsPermutation-append_comm rest one) in
    let from : IsPermutation ((drawn ++ rest) ++ one) ((drawn ++ one) ++ rest) =
    subst (λ l. IsPermutation l ((drawn ++ one) ++ rest)) (sym (append_assoc drawn rest one))
    (subst (IsPermutation (drawn ++ (rest ++ one))) (sym (append_assoc drawn one rest)) moved) in
    IsPermutation-trans (row ++ one) ((drawn ++ rest) ++ one) ((drawn ++ one) ++ rest) (IsPermutation-append_left one row (drawn ++ rest) p) from

-- a view more
pub drawn-last : (vs : List PassView) (v : PassView) → all_drawn (vs ++ v ∷ []) ≡ all_drawn vs ++ v.drawn
drawn-last [] v = append-nil v.drawn
drawn-last (u ∷ vs) v = ap (λ l. u.drawn ++ l) (drawn-last vs v) ∙ sym (append_assoc u.drawn (all_drawn vs) v.drawn)

-- a view takes in the tickets of another
pub join_shared : (row : List Ticket) (vs : List PassView) (i j : ℕ) (v w u : PassView) → get_elem? vs i ≡ some v → j ≢ i → get_elem? (set vs i u) j ≡ some w
    → u.drawn ≡ v.drawn ++ w.drawn → IsPermutation row (all_drawn vs) → IsPermutation row (all_drawn (set (set vs i u) j spent_pass_view))
join_shared row vs i j v w u e apart e' both shared =
    let one : List PassView = set vs i spent_pass_view in
    let rest : List Ticket = all_drawn (set one j spent_pass_view) in
    let last : List PassView = set (set vs i u) j spent_pass_view in
    let other : get_elem? one j ≡ some w = set_else vs i j spent_pass_view apart ∙ sym (set_else vs i j u apart) ∙ e' in
    let before : IsPermutation row (v.drawn ++ (w.drawn ++ rest)) =
    IsPermutation-trans row (v.drawn ++ all_drawn one) (v.drawn ++ (w.drawn ++ rest))
    (IsPermutation-trans row (all_drawn vs) (v.drawn ++ all_drawn one) shared (parted vs i v e))
    (IsPermutation-append_right v.drawn (all_drawn one) (w.drawn ++ rest) (parted one j w other)) in
    let here : get_elem? last i ≡ some u = set_else (set vs i u) j i spent_pass_view (λ s. apart (sym s)) ∙ put_at vs i v u e in
    let same : set last i spent_pass_view ≡ set one j spent_pass_view =
    set_comm (set vs i u) j i spent_pass_view spent_pass_view apart ∙ ap (λ l. set l j spent_pass_view) (set-set vs i u spent_pass_view) in
    let after : IsPermutation (all_drawn last) (u.drawn ++ rest) = subst (λ l. IsPermutation (all_drawn last) (u.drawn ++ all_drawn l)) same (parted last i u here) in
    let joined : u.drawn ++ rest ≡ v.drawn ++ (w.drawn ++ rest) = ap (λ l. l ++ rest) both ∙ append_assoc v.drawn w.drawn rest in
    IsPermutation-trans row (u.drawn ++ rest) (all_drawn last)
    (subst (IsPermutation row) (sym joined) before)
    (IsPermutation-sym (all_drawn last) (u.drawn ++ rest) after)

pub put_tidy : (n : ℕ) (vs : List PassView) (i : ℕ) (w : PassView) → ((j : ℕ) (v : PassView) → get_elem? vs j ≡ some v → IsTidy n v) → IsTidy n w → (j : ℕ) (v : PassView)
    → get_elem? (set vs i w) j ≡ some v → IsTidy n v
put_tidy n vs i w tidy h j v e = ⊎_elim (λ t. subst (IsTidy n) t.1 h) (λ t. tidy j v t.1) (at_set vs i j w v e)

pub last_tidy : (n : ℕ) (vs : List PassView) (w : PassView) → ((j : ℕ) (v : PassView) → get_elem? vs j ≡ some v → IsTidy n v) → IsTidy n w → (j : ℕ) (v : PassView)
    → get_elem? (vs ++ w ∷ []) j ≡ some v → IsTidy n v
last_tidy n vs w tidy h j v e = ⊎_elim (λ t. tidy j v t) (λ t. subst (IsTidy n) t h) (at_snoc vs w v j e)

pub live_tidy : (n : ℕ) (v : PassView) → v.known ≤ n → is_live_pass v.rank ≡ true → IsTidy n v
live_tidy n v h live = (h, λ spent. absurd (true≢false (sym live ∙ spent)))

no_split : (r : PassRank) → first_in r ≡ 0 → split_in r ≡ 0
no_split (First split) h = absurd (omega (arith, h))
no_split Other h = refl
no_split Spent h = refl

-- without the first pass's view there is none of a first pass, and nobody else has split a pass
pub none_split : (vs : List PassView) → sum_by first_passes vs ≡ 0 → sum_by passes_split vs ≡ 0
none_split [] h = refl
none_split (v ∷ vs) h =
    let here = sum_by-cons first_passes v vs in
    omega (arith, h, here, sum_by-cons passes_split v vs, no_split v.rank (omega (arith, h, here)), none_split vs (omega (arith, h, here)))

not_live : (r : PassRank) → first_in r ≡ 0 → other_in r ≡ 0 → is_live_pass r ≡ false
not_live (First split) h k = absurd (omega (arith, h))
not_live Other h k = absurd (omega (arith, k))
not_live Spent h k = refl

-- where all views are spent, none has a ticket
pub all_spent : (n : ℕ) (vs : List PassView) → ((i : ℕ) (v : PassView) → get_elem? vs i ≡ some v → IsTidy n v) → sum_by first_passes vs ≡ 0 → sum_by other_passes vs ≡ 0 → all_drawn vs ≡ []
all_spent n [] tidy h k = refl
all_spent n (v ∷ vs) tidy h k =
    let first = sum_by-cons first_passes v vs in
    let other = sum_by-cons other_passes v vs in
    let none : v.drawn ≡ [] = (tidy 0 v refl).1 (not_live v.rank (omega (arith, first, h)) (omega (arith, other, k))) in
    let rest : all_drawn vs ≡ [] = all_spent n vs (λ i w e. tidy (suc i) w e) (omega (arith, first, h)) (omega (arith, other, k)) in
    λ i. none i ++ rest i
