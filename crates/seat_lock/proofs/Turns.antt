-- Phases, ranks and numbers of seats.
use Rattle.std.proofs.Common.{◌≡◌, ◌≢◌, ℕ, zero, suc, ◌+◌, ◌≤◌, ◌<◌, Bool, true, false, List, [], ◌∷◌, ◌++◌, arith, refl, sym, ◌∙◌, ap, ne_eqb, eq-eqb, nat_lt, true≢false}
use Rattle.std.specs.Prelude.{sum_by}
use Rattle.std.proofs.lemmas.Bool.{lt-ltb, le-ltb, ltb-true}
use Rattle.std.proofs.Math.Decide.{dec_le, ℕ_discrete}
use Rattle.std.proofs.Math.Logic.{dite}
use Rattle.seat_lock.specs.declared.view.Entry.{Entry}
use Rattle.seat_lock.specs.declared.view.Rank.{Rank}
use Rattle.seat_lock.specs.declared.view.Rank.TheVariants.{First, Other, Spent}
use Rattle.seat_lock.specs.declared.view.Phase.{Phase}
use Rattle.seat_lock.specs.declared.view.Phase.TheVariants.{Idle, Waiting, Serving}
use Rattle.seat_lock.specs.History.{indicator, count}
use Rattle.seat_lock.specs.Seats.{is_first, split_of, one_more}
use Rattle.seat_lock.specs.Turning.{is_live, firsts_of, others_of, out_of, HasTurn, Stands}
use Rattle.seat_lock.proofs.Histories.{count_one}

-- phases
out_most : (p : Phase) → out_of p ≤ 1
out_most Idle = omega arith
out_most (Waiting n) = omega arith
out_most (Serving n) = omega arith

pub live_out : (r : Rank) (p : Phase) (B : Type 0) → (is_live r ≡ false → B × (p ≡ Idle)) → out_of p ≤ firsts_of r + others_of r
live_out (First n) p B h = omega (arith, out_most p)
live_out Other p B h = omega (arith, out_most p)
live_out Spent p B h = rw (h refl).1 (omega arith)

pub turn_in : {A R : Type 0} (served drawn : ℕ) (log seen : List (Entry A R)) (p : Phase) (n : ℕ) → Stands served drawn log seen p → HasTurn n p → (served ≤ n) × (n < drawn)
turn_in served drawn log seen Idle n s h = absurd h
turn_in served drawn log seen (Waiting m) n s h = (omega arith, omega arith)
turn_in served drawn log seen (Serving m) n s h = (omega arith, omega arith)

turn_of : Phase → ℕ
turn_of Idle = 0
turn_of (Waiting n) = n
turn_of (Serving n) = n

phase_kind : Phase → ℕ
phase_kind Idle = 0
phase_kind (Waiting n) = 1
phase_kind (Serving n) = 2

pub idle_not : (n : ℕ) → Idle ≡ Serving n → ⊥
unfolding phase_kind
idle_not n e = let h : ◌≡◌ {A = ℕ} 0 2 = ap phase_kind e in omega arith

pub waiting_not : (k n : ℕ) → Waiting k ≡ Serving n → ⊥
unfolding phase_kind
waiting_not k n e = let h : ◌≡◌ {A = ℕ} 1 2 = ap phase_kind e in omega arith

pub later_stands : {A R : Type 0} (served drawn : ℕ) (log seen : List (Entry A R)) (p : Phase) → Stands served drawn log seen p → Stands served (drawn + 1) log seen p
later_stands served drawn log seen Idle s = tt
later_stands served drawn log seen (Waiting n) s = (s.0, omega arith)
later_stands served drawn log seen (Serving n) s = (s.0, omega arith, s.2)

pub steps_on : {A R : Type 0} (served drawn : ℕ) (log seen : List (Entry A R)) (e : Entry A R) (p : Phase) → (HasTurn served p → ⊥) → Stands served drawn log seen p → Stands (served + 1) drawn (log ++ e ∷ []) seen p
steps_on served drawn log seen e Idle n s = tt
steps_on served drawn log seen e (Waiting m) n s = let ne : m ≢ served = n in (omega arith, s.1)
steps_on served drawn log seen e (Serving m) n s = absurd (n s.0)

pub waiting_is : (p : Phase) (k m : ℕ) → p ≡ Waiting k → p ≡ Waiting m → k ≡ m
unfolding turn_of
waiting_is p k m e f = ap turn_of (sym e ∙ f)

-- no seat is served in the next turn
served_in : {A R : Type 0} (served drawn : ℕ) (log seen : List (Entry A R)) (p : Phase) (n : ℕ) → Stands served drawn log seen p → p ≡ Serving n → n ≡ served
unfolding phase_kind turn_of
served_in served drawn log seen Idle n s e = let h : ◌≡◌ {A = ℕ} 0 2 = ap phase_kind e in omega arith
served_in served drawn log seen (Waiting m) n s e = let h : ◌≡◌ {A = ℕ} 1 2 = ap phase_kind e in omega arith
served_in served drawn log seen (Serving m) n s e = sym (ap turn_of e) ∙ s.0

pub not_next : {A R : Type 0} (served drawn : ℕ) (log seen : List (Entry A R)) (p : Phase) → Stands served drawn log seen p → p ≡ Serving (served + 1) → ⊥
not_next served drawn log seen p s e = let h = served_in served drawn log seen p (served + 1) s e in omega arith

-- ranks
pub no_split : (r : Rank) → firsts_of r ≡ 0 → split_of r ≡ 0
no_split (First n) h = absurd (omega arith)
no_split Other h = refl
no_split Spent h = refl

pub not_live : (r : Rank) → firsts_of r ≡ 0 → others_of r ≡ 0 → is_live r ≡ false
not_live (First n) h k = absurd (omega arith)
not_live Other h k = absurd (omega arith)
not_live Spent h k = refl

pub first_more : (r : Rank) → is_first r ≡ true → (firsts_of (one_more r) ≡ firsts_of r) × (others_of (one_more r) ≡ others_of r) × (split_of (one_more r) ≡ split_of r + 1) × (firsts_of r ≡ 1)
first_more (First n) h = (refl, refl, refl, refl)
first_more Other h = absurd (true≢false (sym h))
first_more Spent h = absurd (true≢false (sym h))

pub first_live : (r : Rank) → is_first r ≡ true → (is_live r ≡ true) × (is_live (one_more r) ≡ true)
first_live (First n) h = (refl, refl)
first_live Other h = absurd (true≢false (sym h))
first_live Spent h = absurd (true≢false (sym h))

pub plain_other : (r : Rank) → is_first r ≡ false → is_live r ≡ true → (firsts_of r ≡ 0) × (others_of r ≡ 1) × (split_of r ≡ 0)
plain_other (First n) h l = absurd (true≢false h)
plain_other Other h l = (refl, refl, refl)
plain_other Spent h l = absurd (true≢false (sym l))

-- numbers that were given
pub one_most : (b : Bool) → indicator b ≤ 1
one_most true = omega arith
one_most false = omega arith

by_test : (x n : ℕ) (b : Bool) → nat_lt x n ≡ b → 1 ≤ indicator b → x < n
by_test x n true e h = ltb-true x n e
by_test x n false e h = absurd (omega arith)

pub below : (x n : ℕ) → 1 ≤ indicator (nat_lt x n) → x < n
below x n h = by_test x n (nat_lt x n) refl h

pub number_one : (x : ℕ) → sum_by (λ (ns : List ℕ). count x ns) ((0 ∷ []) ∷ []) ≡ indicator (nat_lt x 1)
number_one zero = refl
number_one (suc x) =
    let a = ne_eqb 0 (suc x) (λ h. omega arith) in
    let b : nat_lt (suc x) 1 ≡ false = le-ltb (suc x) 1 (omega arith) in
    ap (λ c. 0 + (0 + indicator c)) a ∙ ap indicator (sym b)

pub number_step : (x g : ℕ) → indicator (nat_lt x g) + count x (g ∷ []) ≡ indicator (nat_lt x (g + 1))
number_step x g = rw (count_one x g) (dite (ℕ_discrete g x)
    (λ e. let a : nat_lt x g ≡ false = le-ltb x g (omega arith) in let b : nat_lt x (g + 1) ≡ true = lt-ltb x (g + 1) (omega arith) in rw (a, b, eq-eqb g x e) refl)
    (λ ne. rw (ne_eqb g x ne) (dite (dec_le g x)
    (λ h. let a : nat_lt x g ≡ false = le-ltb x g h in let b : nat_lt x (g + 1) ≡ false = le-ltb x (g + 1) (omega arith) in rw (a, b) refl)
    (λ h. let a : nat_lt x g ≡ true = lt-ltb x g (omega arith) in let b : nat_lt x (g + 1) ≡ true = lt-ltb x (g + 1) (omega arith) in rw (a, b) refl))))
