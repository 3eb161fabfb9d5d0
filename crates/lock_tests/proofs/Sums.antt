-- What the calls of two seats have asked for is what the whole history has.
use Rattle.std.proofs.Common.{◌≡◌, ◌≢◌, ℕ, ◌+◌, ◌^◌, ◌%◌, ◌<◌, cond, List, [], ◌∷◌, ◌++◌, arith, refl, sym, ◌∙◌, ap, subst, eq-eqb, ne_eqb}
use Rattle.std.proofs.Math.Nat.{mod-add-mod}
use Rattle.std.proofs.Math.Decide.{ℕ_discrete}
use Rattle.std.proofs.Math.Logic.{dite}
use Rattle.std.proofs.lemmas.List.Sums.{sum_by-append, sum_by-cons}
use Rattle.std.proofs.lemmas.Bool.{lt-ltb, le-ltb}
use Rattle.seat_lock.specs.declared.view.Entry.{Entry}
use Rattle.std.specs.declared.snapshot.Snapshot.{Snapshot}
use Rattle.seat_lock.specs.declared.view.Known.{Known}
use Rattle.seat_lock.specs.History.{count, indicator, calls_by, Leads}
use Rattle.seat_lock.specs.Seats.{own, call_of, first_seat, split_more, new_seat, Calls, HasJoined}
use Rattle.seat_lock.proofs.Histories.{count_one, count_append}
use Rattle.lock_tests.specs.declared.number.Number.{Number}
use Rattle.lock_tests.specs.Adding.{asked_for, SeatHasAsked}

abbrev Call : Type 0
Call = Entry ℕ ℕ

abbrev asked : Call → ℕ
asked call = call.asked

-- the number's machine
abbrev pub AddsNumber : ℕ → ℕ → ℕ → ℕ → Type 0
AddsNumber before more total after = (after ≡ (before + more) % 2 ^ 64) × (total ≡ after)

by_one : (ns : List ℕ) (call : Call) (calls : List Call) → count call.by ns ≡ 1 → asked_for (calls_by ns (call ∷ calls)) ≡ call.asked + asked_for (calls_by ns calls)
by_one ns call calls h = ap (λ b. asked_for (cond b (call ∷ calls_by ns calls) (calls_by ns calls))) (lt-ltb 0 (count call.by ns) (omega arith)) ∙ sum_by-cons asked call (calls_by ns calls)

by_none : (ns : List ℕ) (call : Call) (calls : List Call) → count call.by ns ≡ 0 → asked_for (calls_by ns (call ∷ calls)) ≡ asked_for (calls_by ns calls)
by_none ns call calls h = ap (λ b. asked_for (cond b (call ∷ calls_by ns calls) (calls_by ns calls))) (le-ltb 0 (count call.by ns) (omega arith))

there : (x y : ℕ) → y ≡ x → count x (y ∷ []) ≡ 1
there x y e = count_one x y ∙ ap indicator (eq-eqb y x e)

not_there : (x y : ℕ) → y ≢ x → count x (y ∷ []) ≡ 0
not_there x y ne = count_one x y ∙ ap indicator (ne_eqb y x ne)

-- the calls of two numbers are those of the one and those of the other
pub two_seats : (n m : ℕ) → n ≢ m → (calls : List Call) → asked_for (calls_by (n ∷ m ∷ []) calls) ≡ asked_for (calls_by (n ∷ []) calls) + asked_for (calls_by (m ∷ []) calls)
two_seats n m ne [] = refl
two_seats n m ne (call ∷ calls) =
    let rest = two_seats n m ne calls in
    let both : count call.by (n ∷ m ∷ []) ≡ count call.by (n ∷ []) + count call.by (m ∷ []) = count_append call.by (n ∷ []) (m ∷ []) in
    dite (ℕ_discrete n call.by)
    (λ e.
    let mine = there call.by n e in
    let other = not_there call.by m (λ f. ne (e ∙ sym f)) in
    omega (arith, rest, by_one (n ∷ m ∷ []) call calls (omega arith), by_one (n ∷ []) call calls mine, by_none (m ∷ []) call calls other))
    (λ a. dite (ℕ_discrete m call.by)
    (λ f.
    let mine = there call.by m f in
    let other = not_there call.by n a in
    omega (arith, rest, by_one (n ∷ m ∷ []) call calls (omega arith), by_one (m ∷ []) call calls mine, by_none (n ∷ []) call calls other))
    (λ b.
    let one = not_there call.by n a in
    let other = not_there call.by m b in
    omega (arith, rest, by_none (n ∷ m ∷ []) call calls (omega arith), by_none (n ∷ []) call calls one, by_none (m ∷ []) call calls other)))

-- the number is what all calls have asked for
pub adds_up : (before after : ℕ) (calls : List Call) → before < 2 ^ 64 → Leads AddsNumber before calls after → after ≡ (before + asked_for calls) % 2 ^ 64
adds_up before after [] h run = grind arith
adds_up before after (call ∷ calls) h run =
    let next = adds_up run.0 after calls (omega arith) run.2 in
    let sums : asked_for (call ∷ calls) ≡ call.asked + asked_for calls = sum_by-cons asked call calls in
    next ∙ ap (λ n. (n + asked_for calls) % 2 ^ 64) run.1.0 ∙ mod-add-mod (before + call.asked) (2 ^ 64) (asked_for calls) ∙ ap (λ n. n % 2 ^ 64) (omega arith)

-- a seat that has called has asked for as much more
pub one_call : (start : ℕ) (v w : Known Number ℕ ℕ) (more told : ℕ) → Calls AddsNumber start v more told w → SeatHasAsked v w more
one_call start v w more told c = record {
  rank = ap (λ (k : Known Number ℕ ℕ). k.rank) c.seen;
  joined = ap (λ (k : Known Number ℕ ℕ). k.joined) c.seen;
  numbers = ap (λ (k : Known Number ℕ ℕ). k.numbers) c.seen;
  asked = ap asked_for c.own_calls ∙ omega (arith, sum_by-append asked (own v) (call_of v more told ∷ []), sum_by-cons asked (call_of v more told) []);
}

module _ (key : Snapshot Number) where
  abbrev first : Known Number ℕ ℕ
  first = split_more (first_seat key)

  abbrev second : Known Number ℕ ℕ
  second = new_seat (first_seat key)

  -- what two seats have asked for, the one split from the other, is what all of the history has
  pub all_asked : (v w u : Known Number ℕ ℕ) (a b : ℕ) → own second ≡ [] → SeatHasAsked first v a → SeatHasAsked second w b → HasJoined v w u → own u ≡ u.seen → asked_for u.seen ≡ a + b
  all_asked v w u a b fresh mine theirs join whole =
      let numbers : u.numbers ≡ 0 ∷ 1 ∷ [] = ap (λ (k : Known Number ℕ ℕ). k.numbers) join.joined ∙ ap (λ ns. ns ++ w.numbers) mine.numbers ∙ ap (λ ns. 0 ∷ ns) theirs.numbers in
      let all : asked_for u.seen ≡ asked_for (calls_by (0 ∷ 1 ∷ []) u.seen) = ap asked_for (sym whole) ∙ ap (λ ns. asked_for (calls_by ns u.seen)) numbers in
      let one : asked_for (calls_by (0 ∷ []) u.seen) ≡ asked_for (own v) = subst (λ ns. asked_for (calls_by ns u.seen) ≡ asked_for (own v)) mine.numbers (ap asked_for join.mine.1) in
      let other : asked_for (calls_by (1 ∷ []) u.seen) ≡ asked_for (own w) = subst (λ ns. asked_for (calls_by ns u.seen) ≡ asked_for (own w)) theirs.numbers (ap asked_for join.theirs.1) in
      let none : asked_for (own second) ≡ 0 = ap asked_for fresh in
      omega (arith, all, two_seats 0 1 (λ e. omega arith) u.seen, one, other, none, mine.asked, theirs.asked)

  -- so the number becomes that
  pub added_up : (v0 w0 v w u : Known Number ℕ ℕ) (a b after : ℕ) → key.value.total ≡ 0 → v0 ≡ first → w0 ≡ second → own w0 ≡ [] → SeatHasAsked v0 v a → SeatHasAsked w0 w b → HasJoined v w u → own u ≡ u.seen
      → Leads AddsNumber key.value.total u.seen after → after ≡ (a + b) % 2 ^ 64
  added_up v0 w0 v w u a b after zero_at is is' fresh mine theirs join whole run =
      let sums = all_asked v w u a b (subst (λ k. own k ≡ []) is' fresh) (subst (λ k. SeatHasAsked k v a) is mine) (subst (λ k. SeatHasAsked k w b) is' theirs) join whole in
      let end = adds_up 0 after u.seen (omega arith) (subst (λ n. Leads AddsNumber n u.seen after) zero_at run) in
      let same : 0 + asked_for u.seen ≡ a + b = omega (arith, sums) in
      end ∙ ap (λ n. n % 2 ^ 64) same
