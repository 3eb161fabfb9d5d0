-- Tickets that differ, by their numbers.
use Rattle.std.proofs.Common.{◌≡◌, ℕ, ◌+◌, List, [], ◌∷◌, ◌++◌, arith, refl, sym, ◌∙◌, ap, subst, eqb}
use Rattle.std.specs.Prelude.{if◌then◌else◌, Result, Ok, IfOk}
use Rattle.std.proofs.lemmas.List.Sums.{sum_by-append, sum_by-cons}
use Rattle.tick_clock.specs.declared.ticking.Ticket.{Ticket}
use Rattle.tick_clock.specs.Tickets.{PassState, hit, ticket_count, AreApart, ticket_numbers}
use Rattle.lock_tests.specs.Drawing.{PassHasDrawn, times_in, Differ}

-- tickets of a number are counted by their numbers
by_numbers : (x : ℕ) (ts : List Ticket) → ticket_count x ts ≡ times_in x (ticket_numbers ts)
by_numbers x [] = refl
by_numbers x (t ∷ ts) = sum_by-cons (hit x) t ts ∙ ap (λ n. hit x t + n) (by_numbers x ts) ∙ sym (sum_by-cons (λ (n : ℕ). if eqb n x then 1 else 0) t.number (ticket_numbers ts))

pub differ : (v w : List Ticket) (mine theirs : List ℕ) → ticket_numbers v ≡ mine → ticket_numbers w ≡ theirs → AreApart (v ++ w) → Differ mine theirs
differ v w mine theirs a b apart x =
    omega (arith, apart x, sum_by-append (hit x) v w, by_numbers x v, by_numbers x w, ap (times_in x) a, ap (times_in x) b)

-- with a pass without tickets, all that it has now were drawn
pub all_drawn : (old new : PassState) (tickets : List ℕ) → PassHasDrawn old new tickets → old.drawn ≡ [] → ticket_numbers new.drawn ≡ tickets
all_drawn old new tickets h none = h.drawn ∙ ap (λ ts. ticket_numbers ts ++ tickets) none

pub of_ok : {T E : Type 0} (r : Result T E) (x : T) (P : T → Type 0) → r ≡ Ok x → IfOk r P → P x
of_ok r x P e h = subst (λ s. IfOk s P) e h
