-- Tickets that were drawn from a clock.
use Rattle.std.specs.Prelude.{◌≡◌, ◌≤◌, ℕ, ◌+◌, ◌==◌, if◌then◌else◌, List, ◌++◌, sum_by}
use Rattle.tick_clock.specs.Tickets.{PassState, ticket_numbers}

-- the same pass, with which these tickets were drawn
pub record PassHasDrawn (old new : PassState) (tickets : List ℕ) : Type 0 where
  pub clock : new.clock ≡ old.clock
  pub rank : new.rank ≡ old.rank
  pub drawn : ticket_numbers new.drawn ≡ ticket_numbers old.drawn ++ tickets

-- how often a number stands in a list
abbrev pub times_in : ℕ → List ℕ → ℕ
times_in x numbers = sum_by (λ (n : ℕ). if n == x then 1 else 0) numbers

-- no two of the numbers in both lists are one
abbrev pub Differ : List ℕ → List ℕ → Type 0
Differ numbers others = (x : ℕ) → times_in x numbers + times_in x others ≤ 1
