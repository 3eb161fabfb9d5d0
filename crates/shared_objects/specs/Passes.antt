-- The passes of tasks.
use Rattle.std.specs.Prelude.{◌≡◌, ◌⊎◌, ◌+◌, ℕ, List, [], Option, Some, None, Contains}
use Rattle.tick_clock.specs.declared.ticking.Ticket.{Ticket}
use Rattle.tick_clock.specs.Tickets.{PassState}

-- the tickets that were drawn with a pass
abbrev pub drawn_by : Option PassState → List Ticket
drawn_by None = []
drawn_by (Some pass) = pass.drawn

-- the last ticket of its clock that a pass has found
abbrev pub found_by : Option PassState → ℕ
found_by None = 0
found_by (Some pass) = pass.known

-- each of these numbers is 1, or one more than another one
abbrev pub AreInRow : List ℕ → Type 0
AreInRow drawn = (ticket : ℕ) → Contains drawn ticket → (ticket ≡ 1) ⊎ ((other : ℕ) × Contains drawn other × (ticket ≡ other + 1))
