-- Tickets of a clock, and what contracts see of a pass.
use Rattle.std.specs.Prelude.{◌≡◌, ℕ, ◌+◌, ◌<◌, ◌≤◌, ◌^◌, ◌-◌, ◌⊎◌, ◌==◌, if◌then◌else◌, max, Bool, true, false, List, [], ◌∷◌, ◌++◌, map, sum_by, All, Contains, IsPermutation}
use Rattle.atomic_table.specs.Seated.{TableId}
use Rattle.tick_clock.specs.declared.ticking.PassRank.{PassRank}
use Rattle.tick_clock.specs.declared.ticking.PassRank.TheVariants.{First, Other, Spent}
use Rattle.tick_clock.specs.declared.ticking.Ticket.{Ticket}

-- a pass: its clock, whether it is that clock's first pass, how many passes were joined into it, the greatest ticket that it has
-- seen, the last ticket of its clock that it has found, and the tickets drawn with it and with those that were joined into it
pub record PassState : Type 0 where
  pub clock : TableId
  pub rank : PassRank
  pub joined : ℕ
  pub seen : ℕ
  pub known : ℕ
  pub drawn : List Ticket

-- the first pass of a clock
abbrev pub is_first_pass : PassRank → Bool
is_first_pass (First split) = true
is_first_pass Other = false
is_first_pass Spent = false

-- one more pass was split off
abbrev pub one_more_pass : PassRank → PassRank
one_more_pass (First split) = First (split + 1)
one_more_pass Other = Other
one_more_pass Spent = Spent

-- a first pass as it is made
abbrev pub first_pass : TableId → PassState
first_pass clock = record { clock = clock; rank = First 0; joined = 0; seen = 0; known = 0; drawn = [] }

-- a pass that was just split off: it has no tickets, and has seen and found what the first one has
abbrev pub fresh_pass : PassState → PassState
fresh_pass first = record { clock = first.clock; rank = Other; joined = 0; seen = first.seen; known = first.known; drawn = [] }

-- the pass after it drew a ticket, where it and its note had seen so much
abbrev pub drawn_with : PassState → ℕ → ℕ → PassState
drawn_with pass seen number = record pass { seen = number; known = number; drawn = pass.drawn ++ record { number = number; seen = seen } ∷ [] }

-- the pass after another was joined into it, and it found so much: it has the tickets of both, and has seen what both had seen
abbrev pub joined_pass : PassState → PassState → ℕ → PassState
joined_pass pass other known = record pass {
  joined = pass.joined + other.joined + 1;
  seen = max pass.seen other.seen;
  known = known;
  drawn = pass.drawn ++ other.drawn;
}

-- it is the same pass, with as many split off it and joined into it
pub record IsSamePass (old new : PassState) : Type 0 where
  pub clock : new.clock ≡ old.clock
  pub rank : new.rank ≡ old.rank
  pub joined : new.joined ≡ old.joined

-- no ticket is greater than this one
abbrev pub IsEnd : ℕ → Type 0
IsEnd number = number ≡ 2 ^ 64 - 1

-- the numbers of tickets
abbrev pub ticket_numbers : List Ticket → List ℕ
ticket_numbers tickets = map (λ (ticket : Ticket). ticket.number) tickets

-- 1 where the ticket has this number, and 0 otherwise
abbrev pub hit : ℕ → Ticket → ℕ
hit number t = if t.number == number then 1 else 0

-- how many of the tickets have this number
abbrev pub ticket_count : ℕ → List Ticket → ℕ
ticket_count number ts = sum_by (hit number) ts

-- no two of the tickets have one number
abbrev pub AreApart : List Ticket → Type 0
AreApart ts = (number : ℕ) → ticket_count number ts ≤ 1

-- the number of the last ticket, or `last` where there is none
abbrev pub last_of : ℕ → List Ticket → ℕ
last_of last [] = last
last_of last (t ∷ ts) = last_of t.number ts

-- each ticket is one more than the ticket before, which is `last` for the first of them, or than what its pass and its note had seen,
-- whichever is greater
abbrev pub IsRising : ℕ → List Ticket → Type 0
IsRising last [] = Unit {0}
IsRising last (t ∷ ts) = (t.number ≡ max last t.seen + 1) × IsRising t.number ts

-- so it is of each ticket of a rising row, and of those before it
abbrev pub EachInRow : (List Ticket → Ticket → Type 0) → Type 0
EachInRow Holds = (front : List Ticket) (t : Ticket) (back : List Ticket) → IsRising 0 (front ++ t ∷ back) → Holds front t

-- the number is 0 or that of one of the tickets
abbrev pub IsOneOf : List Ticket → ℕ → Type 0
IsOneOf ts number = (number ≡ 0) ⊎ ((u : Ticket) × Contains ts u × (number ≡ u.number))

-- no ticket is greater than the number, and it is one of theirs, or 0 where there is none
abbrev pub IsGreatest : List Ticket → ℕ → Type 0
IsGreatest ts number = IsOneOf ts number × All (λ t. t.number ≤ number) ts

-- the ticket is one more than 0, than one of the tickets, or than what its pass or its note had seen
abbrev pub IsOneMore : List Ticket → Ticket → Type 0
IsOneMore ts t = ((before : ℕ) × IsOneOf ts before × (t.number ≡ before + 1)) ⊎ (t.number ≡ t.seen + 1)

-- what passes and notes had seen is always one of the tickets, or nothing
abbrev pub SeeOwn : List Ticket → Type 0
SeeOwn ts = All (λ t. IsOneOf ts t.seen) ts

-- what a pass that has just looked shows of all tickets of its clock: they are a row, in the order in which they were drawn, which ends
-- with what the pass has found; the pass has some of them and other passes the rest; and none are elsewhere where every pass that was
-- split off was joined into it
pub record Shows (rank : PassRank) (joined known : ℕ) (drawn : List Ticket) : Type 0 where
  pub row : List Ticket
  pub elsewhere : List Ticket
  pub rising : IsRising 0 row
  pub ends : known ≡ last_of 0 row
  pub fits : known < 2 ^ 64
  pub parted : IsPermutation row (drawn ++ elsewhere)
  pub whole : rank ≡ First joined → elsewhere ≡ []

abbrev pub ShowsTickets : PassState → Type 0
ShowsTickets pass = Shows pass.rank pass.joined pass.known pass.drawn

-- the pass is the first one, and as many passes were joined into it, directly or through others, as were split off
abbrev pub HasAll : PassState → Type 0
HasAll pass = pass.rank ≡ First pass.joined

-- a try draws the ticket, or the pass finds a greater one than it had
abbrev pub Tries : PassState → ℕ → ℕ → Bool → PassState → Type 0
Tries old seen number true new = new ≡ record old { known = number; drawn = old.drawn ++ record { number = number; seen = seen } ∷ [] }
Tries old seen number false new = (new ≡ record old { known = new.known }) × (old.known < new.known)
