-- What closed objects show of the tickets of their clock.
use Rattle.std.specs.Prelude.{◌≡◌, ◌⊎◌, ◌+◌, ◌-◌, ◌^◌, ◌≤◌, ℕ, true, List, All, Contains, None, Some}
use Rattle.tick_clock.specs.declared.ticking.Ticket.{Ticket}
use Rattle.tick_clock.specs.Tickets.{PassState, AreApart}
use Rattle.run_machine.specs.Laws.{Object}
use Rattle.run_machine.specs.Scene.{Setup}
use Rattle.task_core.specs.declared.plain.Plain.{Plain}
use Rattle.object_things.specs.Histories.{Call, FoundNone}
use Rattle.object_things.specs.Stamps.{ThingState}
use Rattle.shared_objects.specs.ClosedByName.{history_in}
use Rattle.shared_objects.specs.Closes.{ClosesAs, Returned}
use Rattle.shared_objects.specs.Kinds.{ThingAt}
use Rattle.shared_objects.specs.Logs.{is_event, is_refused}
use Rattle.shared_objects.specs.Passes.{found_by}
use Rattle.shared_objects.specs.declared.closed.Closed.{Closed}

-- a ticket is 1, or one more than another one
abbrev pub IsBehind : List Ticket → Ticket → Type 0
IsBehind tickets ticket = (ticket.number ≡ 1) ⊎ ((other : Ticket) × Contains tickets other × (ticket.number ≡ other.number + 1))

-- a call in the history of some object drew the ticket of this number
abbrev pub DrewTicket : (Object → List Call) → ℕ → Call → Type 0
DrewTicket history number call = (name : Object) × Contains (history name) call × (call.told.drawn ≡ Some number)

abbrev pub IsEvent : Call → Type 0
IsEvent call = is_event call.asked call.told.reply ≡ true

abbrev pub IsRefusedCall : Call → Type 0
IsRefusedCall call = is_refused call.asked call.told.reply ≡ true

-- the entry of an event carries this ticket, and that of a refused call none
abbrev pub EntryCarries : ℕ → Call → Type 0
EntryCarries number call = (IsEvent call × (call.told.ticket ≡ Some number)) ⊎ (IsRefusedCall call × (call.told.ticket ≡ None))

-- The tickets that were drawn of a clock, and the histories of the objects that draw of it.
pub record AreOfHistories (history : Object → List Call) (tickets : List Ticket) : Type 0 where
  -- they all differ
  pub apart : AreApart tickets
  pub row : All (IsBehind tickets) tickets
  -- each is the ticket of an entry in the histories, but for those that calls drew which were refused
  pub drawn : All (λ (ticket : Ticket). (call : Call) × DrewTicket history ticket.number call × EntryCarries ticket.number call) tickets
  -- of which each task has one at most
  pub few : (one other : ℕ) (call later : Call) → DrewTicket history one call → IsRefusedCall call → DrewTicket history other later → IsRefusedCall later → call.by ≡ later.by → one ≡ other
  -- where a draw found none, the last one is among them
  pub last : (name : Object) (call : Call) → Contains (history name) call → FoundNone call → (ticket : Ticket) × Contains tickets ticket × (ticket.number ≡ 2 ^ 64 - 1)

-- what is left of shared objects shows all tickets of their clock
abbrev pub ShowsItsTickets : Closed → Type 0
ShowsItsTickets closed = AreOfHistories (history_in closed) closed.pass.value.drawn

-- It follows from what a close shows, where the first pass has found what those of the tasks have.
abbrev pub ClosesShowTickets : Type 0
ClosesShowTickets = (setup : Setup) (opened : Plain) (names : List Object) (history : Object → List Call) (left : (name : Object) → ThingState (ThingAt name))
    (tasks : List Returned) (pass : PassState) → ClosesAs setup opened names history left tasks pass
    → All (λ (task : Returned). found_by task.desk.pass ≤ pass.known) tasks → AreOfHistories history pass.drawn
