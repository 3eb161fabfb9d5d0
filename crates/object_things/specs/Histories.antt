-- What histories of things show.
use Rattle.std.specs.Prelude.{◌≡◌, ◌⊎◌, ◌<◌, ◌≤◌, ℕ, true, false, List, [], ◌∷◌, Option, Some, None, All, Contains, filter}
use Rattle.std.specs.Option.{is_some}
use Rattle.seat_lock.specs.declared.view.Entry.{Entry}
use Rattle.seat_lock.specs.History.{Leads}
use Rattle.run_machine.specs.declared.event.What.{What}
use Rattle.run_machine.specs.Events.{what_of}
use Rattle.run_machine.specs.Requests.{Request, Reply, NoTicket}
use Rattle.task_steps.specs.Service.{Service}
use Rattle.object_things.specs.Stamps.{ThingState, Told, ThingAnswers, carried, is_spent}

-- a call as a history keeps it
abbrev pub Call : Type 0
Call = Entry Request Told

-- a ticket, where there is one, is above the last one
abbrev pub IsNextTicket : ℕ → Option ℕ → Type 0
IsNextTicket last None = Unit {0}
IsNextTicket last (Some n) = last < n

abbrev pub or_last : ℕ → Option ℕ → ℕ
or_last last None = last
or_last last (Some n) = n

-- the tickets that calls drew rise from one number to another
abbrev pub TicketsRise : ℕ → List Call → ℕ → Type 0
TicketsRise last [] end = last ≡ end
TicketsRise last (c ∷ cs) end = IsNextTicket last c.told.drawn × TicketsRise (or_last last c.told.drawn) cs end

-- the tickets that their entries carry rise from one number, and go no further than another
abbrev pub CarriedRise : ℕ → List Call → ℕ → Type 0
CarriedRise last [] end = last ≤ end
CarriedRise last (c ∷ cs) end = IsNextTicket last c.told.ticket × CarriedRise (or_last last c.told.ticket) cs end

-- the calls that drew a ticket
abbrev pub drawn_in : List Call → List Call
drawn_in history = filter (λ (c : Call). is_some c.told.drawn) history

-- those whose entries carry a ticket: the events
abbrev pub ticketed_in : List Call → List Call
ticketed_in history = filter (λ (c : Call). is_some c.told.ticket) history

-- a call found no ticket, at an object where no draw had failed
abbrev pub FoundNone : Call → Type 0
FoundNone call = (is_spent call.told.reply ≡ true) × (call.told.drew ≡ true) × (call.told.drawn ≡ None)

-- the entry carries the ticket that the call drew, where the call is an event, and else none
abbrev pub CarriesItsOwn : Call → Type 0
CarriesItsOwn call = call.told.ticket ≡ carried (what_of call.asked call.told.reply) call.told.drawn

module _ {O : Type 0} where
  -- What a call that drew no ticket leaves: the object is as before, but where the call was told that no ticket was left for it. Once none was,
  -- none is later. It tells of no event.
  pub record IsQuiet (old : ThingState O) (reply : Reply) (what : Option What) (new : ThingState O) : Type 0 where
    pub keeps : (new.object ≡ old.object) ⊎ ((reply ≡ NoTicket) × (new.spent ≡ true))
    pub spent : old.spent ≡ true → new.spent ≡ true
    pub told : what ≡ None

module _ {O : Type 0} (serves : Service O) where
  -- these calls lead from one state of an object to another
  abbrev pub LeadDrawn : O → List Call → O → Type 0
  LeadDrawn old [] last = old ≡ last
  LeadDrawn old (c ∷ cs) last = (next : O) × serves old c.asked c.told.reply next × LeadDrawn next cs last

  -- The calls of a history that drew a ticket are a run of the object's machine, and so are those alone whose entries carry one. Both leave the
  -- object as it is while no draw failed.
  pub record DrawnRun (old new : ThingState O) (history : List Call) : Type 0 where
    pub last : O
    pub run : LeadDrawn old.object (drawn_in history) last
    pub entries : LeadDrawn old.object (ticketed_in history) last
    pub ends : new.spent ≡ false → last ≡ new.object

module _ {O : Type 0} (serves : Service O) (looks : Service (ThingState O))
    (chooses : O → Reply → Option ℕ → Type 0) where
  -- what each history of a thing shows
  pub record KeepsHistory : Type 0 where
    pub rises : (old new : ThingState O) (history : List Call) → Leads (ThingAnswers serves looks chooses) old history new → TicketsRise old.note history new.note
    pub runs : (old new : ThingState O) (history : List Call) → Leads (ThingAnswers serves looks chooses) old history new → DrawnRun serves old new history
    pub quiet : (old new : ThingState O) (asked : Request) (reply : Reply) → looks old asked reply new → IsQuiet old reply (what_of asked reply) new
    -- what was served and is no event changed nothing
    pub refused : (old new : O) (asked : Request) (reply : Reply) → serves old asked reply new → what_of asked reply ≡ None → new ≡ old
    -- so a ticket stands in the entries of events alone, and those rise too
    pub carry : (old new : ThingState O) (history : List Call) → Leads (ThingAnswers serves looks chooses) old history new → All CarriesItsOwn history
    pub entries : (old new : ThingState O) (history : List Call) → Leads (ThingAnswers serves looks chooses) old history new → CarriedRise old.note history new.note

  -- Once a draw at a thing found no ticket, none is drawn at it: a call that is told so leaves it marked, along each history it stays marked, and
  -- no call that drew a ticket follows, nor an entry that carries one. It is marked by such a call alone.
  pub record StaysSpent : Type 0 where
    pub found : (old new : ThingState O) (asked : Request) → looks old asked NoTicket new → new.spent ≡ true
    pub stays : (old new : ThingState O) (history : List Call) → Leads (ThingAnswers serves looks chooses) old history new → old.spent ≡ true
        → (drawn_in history ≡ []) × (ticketed_in history ≡ []) × (new.spent ≡ true)
    pub follows : (old new : ThingState O) (call : Call) (rest : List Call) → Leads (ThingAnswers serves looks chooses) old (call ∷ rest) new → call.told.reply ≡ NoTicket
        → (drawn_in (call ∷ rest) ≡ []) × (ticketed_in (call ∷ rest) ≡ []) × (new.spent ≡ true)
    pub marks : (old new : ThingState O) (history : List Call) → Leads (ThingAnswers serves looks chooses) old history new → old.spent ≡ false → new.spent ≡ true
        → (call : Call) × Contains history call × FoundNone call
