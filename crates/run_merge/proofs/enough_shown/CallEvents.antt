-- The events among the calls of histories, as entries: they are those that carry a ticket, where each event drew one.
use Rattle.std.proofs.Common.{◌≡◌, cond, ℕ, Bool, true, false, List, [], ◌∷◌, Option, None, Some, refl, sym, ◌∙◌, ap}
use Rattle.std.specs.Option.{is_some}
use Rattle.std.specs.Prelude.{◌-◌, All, map}
use Rattle.std.proofs.lemmas.Bool.{true≢false}
use Rattle.std.proofs.lemmas.List.Elements.{All-head, All-tail}
use Rattle.run_machine.specs.declared.event.What.{What}
use Rattle.run_machine.specs.Events.{what_of}
use Rattle.run_machine.specs.Laws.{Object}
use Rattle.object_things.specs.Histories.{Call, CarriesItsOwn, ticketed_in, or_last}
use Rattle.object_things.specs.Stamps.{carried}
use Rattle.shared_objects.specs.Logs.{is_event, events_in}
use Rattle.shared_objects.proofs.logs.StepNotes.{HasTicket}
use Rattle.run_merge.specs.Merging.{Ticketed, Histories}
use Rattle.run_merge.specs.SharedObjects.{ticketed, entry_histories}

-- a call as an entry with the ticket that it drew
abbrev pub drawn_entry : Call → Ticketed
drawn_entry call = record { entry = record { place = call.by - 1; asked = call.asked; reply = call.told.reply }; ticket = or_last 0 call.told.drawn }

-- the events among calls
abbrev pub ticketed_events : List Call → List Ticketed
ticketed_events calls = map drawn_entry (events_in calls)

-- the events of the history of each of these objects
abbrev pub event_histories : List Object → (Object → List Call) → Histories
event_histories names history = map (λ name. (name, ticketed_events (history name))) names

-- so an entry carries one where the call is an event, which is the one that the call drew
one_entry : (what : Option What) (drawn ticket : Option ℕ) → ticket ≡ carried what drawn → (is_some what ≡ true → is_some drawn ≡ true)
    → (is_some ticket ≡ is_some what) × (is_some what ≡ true → ticket ≡ drawn)
one_entry None drawn ticket t has = (ap is_some t, λ told. absurd (true≢false (sym told)))
one_entry (Some what) drawn ticket t has = (ap is_some t ∙ has refl, λ told. t)

pub entries_are : (calls : List Call) → All HasTicket calls → All CarriesItsOwn calls → map ticketed (ticketed_in calls) ≡ ticketed_events calls
entries_are [] has own = refl
entries_are (call ∷ calls) has own =
    ap (λ b. map ticketed (cond b (call ∷ ticketed_in calls) (ticketed_in calls))) here.0
    ∙ by_event (is_event call.asked call.told.reply) refl (entries_are calls (All-tail HasTicket call calls has) (All-tail CarriesItsOwn call calls own))
  where
    here : (is_some call.told.ticket ≡ is_event call.asked call.told.reply) × (is_event call.asked call.told.reply ≡ true → call.told.ticket ≡ call.told.drawn)
    here = one_entry (what_of call.asked call.told.reply) call.told.drawn call.told.ticket (All-head CarriesItsOwn call calls own) (All-head HasTicket call calls has)

    as_entry : Option ℕ → Ticketed
    as_entry ticket = record { entry = record { place = call.by - 1; asked = call.asked; reply = call.told.reply }; ticket = or_last 0 ticket }

    by_event : (b : Bool) → is_event call.asked call.told.reply ≡ b → map ticketed (ticketed_in calls) ≡ ticketed_events calls
        → map ticketed (cond b (call ∷ ticketed_in calls) (ticketed_in calls)) ≡ map drawn_entry (cond b (call ∷ events_in calls) (events_in calls))
    by_event true is rest = let same = ap as_entry (here.1 is) in λ i. same i ∷ rest i
    by_event false is rest = rest

pub histories_are : (names : List Object) (history : Object → List Call) → ((name : Object) → All HasTicket (history name) × All CarriesItsOwn (history name))
    → entry_histories names history ≡ event_histories names history
histories_are [] history shows = refl
histories_are (name ∷ names) history shows =
    let here = entries_are (history name) (shows name).0 (shows name).1 in
    let rest = histories_are names history shows in
    λ i. (name, here i) ∷ rest i
