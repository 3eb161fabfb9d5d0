-- The events that the calls of a task were, with their tickets.
use Rattle.std.specs.Prelude.{◌≡◌, ◌⊎◌, ◌++◌, if◌then◌else◌, ℕ, true, false, List, [], ◌∷◌, All, Option, None, Some}
use Rattle.std.specs.Option.{is_some}
use Rattle.run_machine.specs.declared.event.Event.{Event}
use Rattle.run_machine.specs.declared.event.What.{What}
use Rattle.run_machine.specs.Events.{id_of, what_of}
use Rattle.run_machine.specs.Scene.{Setup}
use Rattle.run_machine.specs.Tasks.{TaskState, request, answered}
use Rattle.task_steps.specs.declared.step.Step.{Step}
use Rattle.task_steps.specs.declared.step.Step.TheVariants.{Stepped}
use Rattle.object_things.specs.Histories.{Call, or_last}
use Rattle.shared_objects.specs.Logs.{is_event, is_glance}
use Rattle.shared_objects.specs.declared.noted.Noted.{Noted}

-- with a ticket, where it is one
abbrev pub noted_as : ℕ → TaskState → Option What → List (ℕ × Event)
noted_as ticket task None = []
noted_as ticket task (Some what) = (ticket, record { task = id_of task; what = what }) ∷ []

-- the event that a task's call was, if it was one
abbrev pub note_of : Setup → TaskState → Call → List (ℕ × Event)
note_of setup task call = noted_as (or_last 0 call.told.drawn) task (what_of (request setup task) call.told.reply)

-- those of all its calls, in their order: the task goes on behind each that is no glance
abbrev pub notes_of : Setup → TaskState → List Call → List (ℕ × Event)
notes_of setup task [] = []
notes_of setup task (call ∷ calls) =
    if is_glance call.asked call.told.reply then notes_of setup task calls else note_of setup task call ++ notes_of setup (answered setup task call.told.reply) calls

-- each of these calls that is an event drew a ticket, as the histories of locks show
abbrev pub HaveTickets : List Call → Type 0
HaveTickets log = All (λ (call : Call). is_event call.asked call.told.reply ≡ true → is_some call.told.drawn ≡ true) log

-- these stand in front of all, and are not all
abbrev pub IsFrontOf : {X : Type 0} → List X → List X → Type 0
IsFrontOf {X = X} front all = (next : X) × (rest : List X) × (all ≡ front ++ next ∷ rest)

-- What a list has of these notes: all of them where it is whole, and else those before one for which there was no memory.
abbrev pub AreNoted : List (ℕ × Event) → Option Noted → Type 0
AreNoted notes None = Unit {0}
AreNoted notes (Some noted) = ((noted.whole ≡ true) × (noted.events.items ≡ notes)) ⊎ ((noted.whole ≡ false) × IsFrontOf noted.events.items notes)

-- no list is wanted, or it has no note yet
abbrev pub IsBlank : Option Noted → Type 0
IsBlank None = Unit {0}
IsBlank (Some noted) = (noted.events.items ≡ []) × (noted.whole ≡ true)

-- A note joins a whole list. Once one could not, the list stays as it is, and is not whole.
abbrev pub AddsNote : ℕ × Event → Noted → Noted → Type 0
AddsNote note old new =
    ((old.whole ≡ true) × (new.whole ≡ true) × (new.events.items ≡ old.events.items ++ note ∷ [])) ⊎ ((new.whole ≡ false) × (new.events.items ≡ old.events.items))

-- a step that tells an event notes it, with this ticket, and any other notes nothing
abbrev pub ListsStep : Step → ℕ → Noted → Noted → Type 0
ListsStep (Stepped event) ticket old new = AddsNote (ticket, event) old new
ListsStep step ticket old new = new ≡ old

-- the same where a list is wanted
abbrev pub NotesStep : Step → ℕ → Option Noted → Option Noted → Type 0
NotesStep step ticket (Some old) (Some new) = ListsStep step ticket old new
NotesStep step ticket old new = new ≡ old
