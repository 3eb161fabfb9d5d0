-- What every thing has beside its object, and what its history says.
use Rattle.std.specs.Prelude.{◌≡◌, ◌⊎◌, ◌<◌, ◌≤◌, max, not, ℕ, Bool, true, false, Option, None, Some, Result, Ok, Err}
use Rattle.atomic_table.specs.Seated.{TableId}
use Rattle.std.specs.declared.snapshot.Snapshot.{Snapshot}
use Rattle.tick_clock.specs.Tickets.{PassState, IsEnd, drawn_with}
use Rattle.run_machine.specs.declared.event.What.{What}
use Rattle.run_machine.specs.Events.{what_of}
use Rattle.run_machine.specs.Requests.{Request, Reply}
use Rattle.run_machine.specs.Requests as requests
use Rattle.run_machine.specs.Objects.{TallyState}
use Rattle.run_machine.specs.Laws.{Object, object_of}
use Rattle.task_steps.specs.Service.{Service}
use Rattle.task_steps.specs.Stage.{Stage}
use Rattle.task_steps.specs.declared.objects.Unmade.{Unmade}
use Rattle.task_steps.specs.declared.objects.Unmade.TheVariants as unmade
use Rattle.task_core.specs.declared.plain.Plain.{Plain}
use Rattle.task_core.specs.Plains.{stage_of, tally_of}
use Rattle.object_things.specs.declared.stamp.Asking.{Asking}
use Rattle.object_things.specs.declared.stamp.NoTicket.{NoTicket}
use Rattle.object_things.specs.declared.stamp.Replied.{Replied}

-- what is the same for all things that were shared together: the clock that they draw from, and the objects as they were opened
pub record CommonState : Type 0 where
  pub clock : TableId
  pub opened : Plain

-- the stage of the objects as they were opened, and their tally then
abbrev pub stage_in : CommonState → Stage
stage_in common = stage_of common.opened

abbrev pub opened_tally : CommonState → TallyState
opened_tally common = tally_of common.opened.tally

-- which object a thing holds, and what it has in common with others
pub record MarkState : Type 0 where
  pub common : CommonState
  pub name : Object

-- the note of an object, whether a draw at it found no ticket, and what it has in common with others
pub record StampState : Type 0 where
  pub note : ℕ
  pub spent : Bool
  pub common : CommonState

-- an object with its stamp
pub record Stamped (O : Type 0) : Type 0 where
  pub object : O
  pub stamp : StampState

abbrev pub mark_of : {O : Type 0} → Object → Stamped O → MarkState
mark_of name held = record { common = held.stamp.common; name = name }

-- the last ticket of the clock was drawn, or what the pass and the note had seen was as great
abbrev pub IsOver : PassState → ℕ → PassState → Type 0
IsOver pass note after = IsEnd after.known ⊎ IsEnd (max pass.seen note)

-- what came of a call, as the objects say it: where there was no ticket, nothing is handed back
abbrev pub or_unmade : {T : Type 0} → Result T NoTicket → Result T Unmade
or_unmade (Ok got) = Ok got
or_unmade (Err none) = Err unmade.Nothing

abbrev pub is_spent : Reply → Bool
is_spent requests.NoTicket = true
is_spent reply = false

-- what becomes of a pass in a call: it draws a ticket, meets the note, or finds no ticket
abbrev pub PassBy : PassState → ℕ → Bool → Bool → Option ℕ → PassState → Type 0
PassBy pass note spent drew (Some n) after = (max pass.seen note < n) × (pass.known < n) × (after ≡ drawn_with pass (max pass.seen note) n)
PassBy pass note true drew None after =
    (after ≡ record pass { known = after.known }) × (pass.known ≤ after.known) × (drew ≡ true → IsOver pass note after)
PassBy pass note false drew None after = after ≡ record pass { seen = max pass.seen note }

-- and so it is in a call that gave this reply, as the requests have it
abbrev pub PassByReply : {S : Type 0} → (S → Reply) → PassState → Replied S → Type 0
PassByReply reply_of pass replied = PassBy pass replied.note (is_spent (reply_of replied.said)) replied.drew replied.drawn.value replied.pass

-- no ticket was drawn: of the pass only what it knows has changed, and the stamp has no tickets any more
abbrev pub DrawsNone : PassState → StampState → PassState → StampState → Type 0
DrawsNone pass stamp after new = (after ≡ record pass { known = after.known }) × (new ≡ record stamp { spent = true })

-- a ticket above all that the note had seen was drawn, where no draw had failed
abbrev pub HasDrawn : StampState → ℕ → StampState → Type 0
HasDrawn old ticket new = (old.spent ≡ false) × (old.note < ticket) × (new ≡ record old { note = ticket })

-- The ticket that the entry of a call carries: the one that was drawn at it, where the call is an event. One that was refused is none, so its
-- entry carries no ticket.
abbrev pub carried : Option What → Option ℕ → Option ℕ
carried None drawn = None
carried (Some what) drawn = drawn

-- the reply of a call that only looks: the pass has met the note, and there is no ticket
abbrev pub looked : {S : Type 0} → StampState → PassState → Snapshot (Option ℕ) → Snapshot (Option ℕ) → S → Replied S
looked stamp pass drawn chosen said = record {
  pass = record pass { seen = max pass.seen stamp.note };
  said = said;
  note = stamp.note;
  drew = not stamp.spent;
  drawn = drawn;
  chosen = chosen;
  ticket = None;
}

-- what the history keeps of a reply: the reply, what the note had seen, whether no draw had failed before, the ticket that was drawn, the index
-- that was chosen where a bio was completed, and the ticket that the entry carries
pub record Told : Type 0 where
  pub reply : Reply
  pub note : ℕ
  pub drew : Bool
  pub drawn : Option ℕ
  pub chosen : Option ℕ
  pub ticket : Option ℕ

-- the same of what came back of a call, as the requests have it
abbrev pub told_by : {S : Type 0} → (S → Reply) → Replied S → Told
told_by reply_of replied = record {
  reply = reply_of replied.said;
  note = replied.note;
  drew = replied.drew;
  drawn = replied.drawn.value;
  chosen = replied.chosen.value;
  ticket = replied.ticket;
}

-- a call with a pass of the clock, that asks the object of the mark, and what else is to hold of it
abbrev pub AskingFits : {Q : Type 0} → (Q → Request) → MarkState → Asking Q → Type 0 → Type 0
AskingFits asked_of mark asking more = (asking.pass.clock ≡ mark.common.clock) × (object_of (asked_of asking.ask) ≡ mark.name) × more

-- what the machine sees of a thing
pub record ThingState (O : Type 0) : Type 0 where
  pub object : O
  pub note : ℕ
  pub spent : Bool

abbrev pub thing_state : {O : Type 0} → O → StampState → ThingState O
thing_state object stamp = record { object = object; note = stamp.note; spent = stamp.spent }

module _ {O : Type 0} (serves : Service O) (looks : Service (ThingState O)) where
  abbrev pub StepOf : ThingState O → Request → Reply → Option ℕ → ThingState O → Type 0
  StepOf old asked reply (Some n) new =
      serves old.object asked reply new.object × (old.spent ≡ false) × (old.note < n) × (new.note ≡ n) × (new.spent ≡ false)
  StepOf old asked reply None new = looks old asked reply new × (new.note ≡ old.note)

  module _ (chooses : O → Reply → Option ℕ → Type 0) where
    -- The machine of a thing: what is served draws a ticket above all that the note had seen, and anything else is a look. The entry carries what
    -- was drawn, where the call is an event, and keeps what was chosen.
    pub record ThingAnswers (old : ThingState O) (asked : Request) (told : Told) (new : ThingState O) : Type 0 where
      pub note : told.note ≡ old.note
      pub drew : told.drew ≡ not old.spent
      pub step : StepOf old asked told.reply told.drawn new
      pub chosen : chooses old.object told.reply told.chosen
      pub ticket : told.ticket ≡ carried (what_of asked told.reply) told.drawn

-- nothing was chosen in a call: only disks let choose
abbrev pub ChoosesNone : {O : Type 0} → O → Reply → Option ℕ → Type 0
ChoosesNone object reply chosen = chosen ≡ None

-- there was no ticket for the call, and the object is as before
abbrev pub FindsNone : {O : Type 0} → ThingState O → ThingState O → Type 0
FindsNone old new = (new.object ≡ old.object) × (new.spent ≡ true)

-- the call only looked
abbrev pub OnlyLooks : {O : Type 0} → ThingState O → ThingState O → Type 0
OnlyLooks old new = (new.object ≡ old.object) × (new.spent ≡ old.spent)
