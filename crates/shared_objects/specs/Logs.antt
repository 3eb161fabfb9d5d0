-- What is kept of a task with its seats: the calls that it made, in their order, lead it on.
use Rattle.std.specs.Prelude.{◌≡◌, ◌⊎◌, ◌≤◌, ◌<◌, ◌-◌, ◌^◌, ◌==◌, ◌||◌, ◌++◌, not, ℕ, Bool, true, false, IsTrue, IfSome, List, [], ◌∷◌, All, Contains, filter, Option, None, Some}
use Rattle.std.specs.List.{filter_map}
use Rattle.std.specs.Option.{is_some}
use Rattle.tick_clock.specs.declared.ticking.Ticket.{Ticket}
use Rattle.tick_clock.specs.Tickets.{PassState, ticket_numbers}
use Rattle.bio_books.specs.Drops as end
use Rattle.bio_books.specs.Links.{NoRoom, Stray}
use Rattle.run_machine.specs.Events.{id_of, what_of}
use Rattle.run_machine.specs.Laws.{Object, OfNone, object_of}
use Rattle.run_machine.specs.Requests.{Request, Reply, Link, Drop, Resize, LookRound, LookLeft, Rest, LinkedTo, DroppedTo, OutIs, LeftOver}
use Rattle.run_machine.specs.Scene.{Setup}
use Rattle.run_machine.specs.Tasks.{TaskState, request, look_of, lets, answered}
use Rattle.task_steps.specs.declared.step.Step.{Step}
use Rattle.task_steps.specs.declared.step.Step.TheVariants.{Stepped, Ended, Broken}
use Rattle.task_steps.specs.Stage.{Stage, Owes}
use Rattle.task_steps.specs.Turns.{Turns}
use Rattle.object_things.specs.Histories.{Call, TicketsRise, FoundNone}
use Rattle.object_things.specs.Stamps.{is_spent}
use Rattle.shared_objects.specs.Calls.{calls_at, calls_to, struck}
use Rattle.shared_objects.specs.Desks.{DeskState, HasCalled, PassGoesOn, DeskServes}

-- whether a request and its reply are an event
abbrev pub is_event : Request → Reply → Bool
is_event request reply = is_some (what_of request reply)

-- whether the object refused: a book has no vacant place or no such open node, or an element is out of a pool whose reserve was to change
abbrev pub is_refused : Request → Reply → Bool
is_refused (Link writer opening) (LinkedTo (NoRoom back)) = true
is_refused (Link writer opening) (LinkedTo (Stray back)) = true
is_refused (Drop writer node status part) (DroppedTo (end.Stray back)) = true
is_refused (Resize pool min) (OutIs out) = not (out == 0)
is_refused request reply = false

-- whether a task breaks off with a reply: it was refused, or there was no ticket
abbrev pub is_stop : Request → Reply → Bool
is_stop LookRound reply = false
is_stop LookLeft reply = false
is_stop request reply = is_refused request reply || is_spent reply

-- whether a task stays as it was: the call is a look, or found nothing
abbrev pub is_glance : Request → Reply → Bool
is_glance request reply = not (is_event request reply || is_stop request reply)

-- the calls of a log that are events
abbrev pub events_in : List Call → List Call
events_in log = filter (λ (call : Call). is_event call.asked call.told.reply) log

-- the tickets that its calls drew
abbrev pub tickets_in : List Call → List ℕ
tickets_in log = filter_map (λ (call : Call). call.told.drawn) log

-- a look of the task came before, and let it ask; its call has a ticket above what that look's note had seen
abbrev pub Looked : List Call → TaskState → Call → Option Request → Type 0
Looked before task call None = Unit {0}
Looked before task call (Some look) = (seen : Call) × Contains before seen × (seen.asked ≡ look) × IsTrue (lets task seen.told.reply)
    × ((is_spent seen.told.reply ≡ false) → IfSome call.told.drawn (λ n. seen.told.note < n))

-- Calls lead a task on, behind others: each is a glance, or asks what the task asks for next.
abbrev pub LogLeads : Setup → List Call → TaskState → List Call → TaskState → Type 0
LogLeads setup before task [] last = last ≡ task
LogLeads setup before task (call ∷ calls) last =
    ((is_glance call.asked call.told.reply ≡ true) × LogLeads setup (before ++ call ∷ []) task calls last)
    ⊎ ((is_glance call.asked call.told.reply ≡ false) × (call.asked ≡ struck (request setup task)) × Looked before task call (look_of task)
    × LogLeads setup (before ++ call ∷ []) (answered setup task call.told.reply) calls last)

-- the pass has met the note of a call
abbrev pub IsMet : ℕ → Call → Type 0
IsMet seen call = is_spent call.told.reply ≡ false → call.told.note ≤ seen

-- the number is 0, or a ticket that one of these calls drew, or what the note had seen that it met
abbrev pub IsSeenIn : List Call → ℕ → Type 0
IsSeenIn log number = (number ≡ 0) ⊎ ((call : Call) × Contains log call × ((call.told.drawn ≡ Some number) ⊎ (call.told.note ≡ number)))

-- so the pass knows that the last ticket was drawn
abbrev pub KnowsLast : PassState → List Call → Type 0
KnowsLast pass log = (2 ^ 64 - 1 ≤ pass.known) ⊎ IsSeenIn log (2 ^ 64 - 1)

-- What a pass keeps of the calls that it went through, of which the last ticket was `end`.
pub record WentThrough (pass : PassState) (end : ℕ) (log : List Call) : Type 0 where
  -- it has seen their tickets and met their notes, and has seen nothing else
  pub above : end ≤ pass.seen
  pub met : All (IsMet pass.seen) log
  pub own : IsSeenIn log pass.seen
  -- it drew their tickets and no others
  pub drew : ticket_numbers pass.drawn ≡ tickets_in log
  pub saw : All (λ (t : Ticket). IsSeenIn log t.seen) pass.drawn
  pub last : All (λ (call : Call). FoundNone call → KnowsLast pass log) log

abbrev pub HasPass : Option PassState → ℕ → List Call → Type 0
HasPass None end log = ⊥
HasPass (Some pass) end log = WentThrough pass end log

-- What is kept: all calls of the task, in their order, are those at each object; they lead the task on; their tickets rise; and the pass went
-- through them all.
pub record IsLogged (setup : Setup) (first : TaskState) (log : List Call) (task : TaskState) (desk : DeskState) : Type 0 where
  pub calls : (name : Object) → calls_at desk.calls name ≡ calls_to name log
  pub leads : LogLeads setup [] first log task
  pub end : ℕ
  pub rises : TicketsRise 0 log end
  pub pass : HasPass desk.pass end log

-- a call that was made
pub record IsMade (asked : Request) (reply : Reply) (before after : Option PassState) (call : Call) : Type 0 where
  pub asks : call.asked ≡ asked
  pub replies : call.told.reply ≡ reply
  pub pass : PassGoesOn before call.told.note (is_spent call.told.reply) call.told.drew call.told.drawn after

-- The task has stopped: it asks for nothing more, or one of these calls saw that no write was unfinished.
abbrev pub HasStopped : Setup → List Call → TaskState → Type 0
HasStopped setup log task = (request setup task ≡ Rest)
    ⊎ ((call : Call) × Contains log call × (call.asked ≡ LookLeft) × (call.told.reply ≡ LeftOver 0))

-- what a pass has seen, where it is at home
abbrev pub seen_by : Option PassState → ℕ
seen_by None = 0
seen_by (Some pass) = pass.seen

-- What the calls of a step show of its answer: where it tells an event they have one event, which is that one, and else none. The ticket that the
-- event drew is the last thing that the pass has seen. Behind `Ended` the task has stopped, and behind `Broken` it asks for nothing more.
abbrev pub ShowsStep : Setup → TaskState → TaskState → ℕ → List Call → Step → Type 0
ShowsStep setup task next seen calls (Stepped event) = (call : Call) × (events_in calls ≡ call ∷ []) × (call.asked ≡ struck (request setup task))
    × (what_of (request setup task) call.told.reply ≡ Some event.what) × (event.task ≡ id_of task) × IfSome call.told.drawn (λ n. n ≡ seen)
ShowsStep setup task next seen calls Ended = (events_in calls ≡ []) × HasStopped setup calls next
ShowsStep setup task next seen calls (Broken breach) = (events_in calls ≡ []) × (request setup next ≡ Rest)
ShowsStep setup task next seen calls step = events_in calls ≡ []

-- Each step of a task at its desk is kept: what it calls stands behind the calls so far.
abbrev pub StepsAreLogged : Type 0
StepsAreLogged = (stage : Stage) (setup : Setup) (first task next : TaskState) (log : List Call) (old new : DeskState) (step : Step)
    → IsLogged setup first log task old → Turns DeskServes (Owes stage) setup task old next new step
    → (more : List Call) × IsLogged setup first (log ++ more) next new × ShowsStep setup task next (seen_by new.pass) more step

-- the same of one call
abbrev pub CallsAreLogged : Type 0
CallsAreLogged = (setup : Setup) (first task next : TaskState) (log : List Call) (old new : DeskState) (asked : Request) (reply : Reply)
    → IsLogged setup first log task old → HasCalled old asked reply new → (object_of asked ≡ OfNone → ⊥)
    → ((call : Call) → IsMade asked reply old.pass new.pass call → LogLeads setup log task (call ∷ []) next)
    → (call : Call) × IsMade asked reply old.pass new.pass call × IsLogged setup first (log ++ call ∷ []) next new
