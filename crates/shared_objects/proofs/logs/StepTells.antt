-- What the calls of a step show of its answer.
use Rattle.std.proofs.Common.{◌≡◌, ℕ, inl, inr, ◌==◌, ◌||◌, Bool, true, false, not, cond, if◌then◌else◌, List, [], ◌∷◌, Option, Some, None, arith, refl, sym, ◌∙◌, ap, subst}
use Rattle.std.specs.Prelude.{Contains, IfSome}
use Rattle.std.proofs.lemmas.List.Elements.{Contains-append_right}
use Rattle.std.proofs.lemmas.Bool.Decides.{nat_tests}
use Rattle.std.specs.Option.{is_some}
use Rattle.stack_base.specs.declared.ids.PoolId.{PoolId}
use Rattle.bio_books.specs.Drops as end
use Rattle.bio_books.specs.Links.{NoRoom, Stray}
use Rattle.run_machine.specs.declared.event.Breach.{Breach}
use Rattle.run_machine.specs.declared.event.What.{What}
use Rattle.task_steps.specs.declared.step.Step.TheVariants.{Stepped, Blocked, Waiting, Ended, Broken}
use Rattle.tick_clock.specs.Tickets.{PassState}
use Rattle.task_steps.specs.declared.step.Step.{Step}
use Rattle.run_machine.specs.Requests.{Request, Reply, TakeBio, TakeVec, TakeSlip, Link, Drop, Resize, LookLeft, Rest, Missed, LinkedTo, DroppedTo, OutIs, LeftOver, Nothing, NoTicket}
use Rattle.run_machine.specs.Events.{id_of, what_of, resize_of}
use Rattle.run_machine.specs.Scene.{Setup}
use Rattle.run_machine.specs.Tasks.{TaskState, request}
use Rattle.task_steps.specs.Turns.{silent_step, step_by, resting_step}
use Rattle.object_things.specs.Stamps.{PassBy}
use Rattle.object_things.specs.Histories.{Call}
use Rattle.shared_objects.specs.Calls.{struck}
use Rattle.shared_objects.specs.Desks.{PassGoesOn}
use Rattle.shared_objects.specs.Logs.{is_event, is_stop, is_glance, events_in, seen_by, ShowsStep}
use Rattle.shared_objects.proofs.steps.GlanceStays.{event_struck, glance_kinds}
use Rattle.shared_objects.proofs.logs.CallsLead.{quiet_first}

-- what the calls for a request show of the event that it is, if it is one
abbrev pub ShowsEvent : Option What → Request → Reply → ℕ → List Call → Type 0
ShowsEvent None asked reply seen calls = events_in calls ≡ []
ShowsEvent (Some what) asked reply seen calls = (call : Call) × (events_in calls ≡ call ∷ []) × (call.asked ≡ struck asked) × (call.told.reply ≡ reply)
    × IfSome call.told.drawn (λ n. n ≡ seen)

-- a ticket is the last thing that its pass has seen
seen_last : (pass after : PassState) (note : ℕ) (spent drew : Bool) (ticket : Option ℕ) → PassBy pass note spent drew ticket after → IfSome ticket (λ n. n ≡ after.seen)
seen_last pass after note spent drew None by = tt
seen_last pass after note spent drew (Some n) by = sym (ap (λ (p : PassState). p.seen) by.2)

pub seen_made : (pass after : Option PassState) (note : ℕ) (spent drew : Bool) (ticket : Option ℕ) → PassGoesOn pass note spent drew ticket after → IfSome ticket (λ n. n ≡ seen_by after)
seen_made None after note spent drew ticket by = absurd by
seen_made (Some pass) None note spent drew ticket by = absurd by
seen_made (Some pass) (Some after) note spent drew ticket by = seen_last pass after note spent drew ticket by

same_event : (call : Call) (asked : Request) (reply : Reply) → call.asked ≡ struck asked → call.told.reply ≡ reply → is_event call.asked call.told.reply ≡ is_event asked reply
same_event call asked reply asks replies =
    ap (λ a. is_event a call.told.reply) asks ∙ ap (is_event (struck asked)) replies ∙ event_struck asked reply

event_alone : (call : Call) (b : Bool) → is_event call.asked call.told.reply ≡ b → events_in (call ∷ []) ≡ cond b (call ∷ []) []
event_alone call b is = ap (λ (e : Bool). cond e (call ∷ []) []) is

pub tells_one : (told : Option What) (call : Call) (asked : Request) (reply : Reply) (seen : ℕ) → what_of asked reply ≡ told → call.asked ≡ struck asked
    → call.told.reply ≡ reply → IfSome call.told.drawn (λ n. n ≡ seen) → ShowsEvent told asked reply seen (call ∷ [])
tells_one None call asked reply seen is asks replies last = event_alone call false (same_event call asked reply asks replies ∙ ap is_some is)
tells_one (Some what) call asked reply seen is asks replies last =
    (call, event_alone call true (same_event call asked reply asks replies ∙ ap is_some is), asks, replies, last)

-- glances in front and behind are no events
pub tells_further : (told : Option What) (look : Call) (asked : Request) (reply : Reply) (seen : ℕ) (calls : List Call) → is_event look.asked look.told.reply ≡ false
    → ShowsEvent told asked reply seen calls → ShowsEvent told asked reply seen (look ∷ calls)
tells_further None look asked reply seen calls quiet tells = quiet_first look calls quiet ∙ tells
tells_further (Some what) look asked reply seen calls quiet tells = (tells.0, quiet_first look calls quiet ∙ tells.1, tells.2, tells.3, tells.4)

pub no_event : (call : Call) → is_glance call.asked call.told.reply ≡ true → is_event call.asked call.told.reply ≡ false
no_event call is = (glance_kinds (is_event call.asked call.told.reply) (is_stop call.asked call.told.reply) is).0

pub shows_further : (setup : Setup) (task next : TaskState) (seen : ℕ) (look : Call) (calls : List Call) (step : Step) → is_event look.asked look.told.reply ≡ false
    → ShowsStep setup task next seen calls step → ShowsStep setup task next seen (look ∷ calls) step
shows_further setup task next seen look calls (Stepped event) quiet shows = (shows.0, quiet_first look calls quiet ∙ shows.1, shows.2, shows.3, shows.4, shows.5)
shows_further setup task next seen look calls Ended quiet shows = (
  quiet_first look calls quiet ∙ shows.0,
  elim shows.1 [
    | inl rests ↦ inl rests
    | inr saw ↦ inr (saw.0, Contains-append_right (look ∷ []) calls saw.0 saw.1, saw.2, saw.3)
  ],
)
shows_further setup task next seen look calls (Broken breach) quiet shows = (quiet_first look calls quiet ∙ shows.0, shows.1)
shows_further setup task next seen look calls Waiting quiet shows = quiet_first look calls quiet ∙ shows
shows_further setup task next seen look calls (Blocked pool) quiet shows = quiet_first look calls quiet ∙ shows

-- what a step comes to that is no event
resize_stops : (home : Bool) (pool : PoolId) (min : ℕ) → resize_of home pool min ≡ None → (not home || false) ≡ true
resize_stops true pool min is = absurd (cc is)
resize_stops false pool min is = refl

silent_shows : (setup : Setup) (task next : TaskState) (seen : ℕ) (calls : List Call) (asked : Request) (reply : Reply) → what_of asked reply ≡ None → events_in calls ≡ []
    → (reply ≡ NoTicket → request setup next ≡ Rest) → (is_stop asked reply ≡ true → request setup next ≡ Rest)
    → ShowsStep setup task next seen calls (silent_step setup asked reply)
-- no ticket: the task broke off
silent_shows setup task next seen calls asked NoTicket none quiet spent stop = (quiet, spent refl)
-- links, drops and resizes that were refused: the task broke off
silent_shows setup task next seen calls (Link writer opening) (LinkedTo (NoRoom back)) none quiet spent stop = (quiet, stop refl)
silent_shows setup task next seen calls (Link writer opening) (LinkedTo (Stray back)) none quiet spent stop = (quiet, stop refl)
silent_shows setup task next seen calls (Drop writer node status part) (DroppedTo (end.Stray back)) none quiet spent stop = (quiet, stop refl)
silent_shows setup task next seen calls (Resize pool min) (OutIs out) none quiet spent stop = (quiet, stop (resize_stops (out == 0) pool min none))
-- misses that are no events: the task is blocked
silent_shows setup task next seen calls (TakeBio set waits) (Missed used) none quiet spent stop = quiet
silent_shows setup task next seen calls TakeVec (Missed used) none quiet spent stop = quiet
silent_shows setup task next seen calls (TakeSlip dev) (Missed used) none quiet spent stop = quiet
-- all else: the task waits
silent_shows setup task next seen calls asked reply none quiet spent stop = quiet

pub shows_step : (setup : Setup) (task next : TaskState) (seen : ℕ) (calls : List Call) (told : Option What) (asked : Request) (reply : Reply) → asked ≡ request setup task
    → what_of asked reply ≡ told → ShowsEvent told asked reply seen calls → (reply ≡ NoTicket → request setup next ≡ Rest) → (is_stop asked reply ≡ true → request setup next ≡ Rest)
    → ShowsStep setup task next seen calls (step_by (id_of task) told (silent_step setup asked reply))
shows_step setup task next seen calls None asked reply same is tells spent stop = silent_shows setup task next seen calls asked reply is tells spent stop
shows_step setup task next seen calls (Some what) asked reply same is tells spent stop =
    (tells.0, tells.1, tells.2 ∙ ap struck same, ap (what_of (request setup task)) tells.3 ∙ subst (λ a. what_of a reply ≡ Some what) same is, refl, tells.4)

-- a task that asks for nothing has ended, or broken off
pub rests_shows : (setup : Setup) (task next : TaskState) (seen : ℕ) (breach : Option Breach) → request setup next ≡ Rest → ShowsStep setup task next seen [] (resting_step breach)
rests_shows setup task next seen None rests = (refl, inl rests)
rests_shows setup task next seen (Some breach) rests = (refl, rests)

pub idle_shows : (setup : Setup) (task next : TaskState) (seen : ℕ) (calls : List Call) (look : Call) (left : ℕ) (none : Bool) → (left == 0) ≡ none → events_in calls ≡ []
    → look.asked ≡ LookLeft → look.told.reply ≡ LeftOver left → Contains calls look → ShowsStep setup task next seen calls (if none then Ended else Waiting)
idle_shows setup task next seen calls look left true is quiet asks replies within =
    (quiet, inr (look, within, asks, replies ∙ ap LeftOver (grind (arith, nat_tests, is))))
idle_shows setup task next seen calls look left false is quiet asks replies within = quiet

-- a call that finds nothing is no event
pub nothing_none : (asked : Request) → what_of asked Nothing ≡ None
nothing_none (TakeBio set waits) = refl
nothing_none asked = refl
