-- What a step of a task at its desk makes of its calls.
use Rattle.std.proofs.Common.{◌≡◌, ℕ, ◌<◌, ◌≤◌, ◌⊎◌, inl, inr, ◌==◌, ◌||◌, Bool, true, false, not, cond, if◌then◌else◌, List, [], ◌∷◌, ◌++◌, Option, Some, None, arith, refl, sym, ◌∙◌, ap, subst}
use Rattle.std.specs.Prelude.{All, Contains, IfSome, IsTrue, max}
use Rattle.std.proofs.lemmas.List.{append-nil, append_assoc}
use Rattle.std.proofs.lemmas.List.Elements.{Contains-push, Contains-append_left, Contains-append_right, All-contains}
use Rattle.std.proofs.lemmas.Bool.Decides.{nat_tests}
use Rattle.stack_base.specs.declared.ids.PoolId.{PoolId}
use Rattle.bio_books.specs.Drops as end
use Rattle.bio_books.specs.Links.{NoRoom, Stray}
use Rattle.run_machine.specs.declared.event.Breach.{Breach}
use Rattle.run_machine.specs.declared.event.What.{What}
use Rattle.task_steps.specs.declared.step.Step.TheVariants.{Stepped, Blocked, Waiting, Ended, Broken}
use Rattle.tick_clock.specs.Tickets.{PassState}
use Rattle.task_steps.specs.declared.step.Step.{Step}
use Rattle.stack_base.specs.declared.ids.DevId.{DevId}
use Rattle.run_machine.specs.Requests.{Request, Reply, TakeBio, TakeVec, TakeSlip, GiveBio, GiveVec, GiveSlip, Punt, Pop, Push, Complete, Link, Drop, Done, Resize, NextRound, LookRound, LookLeft, Rest, Missed, LinkedTo, DroppedTo, OutIs, LeftOver, Nothing}
use Rattle.run_machine.specs.declared.event.TaskId.{TaskId}
use Rattle.run_machine.specs.Events.{id_of, what_of, resize_of}
use Rattle.run_machine.specs.Laws.{Object, OfNone, object_of}
use Rattle.run_machine.specs.Scene.{Setup}
use Rattle.task_steps.specs.Stage.{Stage, Owes}
use Rattle.run_machine.specs.Tasks.{HasBio, HasBoth, Carried, Empty, Brings, Carries, Fails, Duty, Keeping, carried_answered, carried_request, Stops, TaskState, Rescuer, Completer, request, look_of, lets, answered, is_broken, breach_of}
use Rattle.run_machine.proofs.Looks.{task_looks}
use Rattle.task_steps.specs.Turns.{Turns, Rested, Waited, Asked, Saw, Asks, silent_step, step_by, step_of, resting_step, idle_step}
use Rattle.object_things.specs.Stamps.{is_spent, PassBy}
use Rattle.object_things.specs.Histories.{Call}
use Rattle.shared_objects.specs.Calls.{struck}
use Rattle.shared_objects.specs.Desks.{DeskState, HasCalled, PassGoesOn, LooksAndCompletes, DeskServes}
use Rattle.shared_objects.specs.Logs.{is_event, is_stop, is_glance, events_in, Looked, LogLeads, IsMet, HasPass, IsMade, IsLogged, HasStopped, seen_by, ShowsStep, StepsAreLogged}
use Rattle.shared_objects.proofs.steps.NothingFound.{idle}
use Rattle.shared_objects.proofs.logs.OneMoreCall.{one_call}
use Rattle.shared_objects.proofs.logs.CallsLead.{quiet_first}
use Rattle.shared_objects.proofs.steps.GlanceStays.{event_struck, glance_struck, glance_kinds, glance_stays}
use Rattle.shared_objects.proofs.steps.BrokenRests.{broken_rests, stop_breaks, spent_breaks_off}
use Rattle.shared_objects.proofs.logs.StepTells.{ShowsEvent, seen_made, tells_one, tells_further, no_event, shows_further, shows_step, rests_shows, idle_shows, nothing_none}

-- a look of the task stands among its calls, and lets it ask
abbrev Let : List Call → TaskState → Option Request → Type 0
Let log task None = Unit {0}
Let log task (Some look) = (seen : Call) × Contains log seen × (seen.asked ≡ look) × IsTrue (lets task seen.told.reply)

let_later : (log more : List Call) (task : TaskState) (look : Option Request) → Let log task look → Let (log ++ more) task look
let_later log more task None l = tt
let_later log more task (Some look) l = (l.0, Contains-append_left log more l.0 l.1, l.2, l.3)

above_by : (pass after : PassState) (seen call : Call) (spent : Bool) (ticket : Option ℕ) → seen.told.note ≤ pass.seen
    → PassBy pass call.told.note spent call.told.drew ticket after → IfSome ticket (λ n. seen.told.note < n)
above_by pass after seen call spent None le by = tt
above_by pass after seen call spent (Some n) le by = (let above = by.0 in omega (arith, above, le))

above : (pass after : Option PassState) (end : ℕ) (log : List Call) (seen call : Call) → HasPass pass end log → Contains log seen
    → PassGoesOn pass call.told.note (is_spent call.told.reply) call.told.drew call.told.drawn after → is_spent seen.told.reply ≡ false
    → IfSome call.told.drawn (λ n. seen.told.note < n)
above None after end log seen call saw in_it by ok = absurd saw
above (Some pass) None end log seen call saw in_it by ok = absurd by
above (Some pass) (Some after) end log seen call saw in_it by ok =
    above_by pass after seen call (is_spent call.told.reply) call.told.drawn (All-contains (IsMet pass.seen) log seen saw.met in_it ok) by

looked : (setup : Setup) (first task : TaskState) (log : List Call) (old : DeskState) (after : Option PassState) (asked : Request) (reply : Reply) (call : Call) (look : Option Request)
    → IsLogged setup first log task old → Let log task look → IsMade asked reply old.pass after call → Looked log task call look
looked setup first task log old after asked reply call None is l made = tt
looked setup first task log old after asked reply call (Some look) is l made =
    (l.0, l.1, l.2, l.3, λ ok. above old.pass after is.end log l.0 call is.pass l.1 made.pass ok)

module _ (setup : Setup) (first : TaskState) where
  abbrev LogGoesOn : List Call → TaskState → DeskState → (List Call → Type 0) → Type 0
  LogGoesOn log next new Shows = (more : List Call) × IsLogged setup first (log ++ more) next new × Shows more

  stays : (log : List Call) (task next : TaskState) (old new : DeskState) (Shows : List Call → Type 0) → IsLogged setup first log task old → next ≡ task → new ≡ old
      → Shows [] → LogGoesOn log next new Shows
  stays log task next old new Shows is t d shows = (
    [],
    subst (λ l. IsLogged setup first l next new) (sym (append-nil log))
        (subst (λ n. IsLogged setup first log n new) (sym t) (subst (λ n. IsLogged setup first log task n) (sym d) is)),
    shows,
  )

  glanced : (log : List Call) (task : TaskState) (old new : DeskState) (asked : Request) (reply : Reply) → IsLogged setup first log task old → HasCalled old asked reply new
      → (object_of asked ≡ OfNone → ⊥) → is_glance asked reply ≡ true
      → (call : Call) × IsMade asked reply old.pass new.pass call × IsLogged setup first (log ++ call ∷ []) task new × (is_event call.asked call.told.reply ≡ false)
  glanced log task old new asked reply is calls apart glance =
      let same : (call : Call) → IsMade asked reply old.pass new.pass call → is_glance call.asked call.told.reply ≡ true =
      λ call made. subst (λ r. is_glance call.asked r ≡ true) (sym made.replies) (subst (λ a. is_glance a reply ≡ true) (sym made.asks) glance) in
      let made = one_call setup first task task log old new asked reply is calls apart (λ call m. inl (same call m, refl)) in
      (made.0, made.1, made.2, no_event made.0 (same made.0 made.1))

  -- a call for what the task asks for
  called : (stage : Stage) (log : List Call) (task : TaskState) (old new : DeskState) (asked : Request) (reply : Reply) (glance : Bool) → is_glance asked reply ≡ glance
      → asked ≡ request setup task → IsLogged setup first log task old → Let log task (look_of task) → HasCalled old (struck asked) reply new
      → (object_of (struck asked) ≡ OfNone → ⊥) → Owes stage asked reply
      → (call : Call) × IsMade (struck asked) reply old.pass new.pass call × IsLogged setup first (log ++ call ∷ []) (answered setup task reply) new
  called stage log task old new asked reply true kind same is l calls apart owed =
      let made = glanced log task old new (struck asked) reply is calls apart (glance_struck asked reply ∙ kind) in
      let stay = glance_stays stage setup task reply (subst (λ a. is_glance a reply ≡ true) same kind) (subst (λ a. Owes stage a reply) same owed) in
      (made.0, made.1, subst (λ t. IsLogged setup first (log ++ made.0 ∷ []) t new) (sym stay) made.2)
  called stage log task old new asked reply false kind same is l calls apart owed =
      one_call setup first task (answered setup task reply) log old new (struck asked) reply is calls apart
      (λ call made. inr (
        subst (λ r. is_glance call.asked r ≡ false) (sym made.replies)
            (subst (λ a. is_glance a reply ≡ false) (sym made.asks) (glance_struck asked reply ∙ kind)),
        made.asks ∙ ap struck same,
        looked setup first task log old new.pass (struck asked) reply call (look_of task) is l made,
        ap (answered setup task) (sym made.replies),
      ))

  plain : (stage : Stage) (log : List Call) (task : TaskState) (old new : DeskState) (asked : Request) (reply : Reply) → asked ≡ request setup task → IsLogged setup first log task old
      → Let log task (look_of task) → HasCalled old (struck asked) reply new → (object_of (struck asked) ≡ OfNone → ⊥) → Owes stage asked reply
      → LogGoesOn log (answered setup task reply) new (ShowsEvent (what_of asked reply) asked reply (seen_by new.pass))
  plain stage log task old new asked reply same is l calls apart owed =
      let made = called stage log task old new asked reply (is_glance asked reply) refl same is l calls apart owed in (
        made.0 ∷ [],
        made.2,
        tells_one (what_of asked reply) made.0 asked reply (seen_by new.pass) refl made.1.asks made.1.replies
            (seen_made old.pass new.pass made.0.told.note (is_spent made.0.told.reply) made.0.told.drew made.0.told.drawn made.1.pass),
      )

  further : (log : List Call) (look : Call) (next : TaskState) (new : DeskState) (Shows Then : List Call → Type 0) → ((calls : List Call) → Shows calls → Then (look ∷ calls))
      → LogGoesOn (log ++ look ∷ []) next new Shows → LogGoesOn log next new Then
  further log look next new Shows Then on g =
      (look ∷ g.0, subst (λ l. IsLogged setup first l next new) (append_assoc log (look ∷ []) g.0) g.1, on g.0 g.2)

  completes : (stage : Stage) (log : List Call) (task : TaskState) (old new : DeskState) (disk : DevId) (reply : Reply) → Complete disk ≡ request setup task
      → IsLogged setup first log task old → Let log task (look_of task) → LooksAndCompletes old disk reply new → answered setup task Nothing ≡ task
      → Owes stage (Complete disk) reply → LogGoesOn log (answered setup task reply) new (ShowsEvent (what_of (Complete disk) reply) (Complete disk) reply (seen_by new.pass))
  completes stage log task old new disk reply same is l c idle owed =
      let look = glanced log task old c.between (Complete disk) (LeftOver c.count) is c.looks (λ e. cc) refl in
      let Tell : List Call → Type 0 = ShowsEvent (what_of (Complete disk) reply) (Complete disk) reply (seen_by new.pass) in
      let on : (calls : List Call) → Tell calls → Tell (look.0 ∷ calls) =
      λ calls tells. tells_further (what_of (Complete disk) reply) look.0 (Complete disk) reply (seen_by new.pass) calls look.3 tells in
      elim c.goes [
        | inl none ↦ further log look.0 (answered setup task reply) new Tell Tell on
            (stays (log ++ look.0 ∷ []) task (answered setup task reply) c.between new Tell look.2 (ap (answered setup task) none.1 ∙ idle) none.2
            (subst (λ r. ShowsEvent (what_of (Complete disk) r) (Complete disk) r (seen_by new.pass) []) (sym none.1) refl))
        | inr some ↦ further log look.0 (answered setup task reply) new Tell Tell on
            (plain stage (log ++ look.0 ∷ []) task c.between new (Complete disk) reply same look.2 (let_later log (look.0 ∷ []) task (look_of task) l) some.1 (λ e. cc) owed)
      ]

  -- the calls of what the task asks for
  one_ask : (stage : Stage) (log : List Call) (task : TaskState) (old new : DeskState) (asked : Request) (reply : Reply) → asked ≡ request setup task
      → IsLogged setup first log task old → Let log task (look_of task) → DeskServes old asked reply new → answered setup task Nothing ≡ task → Owes stage asked reply
      → LogGoesOn log (answered setup task reply) new (ShowsEvent (what_of asked reply) asked reply (seen_by new.pass))
  one_ask stage log task old new Rest reply same is l serves idle owed = absurd serves
  one_ask stage log task old new (Complete disk) reply same is l serves idle owed = completes stage log task old new disk reply same is l serves idle owed
  one_ask stage log task old new asked reply same is l serves idle owed = plain stage log task old new asked reply same is l serves (λ e. cc) owed

  looks_left : (log : List Call) (task next : TaskState) (asked : Request) (middle new : DeskState) (left : ℕ) (step : Step) → IsLogged setup first log next middle
      → HasCalled middle LookLeft (LeftOver left) new → step ≡ idle_step left → LogGoesOn log next new (λ calls. ShowsStep setup task next (seen_by new.pass) calls step)
  looks_left log task next asked middle new left step is calls tells =
      let look = glanced log next middle new LookLeft (LeftOver left) is calls (λ e. cc) refl in (
        look.0 ∷ [],
        look.2,
        subst (ShowsStep setup task next (seen_by new.pass) (look.0 ∷ [])) (sym tells)
            (idle_shows setup task next (seen_by new.pass) (look.0 ∷ []) look.0 left (left == 0) refl (quiet_first look.0 [] look.3) look.1.asks look.1.replies (Contains-push [] look.0)),
      )

  -- there was nothing, and what it has looked at stands behind
  in_vain : (log : List Call) (task next : TaskState) (asked : Request) (middle new : DeskState) (step : Step) (left : ℕ)
      → LogGoesOn log next middle (ShowsEvent (what_of asked Nothing) asked Nothing (seen_by middle.pass)) → HasCalled middle LookLeft (LeftOver left) new → step ≡ idle_step left
      → LogGoesOn log next new (λ calls. ShowsStep setup task next (seen_by new.pass) calls step)
  in_vain log task next asked middle new step left g looked tells =
      let look = looks_left (log ++ g.0) task next asked middle new left step g.1 looked tells in
      let quiet : events_in g.0 ≡ [] = subst (λ told. ShowsEvent told asked Nothing (seen_by middle.pass) g.0) (nothing_none asked) g.2 in (
        g.0 ++ look.0,
        subst (λ l. IsLogged setup first l next new) (append_assoc log g.0 look.0) look.1,
        shows_behind g.0 look.0 quiet look.2,
      )
    where
      shows_behind : (calls more : List Call) → events_in calls ≡ [] → ShowsStep setup task next (seen_by new.pass) more step → ShowsStep setup task next (seen_by new.pass) (calls ++ more) step
      shows_behind [] more quiet shows = shows
      shows_behind (call ∷ calls) more quiet shows =
          let kinds = quiet_parts call calls (is_event call.asked call.told.reply) refl quiet in
          shows_further setup task next (seen_by new.pass) call (calls ++ more) step kinds.0 (shows_behind calls more kinds.1 shows)
        where
          quiet_parts : (call : Call) (calls : List Call) (b : Bool) → is_event call.asked call.told.reply ≡ b → events_in (call ∷ calls) ≡ []
              → (is_event call.asked call.told.reply ≡ false) × (events_in calls ≡ [])
          quiet_parts call calls true is quiet =
              absurd (cc (sym (ap (λ (e : Bool). cond e (call ∷ events_in calls) (events_in calls)) is) ∙ quiet))
          quiet_parts call calls false is quiet = (is, sym (ap (λ (e : Bool). cond e (call ∷ events_in calls) (events_in calls)) is) ∙ quiet)

  -- there was a reply that the step tells
  told_of : (log : List Call) (task next : TaskState) (asked : Request) (reply : Reply) (middle new : DeskState) (step : Step) → asked ≡ request setup task
      → (asked ≡ Rest → ⊥) → next ≡ answered setup task reply → LogGoesOn log next middle (ShowsEvent (what_of asked reply) asked reply (seen_by middle.pass))
      → new ≡ middle → step ≡ step_of setup (id_of task) asked reply → LogGoesOn log next new (λ calls. ShowsStep setup task next (seen_by new.pass) calls step)
  told_of log task next asked reply middle new step same apart goes_on g stays tells =
      let apart_task : request setup task ≡ Rest → ⊥ = λ rests. apart (same ∙ rests) in
      let rests : is_broken (answered setup task reply) ≡ true → request setup next ≡ Rest =
      λ broke. subst (λ t. request setup t ≡ Rest) (sym goes_on) (broken_rests setup (answered setup task reply) broke) in (
        g.0,
        subst (λ n. IsLogged setup first (log ++ g.0) next n) (sym stays) g.1,
        subst (ShowsStep setup task next (seen_by new.pass) g.0) (sym tells)
            (shows_step setup task next (seen_by new.pass) g.0 (what_of asked reply) asked reply same refl
            (subst (λ d. ShowsEvent (what_of asked reply) asked reply (seen_by d.pass) g.0) (sym stays) g.2)
            (λ spent. rests (subst (λ r. is_broken (answered setup task r) ≡ true) (sym spent) (spent_breaks_off setup task apart_task)))
            (λ stop. rests (stop_breaks setup task reply apart_task (subst (λ a. is_stop a reply ≡ true) same stop)))),
      )

  asks : (stage : Stage) (log : List Call) (task next : TaskState) (old new : DeskState) (step : Step)
      → IsLogged setup first log task old → Let log task (look_of task) → answered setup task Nothing ≡ task
      → Asks DeskServes (Owes stage) setup task old next new step → LogGoesOn log next new (λ calls. ShowsStep setup task next (seen_by new.pass) calls step)
  asks stage log task next old new step is l idle a =
      let asked = request setup task in
      let g = one_ask stage log task old a.middle asked a.reply refl is l a.replied idle a.owed in
      let to : LogGoesOn log next a.middle (ShowsEvent (what_of asked a.reply) asked a.reply (seen_by a.middle.pass)) =
      (g.0, subst (λ t. IsLogged setup first (log ++ g.0) t a.middle) (sym a.goes_on) g.1, g.2) in
      elim a.follows [
        | inl told ↦ told_of log task next asked a.reply a.middle new step refl a.any a.goes_on to told.1 told.2
        | inr nothing ↦ in_vain log task next asked a.middle new step nothing.1.0
            (subst (λ r. LogGoesOn log next a.middle (ShowsEvent (what_of asked r) asked r (seen_by a.middle.pass))) nothing.0 to) nothing.1.1 nothing.1.2
      ]

  look_call : (look : Request) → (look ≡ LookRound) ⊎ (look ≡ LookLeft) → (old new : DeskState) (reply : Reply) → DeskServes old look reply new
      → HasCalled old look reply new × (object_of look ≡ OfNone → ⊥) × (is_glance look reply ≡ true)
  look_call LookRound is old new reply s = (s, (λ e. cc), refl)
  look_call LookLeft is old new reply s = (s, (λ e. cc), refl)
  look_call look is old new reply s = elim is [ inl e ↦ absurd (cc e) | inr e ↦ absurd (cc e) ]

  -- with a look before them
  saw : (log : List Call) (task next : TaskState) (old between new : DeskState) (step : Step) (look : Request) (seen : Reply) → look_of task ≡ Some look
      → IsLogged setup first log task old → DeskServes old look seen between
      → ((call : Call) → call.asked ≡ look → call.told.reply ≡ seen → IsLogged setup first (log ++ call ∷ []) task between
      → LogGoesOn (log ++ call ∷ []) next new (λ calls. ShowsStep setup task next (seen_by new.pass) calls step))
      → LogGoesOn log next new (λ calls. ShowsStep setup task next (seen_by new.pass) calls step)
  saw log task next old between new step look seen same is served on =
      let called_look = look_call look (task_looks task look same) old between seen served in
      let made = glanced log task old between look seen is called_look.0 called_look.1 called_look.2 in
      further log made.0 next new (λ calls. ShowsStep setup task next (seen_by new.pass) calls step) (λ calls. ShowsStep setup task next (seen_by new.pass) calls step)
      (λ calls shows. shows_further setup task next (seen_by new.pass) made.0 calls step made.3 shows)
      (on made.0 made.1.asks made.1.replies made.2)

  turns : (stage : Stage) (log : List Call) (task next : TaskState) (old new : DeskState) (step : Step)
      → IsLogged setup first log task old → answered setup task Nothing ≡ task → Turns DeskServes (Owes stage) setup task old next new step
      → LogGoesOn log next new (λ calls. ShowsStep setup task next (seen_by new.pass) calls step)
  turns stage log task next old new step is idle (Rested rests same same_desk tells) =
      stays log task next old new (λ calls. ShowsStep setup task next (seen_by new.pass) calls step) is same same_desk
      (subst (ShowsStep setup task next (seen_by new.pass) []) (sym tells) (rests_shows setup task next (seen_by new.pass) (breach_of task) (ap (request setup) same ∙ rests)))
  turns stage log task next old new step is idle (Waited look seen looks_at served early same tells) =
      saw log task next old new new step look seen looks_at is served
      (λ call asks_it replies logged. stays (log ++ call ∷ []) task next new new (λ calls. ShowsStep setup task next (seen_by new.pass) calls step) logged same refl
      (subst (ShowsStep setup task next (seen_by new.pass) []) (sym tells) refl))
  turns stage log task next old new step is idle (Asked none a) =
      asks stage log task next old new step is (subst (Let log task) (sym none) tt) idle a
  turns stage log task next old new step is idle (Saw look seen between looks_at served due a) =
      saw log task next old between new step look seen looks_at is served
      (λ call asks_it replies logged. asks stage (log ++ call ∷ []) task next between new step logged
      (subst (Let (log ++ call ∷ []) task) (sym looks_at)
      (call, Contains-push log call, asks_it, subst (λ r. IsTrue (lets task r)) (sym replies) (subst IsTrue (sym due) refl))) idle a)

pub steps_are_logged : StepsAreLogged
steps_are_logged stage setup first task next log old new step is t = turns setup first stage log task next old new step is (idle setup task) t
