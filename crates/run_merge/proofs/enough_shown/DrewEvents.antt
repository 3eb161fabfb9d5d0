-- Where no task broke off, a call drew a ticket exactly where it is an event, and its entry carries it.
use Rattle.std.proofs.Common.{◌≡◌, ◌⊎◌, ℕ, Bool, true, false, List, Option, None, Some, inl, inr, refl, sym, ◌∙◌, ap}
use Rattle.std.specs.Option.{is_some}
use Rattle.std.specs.Prelude.{All, Contains, slice_get}
use Rattle.std.proofs.lemmas.Bool.{true≢false}
use Rattle.std.proofs.lemmas.List.Elements.{All-weaker, All-contains, All-contains_itself}
use Rattle.tick_clock.specs.Tickets.{PassState}
use Rattle.run_machine.specs.declared.event.What.{What}
use Rattle.run_machine.specs.Events.{what_of}
use Rattle.run_machine.specs.Laws.{Object}
use Rattle.run_machine.specs.Opened.{Scenario, setup_in}
use Rattle.run_machine.specs.Tasks.{is_broken}
use Rattle.task_core.specs.declared.plain.Plain.{Plain}
use Rattle.object_things.specs.Histories.{Call}
use Rattle.object_things.specs.Stamps.{ThingState, StepOf, carried}
use Rattle.shared_objects.specs.Closes.{Returned, ClosesAs}
use Rattle.shared_objects.specs.Kinds.{ThingAt, serves_at, looks_at}
use Rattle.shared_objects.specs.Led.{BrokeOff, IsLed}
use Rattle.shared_objects.specs.Logs.{is_stop}
use Rattle.shared_objects.proofs.logs.CallsLead.{logs_lead}
use Rattle.shared_objects.proofs.tickets.TicketsOfCalls.{keeps}
use Rattle.shared_objects.proofs.tickets.CallOwners.{logged, IsCallOfTask, owner, IsInPlace, in_place}
use Rattle.shared_objects.proofs.steps.EventOrRefused.{refused_stops, served_refused}
use Rattle.run_merge.specs.SharedObjects.{DrewAsEvent}
use Rattle.run_merge.proofs.enough_shown.LogLeads.{is_told}

-- an entry carries what was drawn, where that was drawn as the call is an event
carries_all : (what : Option What) (drawn : Option ℕ) → is_some drawn ≡ is_some what → carried what drawn ≡ drawn
carries_all None None drew = refl
carries_all None (Some n) drew = absurd (true≢false drew)
carries_all (Some what) drawn drew = refl

module _ (s : Scenario) (plain : Plain) (names : List Object) (history : Object → List Call) (left : (name : Object) → ThingState (ThingAt name)) (tasks : List Returned)
    (pass : PassState) (c : ClosesAs (setup_in s) plain names history left tasks pass)
    (whole : (place : ℕ) (task : Returned) → slice_get tasks place ≡ Some task → is_broken task.task ≡ false) where
  -- no call of a task stopped it
  goes_on : (place : ℕ) (task : Returned) → slice_get tasks place ≡ Some task → (call : Call) → Contains task.log call → is_stop call.asked call.told.reply ≡ false
  goes_on place task at call there = by_end led.stops
    where
      led : IsLed (setup_in s) task.first task.log task.task
      led = logs_lead (setup_in s) task.first task.task task.log task.desk (logged (setup_in s) plain names history left tasks pass c place task at).0

      by_end : ((task.task ≡ led.through) × All (λ (x : Call). is_stop x.asked x.told.reply ≡ false) task.log) ⊎ BrokeOff (setup_in s) task.log led.through task.task
          → is_stop call.asked call.told.reply ≡ false
      by_end (inl (is, goes)) = All-contains (λ (x : Call). is_stop x.asked x.told.reply ≡ false) task.log call goes there
      by_end (inr broke) = absurd (true≢false (sym broke.broken ∙ whole place task at))

  drew_as : (name : Object) (call : Call) → Contains (history name) call → DrewAsEvent call
  drew_as name call there =
      let drew = by_ticket call.told.drawn p.answers.step in (drew, p.answers.ticket ∙ carries_all (what_of call.asked call.told.reply) call.told.drawn drew)
    where
      p : IsInPlace (setup_in s) plain names history left tasks pass c name call
      p = in_place (setup_in s) plain names history left tasks pass c name call there

      o : IsCallOfTask (setup_in s) plain names history left tasks pass c name call
      o = owner (setup_in s) plain names history left tasks pass c name call there

      -- with a ticket it was served, so that it is an event or was refused, which stops its task
      by_event : (b : Bool) → is_told call ≡ b → serves_at name p.here.object call.asked call.told.reply p.next.object → true ≡ is_told call
      by_event true is serves = sym is
      by_event false is serves =
          let stop = refused_stops call.asked call.told.reply (served_refused name p.here.object p.next.object call.asked call.told.reply serves is) in
          absurd (true≢false (sym stop ∙ goes_on o.place o.task o.at call o.there))

      by_ticket : (ticket : Option ℕ) → StepOf (serves_at name) (looks_at name) p.here call.asked call.told.reply ticket p.next → is_some ticket ≡ is_told call
      by_ticket None step = sym (ap is_some ((keeps name).quiet p.here p.next call.asked call.told.reply step.0).told)
      by_ticket (Some n) step = by_event (is_told call) refl step.0

  pub drew_as_events : (name : Object) → All DrewAsEvent (history name)
  drew_as_events name = All-weaker (Contains (history name)) DrewAsEvent (drew_as name) (history name) (All-contains_itself (history name))
