-- What a step keeps of a task with its seats.
use Rattle.std.proofs.Common.{◌≡◌, ℕ, ◌+◌, ◌-◌, ◌^◌, ◌⊎◌, inl, inr, Bool, true, false, List, [], ◌∷◌, ◌++◌, Option, Some, None, arith, refl, sym, ◌∙◌, ap, subst}
use Rattle.std.specs.Prelude.{length, min, All, ◌≤◌}
use Rattle.tick_clock.specs.declared.ticking.Ticket.{Ticket}
use Rattle.tick_clock.specs.Tickets.{PassState, ticket_numbers}
use Rattle.std.proofs.lemmas.List.{length-append}
use Rattle.std.proofs.lemmas.List.Elements.{All-nil, filter-append, Contains-append_left, Contains-append_right}
use Rattle.task_steps.specs.declared.step.Step.{Step}
use Rattle.task_steps.specs.declared.step.Step.TheVariants.{Stepped, Blocked, Waiting, Ended, Broken}
use Rattle.run_machine.specs.Requests.{Rest}
use Rattle.run_machine.specs.Scene.{Setup}
use Rattle.run_machine.specs.Tasks.{TaskState, request}
use Rattle.task_steps.specs.Service.{Owing}
use Rattle.task_steps.specs.Routed.{Routing, routing_setup}
use Rattle.task_steps.specs.Stage.{Stage, Owes}
use Rattle.task_steps.specs.TaskViews.{TaskOf}
use Rattle.task_steps.specs.Turns.{Turns, Rested, Waited, Asked, Saw}
use Rattle.object_things.specs.Histories.{Call, FoundNone}
use Rattle.shared_objects.specs.Desks.{DeskState, DeskServes}
use Rattle.shared_objects.specs.Logs.{is_event, events_in, IsMet, IsSeenIn, KnowsLast, WentThrough, HasPass, IsLogged, HasStopped, seen_by, ShowsStep}
use Rattle.shared_objects.specs.Noting.{notes_of, AreNoted, IsBlank}
use Rattle.shared_objects.specs.Rans.{IsRan, events_after, stopped_after, IsUnused, IsNewDesk, NewDesksAreRan, StepsKeepRan}
use Rattle.shared_objects.specs.declared.noted.Noted.{Noted}
use Rattle.shared_objects.proofs.logs.StepNotes.{earlier_tickets, log_notes, stays_noted}
use Rattle.shared_objects.proofs.logs.StepCalls.{steps_are_logged}

capped_more : (n cap : ℕ) → min (min n cap + 1) cap ≡ min (n + 1) cap
capped_more n cap = omega (arith)

events_more : (log more : List Call) → length (events_in (log ++ more)) ≡ length (events_in log) + length (events_in more)
events_more log more =
    ap length (filter-append (λ (c : Call). is_event c.asked c.told.reply) log more) ∙ length-append (events_in log) (events_in more)

events_same : (log more : List Call) → events_in more ≡ [] → length (events_in (log ++ more)) ≡ length (events_in log)
events_same log more none = (let all = events_more log more in let none_is : length (events_in more) ≡ 0 = ap length none in omega (arith, all, none_is))

-- an event is one more, and any other step adds none
counts : (setup : Setup) (task next : TaskState) (seen : ℕ) (log more : List Call) (step : Step) (events : ℕ) → ShowsStep setup task next seen more step
    → events ≡ min (length (events_in log)) (2 ^ 64 - 1) → events_after step events ≡ min (length (events_in (log ++ more))) (2 ^ 64 - 1)
counts setup task next seen log more (Stepped event) events shows is =
    let one : length (events_in more) ≡ 1 = ap length shows.1 in
    ap (λ n. min (n + 1) (2 ^ 64 - 1)) is ∙ capped_more (length (events_in log)) (2 ^ 64 - 1)
    ∙ ap (λ n. min n (2 ^ 64 - 1)) (sym (events_more log more ∙ ap (λ n. length (events_in log) + n) one))
counts setup task next seen log more Ended events shows is = is ∙ ap (λ n. min n (2 ^ 64 - 1)) (sym (events_same log more shows.0))
counts setup task next seen log more (Broken breach) events shows is = is ∙ ap (λ n. min n (2 ^ 64 - 1)) (sym (events_same log more shows.0))
counts setup task next seen log more Waiting events shows is = is ∙ ap (λ n. min n (2 ^ 64 - 1)) (sym (events_same log more shows))
counts setup task next seen log more (Blocked pool) events shows is = is ∙ ap (λ n. min n (2 ^ 64 - 1)) (sym (events_same log more shows))

module _ (owes : Owing) (setup : Setup) where
  -- a task that asks for nothing stays as it is
  rest_turns : (task next : TaskState) (old new : DeskState) (step : Step) → request setup task ≡ Rest → Turns DeskServes owes setup task old next new step
      → next ≡ task
  rest_turns task next old new step is (Rested rests same stays tells) = same
  rest_turns task next old new step is (Waited look seen looks saw early same tells) = same
  rest_turns task next old new step is (Asked none asks) = absurd (asks.any is)
  rest_turns task next old new step is (Saw look seen between looks saw due asks) = absurd (asks.any is)

  -- a task that has stopped has stopped later
  still : (task next : TaskState) (log more : List Call) (old new : DeskState) (step : Step) → Turns DeskServes owes setup task old next new step
      → HasStopped setup log task → HasStopped setup (log ++ more) next
  still task next log more old new step t stopped = elim stopped [
    | inl rests ↦ inl (ap (request setup) (rest_turns task next old new step rests t) ∙ rests)
    | inr saw ↦ inr (saw.0, Contains-append_left log more saw.0 saw.1, saw.2, saw.3)
  ]

  stops : (task next : TaskState) (log more : List Call) (old new : DeskState) (step : Step) (stopped : Bool) → ShowsStep setup task next (seen_by new.pass) more step
      → (stopped ≡ true → HasStopped setup (log ++ more) next) → stopped_after step stopped ≡ true → HasStopped setup (log ++ more) next
  stops task next log more old new (Stepped event) stopped shows was is = was is
  stops task next log more old new Ended stopped shows was is = elim shows.1 [
    | inl rests ↦ inl rests
    | inr saw ↦ inr (saw.0, Contains-append_right log more saw.0 saw.1, saw.2, saw.3)
  ]
  stops task next log more old new (Broken breach) stopped shows was is = inl shows.1
  stops task next log more old new Waiting stopped shows was is = was is
  stops task next log more old new (Blocked pool) stopped shows was is = was is

pub steps_keep_ran : StepsKeepRan
steps_keep_ran stage first task next old new step events stopped noted after is turns same goes =
    let t : Turns DeskServes (Owes stage) (routing_setup first.routing) task.state old next.state new step =
    subst (λ r. Turns DeskServes (Owes stage) (routing_setup r) task.state old next.state new step) is.routing turns in
    let g = steps_are_logged stage (routing_setup first.routing) first.state task.state next.state is.log old new step is.logged t in
    record {
      log = is.log ++ g.0;
      logged = g.1;
      routing = same ∙ is.routing;
      counted = counts (routing_setup first.routing) task.state next.state (seen_by new.pass) is.log g.0 step events g.2 is.counted;
      stops = stops (Owes stage) (routing_setup first.routing) task.state next.state is.log g.0 old new step stopped g.2
          (λ was. still (Owes stage) (routing_setup first.routing) task.state next.state is.log g.0 old new step t (is.stops was));
      notes = λ have. stays_noted step (seen_by new.pass) (notes_of (routing_setup first.routing) first.state is.log) (notes_of (routing_setup first.routing) first.state (is.log ++ g.0)) noted after
          (log_notes (routing_setup first.routing) first.state task.state next.state is.log g.0 old new step is.logged g.1 g.2 have) (is.notes (earlier_tickets is.log g.0 have)) goes;
    }

unused_goes : (pass : Option PassState) → IsUnused pass → HasPass pass 0 []
unused_goes None is = absurd is
unused_goes (Some pass) is = record {
  above = omega (arith);
  met = All-nil (IsMet pass.seen);
  own = inl is.0;
  drew = ap ticket_numbers is.1;
  saw = subst (All (λ (t : Ticket). IsSeenIn [] t.seen)) (sym is.1) (All-nil (λ (t : Ticket). IsSeenIn [] t.seen));
  last = All-nil (λ (c : Call). FoundNone c → KnowsLast pass []);
}

blank_notes : (noted : Option Noted) → IsBlank noted → AreNoted [] noted
blank_notes None blank = tt
blank_notes (Some noted) blank = inl (blank.1, blank.0)

pub new_desks_are_ran : NewDesksAreRan
new_desks_are_ran task desk noted is blank = record {
  log = [];
  logged = record { calls = is.calls; leads = refl; end = 0; rises = refl; pass = unused_goes desk.pass is.pass };
  routing = refl;
  counted = refl;
  stops = λ e. absurd (cc e);
  notes = λ have. blank_notes noted blank;
}
