-- What a close shows of the tickets of its clock.
use Rattle.std.proofs.Common.{◌≡◌, ◌⊎◌, ◌+◌, ◌-◌, ◌^◌, ◌≤◌, ◌++◌, ℕ, zero, suc, Bool, true, false, List, [], ◌∷◌, Option, None, Some, inl, inr, refl, sym, ◌∙◌, ap, subst, arith, get_or}
use Rattle.std.specs.Option.{is_some}
use Rattle.std.specs.Prelude.{All, Contains, slice_get}
use Rattle.std.proofs.lemmas.Bool.{true≢false}
use Rattle.std.proofs.lemmas.List.Elements.{All-contains, All-contains_itself, All-weaker, Contains-append_right}
use Rattle.std.proofs.lemmas.Option.{get_or_from_slice_get}
use Rattle.tick_clock.specs.declared.ticking.Ticket.{Ticket}
use Rattle.tick_clock.specs.Tickets.{PassState, ticket_numbers}
use Rattle.tick_clock.proofs.Rows.{pass_once}
use Rattle.run_machine.specs.declared.event.What.{What}
use Rattle.run_machine.specs.Events.{what_of}
use Rattle.run_machine.specs.Laws.{Object, object_of}
use Rattle.run_machine.specs.Scene.{Setup}
use Rattle.run_machine.specs.Tasks.{TaskState}
use Rattle.task_core.specs.declared.plain.Plain.{Plain}
use Rattle.object_things.specs.Histories.{Call, or_last, FoundNone}
use Rattle.object_things.specs.Stamps.{ThingState, StepOf, carried}
use Rattle.shared_objects.specs.ClosedByName.{history_in}
use Rattle.shared_objects.specs.Closes.{Returned, ClosesAs}
use Rattle.shared_objects.specs.Kinds.{ThingAt, looks_at, serves_at}
use Rattle.shared_objects.specs.Led.{BrokeOff, IsLed}
use Rattle.shared_objects.specs.Left.{HasClosed}
use Rattle.shared_objects.specs.Logs.{is_event, is_glance, is_stop}
use Rattle.shared_objects.specs.Passes.{found_by}
use Rattle.shared_objects.specs.Tickets.{AreOfHistories, ClosesShowTickets, DrewTicket, EntryCarries, IsBehind, IsEvent, IsRefusedCall, ShowsItsTickets}
use Rattle.shared_objects.specs.declared.closed.Closed.{Closed}
use Rattle.shared_objects.proofs.tickets.TicketsOfCalls.{drawn_of, drew_of, flat_all, in_row, last_drawn, map_from, map_there, ticket_from}
use Rattle.shared_objects.proofs.logs.CallsLead.{kinds, logs_lead}
use Rattle.shared_objects.proofs.tickets.CallOwners.{IsInPlace, IsCallOfTask, in_place, kept, logged, owner}
use Rattle.shared_objects.proofs.steps.EventOrRefused.{refused_stops, served_refused}

-- what is in a list is before a place, at it or behind it
in_parts : {X : Type 0} (xs : List X) (y : X) (ys : List X) (x : X) → Contains (xs ++ y ∷ ys) x → Contains xs x ⊎ ((y ≡ x) ⊎ Contains ys x)
in_parts [] y ys x (zero, lt, at) = inr (inl at)
in_parts [] y ys x (suc k, lt, at) = inr (inr (k, omega (arith, lt), at))
in_parts (z ∷ xs) y ys x (zero, lt, at) = inl (0, omega arith, at)
in_parts {X} (z ∷ xs) y ys x (suc k, lt, at) = further (in_parts xs y ys x (k, omega (arith, lt), at))
  where
    further : Contains xs x ⊎ ((y ≡ x) ⊎ Contains ys x) → Contains (z ∷ xs) x ⊎ ((y ≡ x) ⊎ Contains ys x)
    further (inl early) = inl (Contains-append_right (z ∷ []) xs x early)
    further (inr more) = inr more

-- the entry of an event carries what was drawn, and that of any other call nothing
carried_some : (what : Option What) (drawn : Option ℕ) → is_some what ≡ true → carried what drawn ≡ drawn
carried_some None drawn told = absurd (true≢false (sym told))
carried_some (Some what) drawn told = refl

carried_not : (what : Option What) (drawn : Option ℕ) → is_some what ≡ false → carried what drawn ≡ None
carried_not None drawn untold = refl
carried_not (Some what) drawn untold = absurd (true≢false untold)

-- a task breaks off with one call at most
one_stop : (set : Setup) (log : List Call) (through now : TaskState) (b : BrokeOff set log through now) (call : Call) → Contains log call
    → is_stop call.asked call.told.reply ≡ true → b.call ≡ call
one_stop set log through now b call there stop = by_part (in_parts b.before b.call b.later call (subst (λ l. Contains l call) b.log_is there))
  where
    by_part : Contains b.before call ⊎ ((b.call ≡ call) ⊎ Contains b.later call) → b.call ≡ call
    by_part (inl early) = absurd (true≢false (sym stop ∙ All-contains (λ (c : Call). is_stop c.asked c.told.reply ≡ false) b.before call b.goes early))
    by_part (inr (inl is)) = is
    by_part (inr (inr late)) =
        absurd (true≢false (sym stop ∙ (kinds call (All-contains (λ (c : Call). is_glance c.asked c.told.reply ≡ true) b.later call b.glances late)).1))

same_stops : (set : Setup) (first now : TaskState) (log : List Call) → IsLed set first log now → (call other : Call) → Contains log call → Contains log other
    → is_stop call.asked call.told.reply ≡ true → is_stop other.asked other.told.reply ≡ true → call ≡ other
same_stops set first now log led call other there here stop halt = by_stops led.stops
  where
    by_stops : ((now ≡ led.through) × All (λ (c : Call). is_stop c.asked c.told.reply ≡ false) log) ⊎ BrokeOff set log led.through now → call ≡ other
    by_stops (inl (is, goes)) = absurd (true≢false (sym stop ∙ All-contains (λ (c : Call). is_stop c.asked c.told.reply ≡ false) log call goes there))
    by_stops (inr b) = sym (one_stop set log led.through now b call there stop) ∙ one_stop set log led.through now b other here halt

module _ (set : Setup) (plain : Plain) (names : List Object) (history : Object → List Call) (left : (name : Object) → ThingState (ThingAt name)) (tasks : List Returned)
    (pass : PassState) (c : ClosesAs set plain names history left tasks pass) (found : All (λ (task : Returned). found_by task.desk.pass ≤ pass.known) tasks) where
  -- a call that drew a ticket is an event, whose entry carries it, or was refused
  told_or_refused : (name : Object) (call : Call) (n : ℕ) → Contains (history name) call → call.told.drawn ≡ Some n → EntryCarries n call
  told_or_refused name call n there is = by_event (is_event call.asked call.told.reply) refl
    where
      p : IsInPlace set plain names history left tasks pass c name call
      p = in_place set plain names history left tasks pass c name call there

      step : StepOf (serves_at name) (looks_at name) p.here call.asked call.told.reply (Some n) p.next
      step = subst (λ t. StepOf (serves_at name) (looks_at name) p.here call.asked call.told.reply t p.next) is p.answers.step

      by_event : (b : Bool) → is_event call.asked call.told.reply ≡ b → EntryCarries n call
      by_event true e = inl (e, p.answers.ticket ∙ carried_some (what_of call.asked call.told.reply) call.told.drawn e ∙ is)
      by_event false e = inr (
        served_refused name p.here.object p.next.object call.asked call.told.reply step.0 e,
        p.answers.ticket ∙ carried_not (what_of call.asked call.told.reply) call.told.drawn e,
      )

  abbrev HasDrawing : Ticket → Type 0
  HasDrawing ticket = (call : Call) × DrewTicket history ticket.number call × EntryCarries ticket.number call

  -- the ticket of a call of a task stands in the history of the object that was asked
  of_task : (place : ℕ) (task : Returned) → slice_get tasks place ≡ Some task → (ticket : Ticket) → Contains (drawn_of task) ticket → HasDrawing ticket
  of_task place task at ticket there = (
    drew.0,
    (object_of drew.0.asked, inside, drew.2),
    told_or_refused (object_of drew.0.asked) drew.0 ticket.number inside drew.2,
  )
    where
      drew : (call : Call) × Contains task.log call × (call.told.drawn ≡ Some ticket.number)
      drew = ticket_from task.log ticket.number
          (subst (λ l. Contains l ticket.number) (drew_of set plain names history left tasks pass c place task at) (map_there (λ (t : Ticket). t.number) (drawn_of task) ticket there))

      inside : Contains (history (object_of drew.0.asked)) drew.0
      inside = kept set plain names history left tasks pass c place task at drew.0 drew.1

  all_stand : All HasDrawing pass.drawn
  all_stand = subst (All HasDrawing) (sym c.drawn)
      (flat_all HasDrawing drawn_of tasks (λ place task at. All-weaker (Contains (drawn_of task)) HasDrawing (of_task place task at) (drawn_of task) (All-contains_itself (drawn_of task))))

  -- a ticket by its number
  by_number : (n : ℕ) → Contains (ticket_numbers pass.drawn) n → (ticket : Ticket) × Contains pass.drawn ticket × (ticket.number ≡ n)
  by_number n there = map_from (λ (t : Ticket). t.number) pass.drawn n there

  behind : (ticket : Ticket) → Contains pass.drawn ticket → IsBehind pass.drawn ticket
  behind ticket there = by_two (in_row set plain names history left tasks pass c ticket.number (map_there (λ (t : Ticket). t.number) pass.drawn ticket there))
    where
      by_two : (ticket.number ≡ 1) ⊎ ((other : ℕ) × Contains (ticket_numbers pass.drawn) other × (ticket.number ≡ other + 1)) → IsBehind pass.drawn ticket
      by_two (inl is) = inl is
      by_two (inr (other, inside, is)) = let o = by_number other inside in inr (o.0, o.1, is ∙ ap (λ n. n + 1) (sym o.2))

  one_refused : (one other : ℕ) (call later : Call) → DrewTicket history one call → IsRefusedCall call → DrewTicket history other later → IsRefusedCall later → call.by ≡ later.by → one ≡ other
  one_refused one other call later drew refused drew_later refused_later same =
      ap (or_last 0) (sym drew.2 ∙ ap (λ (x : Call). x.told.drawn) is ∙ drew_later.2)
    where
      o : IsCallOfTask set plain names history left tasks pass c drew.0 call
      o = owner set plain names history left tasks pass c drew.0 call drew.1

      p : IsCallOfTask set plain names history left tasks pass c drew_later.0 later
      p = owner set plain names history left tasks pass c drew_later.0 later drew_later.1

      places : o.place ≡ p.place
      places = let a = o.by in let b = p.by in omega (arith, a, b, same)

      one_task : p.task ≡ o.task
      one_task =
          sym (get_or_from_slice_get tasks p.place p.task o.task p.at) ∙ sym (ap (λ k. get_or tasks k o.task) places) ∙ get_or_from_slice_get tasks o.place o.task o.task o.at

      led : IsLed set o.task.first o.task.log o.task.task
      led = logs_lead set o.task.first o.task.task o.task.log o.task.desk (logged set plain names history left tasks pass c o.place o.task o.at).0

      is : call ≡ later
      is = same_stops set o.task.first o.task.task o.task.log led call later o.there (subst (λ (t : Returned). Contains t.log later) one_task p.there)
          (refused_stops call.asked call.told.reply refused) (refused_stops later.asked later.told.reply refused_later)

  pub are_of_histories : AreOfHistories history pass.drawn
  are_of_histories = record {
    apart = (pass_once pass c.all.1).0;
    row = All-weaker (Contains pass.drawn) (IsBehind pass.drawn) behind pass.drawn (All-contains_itself pass.drawn);
    drawn = all_stand;
    few = one_refused;
    last = λ name call there none. by_number (2 ^ 64 - 1) (last_drawn set plain names history left tasks pass c found name call there none);
  }

pub closes_show_tickets : ClosesShowTickets
closes_show_tickets = are_of_histories

pub shows_its_tickets : (closed : Closed) → HasClosed closed → ShowsItsTickets closed
shows_its_tickets closed has = are_of_histories _ closed.told.value.objects _ (history_in closed) _ has.returned closed.pass.value has.closes has.found
