-- What each task came to: it is through, or was refused, or a draw of its own failed.
use Rattle.std.proofs.Common.{◌≡◌, ◌⊎◌, ◌<◌, ◌≤◌, ◌++◌, cond, ℕ, Bool, true, false, not, List, [], ◌∷◌, Option, None, Some, inl, inr, refl, sym, ◌∙◌, ap, subst, arith}
use Rattle.std.specs.Option.{is_some}
use Rattle.std.specs.Prelude.{All, Contains, slice_get, map}
use Rattle.std.proofs.lemmas.Bool.{true≢false}
use Rattle.std.proofs.lemmas.List.{append-nil}
use Rattle.std.proofs.lemmas.List.Elements.{All-weaker, All-contains, All-contains_itself, Contains-append_left, Contains-append_right}
use Rattle.elem_ledger.specs.Ledger.{LedgerId}
use Rattle.tick_clock.specs.Tickets.{PassState, ticket_numbers}
use Rattle.run_machine.specs.Laws.{Object, object_of}
use Rattle.run_machine.specs.Opened.{Scenario, setup_in, start}
use Rattle.run_machine.specs.Requests.{Reply, LookLeft, NoTicket}
use Rattle.run_machine.specs.Tasks.{TaskState, look_of}
use Rattle.task_core.specs.declared.plain.Plain.{Plain}
use Rattle.object_things.specs.Histories.{Call, drawn_in, LeadDrawn, DrawnRun, IsNextTicket, TicketsRise}
use Rattle.object_things.specs.Stamps.{ThingState, StepOf, is_spent}
use Rattle.shared_objects.specs.Closes.{Returned, ClosesAs}
use Rattle.shared_objects.specs.Kinds.{ThingAt, serves_at, looks_at, opened_at, unasked}
use Rattle.shared_objects.specs.Logs.{HasStopped}
use Rattle.shared_objects.specs.Passes.{found_by}
use Rattle.shared_objects.proofs.tickets.TicketsOfCalls.{last_drawn, keeps}
use Rattle.shared_objects.proofs.tickets.CallOwners.{first_there, logged, kept, IsInPlace, in_place}
use Rattle.shared_objects.proofs.logs.StepNotes.{HasTicket}
use Rattle.run_merge.specs.Closing.{IsThrough, WasRefused, HasLast}
use Rattle.run_merge.specs.Machines.{ServesAt, TallyMachine, LeadsObject}
use Rattle.run_merge.specs.Merging.{Ticketed, without_tickets, done_by}
use Rattle.run_merge.specs.ObjectsByName.{object_named}
use Rattle.run_merge.specs.SharedObjects.{seen_at}
use Rattle.run_merge.proofs.enough_shown.CallTickets.{events_append, events_untold, rises_events, none_greater, rises_above, rises_parts}
use Rattle.run_merge.proofs.enough_shown.CallEvents.{ticketed_events, event_histories, drawn_entry}
use Rattle.run_merge.proofs.enough_shown.TallyLooks.{parts_ready, history_parts, IsSeen, seen_then, left_look, lets_ask}
use Rattle.run_merge.proofs.enough_shown.ObjectHistories.{told_drew, IsReady, ready_first, ready_behind, serves_is, serves_none, drawn_leads}
use Rattle.run_merge.proofs.enough_shown.NoTicketCalls.{found_none, none_served, stop_spent}
use Rattle.run_merge.proofs.enough_shown.LogLeads.{IsStopped}

module _ (s : Scenario) (plain : Plain) (names : List Object) (history : Object → List Call) (left : (name : Object) → ThingState (ThingAt name)) (tasks : List Returned)
    (pass : PassState) (c : ClosesAs (setup_in s) plain names history left tasks pass) (ledger : ℕ → LedgerId)
    (begins : (name : Object) → object_named (start s).objects name ≡ seen_at name (opened_at plain name))
    (ready : (name : Object) → IsReady ledger name (opened_at plain name) (drawn_in (history name)))
    (found : All (λ (task : Returned). found_by task.desk.pass ≤ pass.known) tasks) where
  -- where an object said that there was no ticket, the last one was drawn
  pub said_last : (name : Object) (call : Call) → Contains (history name) call → is_spent call.told.reply ≡ true → HasLast (ticket_numbers pass.drawn)
  said_last name call there spent = by_ticket call.told.drawn refl p.answers.step
    where
      p : IsInPlace (setup_in s) plain names history left tasks pass c name call
      p = in_place (setup_in s) plain names history left tasks pass c name call there

      spent_is : (reply : Reply) → is_spent reply ≡ true → reply ≡ NoTicket
      spent_is NoTicket is = refl
      spent_is reply is = absurd (true≢false (sym is))

      by_object : (b : Bool) → p.here.spent ≡ b → call.told.drawn ≡ None → HasLast (ticket_numbers pass.drawn)
      by_object false had none = last_drawn (setup_in s) plain names history left tasks pass c found name call there (spent, p.answers.drew ∙ ap not had, none)
      by_object true had none =
          let f = found_none name (unasked (opened_at plain name)) p.here p.before p.leads refl had in
          last_drawn (setup_in s) plain names history left tasks pass c found name f.0 (subst (λ l. Contains l f.0) (sym p.is) (Contains-append_left p.before (call ∷ p.after) f.0 f.1)) f.2

      by_ticket : (ticket : Option ℕ) → call.told.drawn ≡ ticket → StepOf (serves_at name) (looks_at name) p.here call.asked call.told.reply ticket p.next → HasLast (ticket_numbers pass.drawn)
      by_ticket (Some n) t step =
          none_served name p.here.object p.next.object call.asked (subst (λ r. serves_at name p.here.object call.asked r p.next.object) (spent_is call.told.reply spent) step.0)
      by_ticket None t step = by_object p.here.spent refl t

  pub object_last : (name : Object) → (left name).spent ≡ true → HasLast (ticket_numbers pass.drawn)
  object_last name spent =
      let f = found_none name (unasked (opened_at plain name)) (left name) (history name) (c.things name) refl spent in
      last_drawn (setup_in s) plain names history left tasks pass c found name f.0 f.1 f.2

  -- each event of a log has a ticket
  pub log_drew : (place : ℕ) (task : Returned) → slice_get tasks place ≡ Some task → (call : Call) → Contains task.log call → HasTicket call
  log_drew place task at call within =
      let name = object_of call.asked in
      All-contains HasTicket (history name) call (told_drew name (unasked (opened_at plain name)) (left name) (history name) (c.things name))
      (kept (setup_in s) plain names history left tasks pass c place task at call within)

  module _ (place : ℕ) (task : Returned) (at : slice_get tasks place ≡ Some task) (done : done_by place (event_histories names history) ≡ ticketed_events task.log)
      (now : TaskState) where
    module _ (st : IsStopped (setup_in s) [] task.log now task.task) where
      inside : Contains task.log st.call
      inside = subst (λ l. Contains l st.call) (sym st.log_is) (Contains-append_right st.here (st.call ∷ st.later) st.call (first_there st.call st.later))

      there : Contains (history (object_of st.call.asked)) st.call
      there = kept (setup_in s) plain names history left tasks pass c place task at st.call inside

      p : IsInPlace (setup_in s) plain names history left tasks pass c (object_of st.call.asked) st.call
      p = in_place (setup_in s) plain names history left tasks pass c (object_of st.call.asked) st.call there

      refused : (n : ℕ) → st.call.told.drawn ≡ Some n
          → WasRefused s ledger (event_histories names history) place now task.task
      refused n ticket = record {
        asked = st.call.asked;
        reply = st.call.told.reply;
        ticket = n;
        asks = st.asks;
        looked = lets_ask s plain names history left tasks pass c ledger begins ready place task at st.here
            (λ x within. subst (λ l. Contains l x) (sym st.log_is) (Contains-append_left st.here (st.call ∷ st.later) x within)) now st.call n ticket (look_of now) refl st.looked;
        mine = subst (All (λ (x : Ticketed). x.ticket < n)) (sym done) mine_few;
        before = ticketed_events p.before;
        later = ticketed_events p.after;
        history = history_parts s plain names history left tasks pass c ledger begins ready (object_of st.call.asked) st.call p st.untold;
        smaller = let lt = step.2 in All-weaker (λ (x : Ticketed). x.ticket ≤ p.here.note) (λ (x : Ticketed). x.ticket < n) (λ x le. omega (arith, le, lt)) (ticketed_events p.before)
            (none_greater 0 p.here.note p.before rises_before drew_before).1;
        greater = rises_above n (ticketed_events p.after)
            (rises_events n (left (object_of st.call.asked)).note p.after
            (subst (λ m. TicketsRise m p.after (left (object_of st.call.asked)).note) step.3 ((keeps (object_of st.call.asked)).rises p.next (left (object_of st.call.asked)) p.after p.rest))
            (told_drew (object_of st.call.asked) p.next (left (object_of st.call.asked)) p.after p.rest));
        object = seen_at (object_of st.call.asked) p.here.object;
        leads = subst (λ o. LeadsObject ledger (object_of st.call.asked) o (without_tickets (ticketed_events p.before)) (seen_at (object_of st.call.asked) p.here.object))
            (sym (begins (object_of st.call.asked)))
            (drawn_leads ledger (object_of st.call.asked) p.before (opened_at plain (object_of st.call.asked)) p.here.object drew_before
            (ready_first ledger (object_of st.call.asked) (drawn_in p.before) (drawn_in (st.call ∷ p.after)) (opened_at plain (object_of st.call.asked)) ready_all) drawn);
        serves = subst (λ o. ServesAt ledger (object_of st.call.asked) (seen_at (object_of st.call.asked) p.here.object) st.call.asked st.call.told.reply (seen_at (object_of st.call.asked) o))
            (serves_none ledger (object_of st.call.asked) p.here.object p.next.object st.call st.untold step.0)
            (serves_is ledger (object_of st.call.asked) p.here.object p.next.object st.call (drawn_in p.after) ready_here step.0);
        goes_on = st.goes_on;
        broken = st.broken;
      }
        where
          step : StepOf (serves_at (object_of st.call.asked)) (looks_at (object_of st.call.asked)) p.here st.call.asked st.call.told.reply (Some n) p.next
          step = subst (λ t. StepOf (serves_at (object_of st.call.asked)) (looks_at (object_of st.call.asked)) p.here st.call.asked st.call.told.reply t p.next) ticket p.answers.step

          rises_before : TicketsRise 0 p.before p.here.note
          rises_before = (keeps (object_of st.call.asked)).rises (unasked (opened_at plain (object_of st.call.asked))) p.here p.before p.leads

          drew_before : All HasTicket p.before
          drew_before = told_drew (object_of st.call.asked) (unasked (opened_at plain (object_of st.call.asked))) p.here p.before p.leads

          run : DrawnRun (serves_at (object_of st.call.asked)) (unasked (opened_at plain (object_of st.call.asked))) p.here p.before
          run = (keeps (object_of st.call.asked)).runs (unasked (opened_at plain (object_of st.call.asked))) p.here p.before p.leads

          drawn : LeadDrawn (serves_at (object_of st.call.asked)) (opened_at plain (object_of st.call.asked)) (drawn_in p.before) p.here.object
          drawn = subst (LeadDrawn (serves_at (object_of st.call.asked)) (opened_at plain (object_of st.call.asked)) (drawn_in p.before)) (run.ends step.1) run.run

          ready_all : IsReady ledger (object_of st.call.asked) (opened_at plain (object_of st.call.asked)) (drawn_in p.before ++ drawn_in (st.call ∷ p.after))
          ready_all = parts_ready s plain names history left tasks pass c ledger begins ready (object_of st.call.asked) p.before (st.call ∷ p.after) p.is

          ready_here : IsReady ledger (object_of st.call.asked) p.here.object (st.call ∷ drawn_in p.after)
          ready_here = subst (λ b. IsReady ledger (object_of st.call.asked) p.here.object (cond b (st.call ∷ drawn_in p.after) (drawn_in p.after))) (ap is_some ticket)
              (ready_behind ledger (object_of st.call.asked) (drawn_in p.before) (drawn_in (st.call ∷ p.after)) (opened_at plain (object_of st.call.asked)) p.here.object ready_all drawn)

          has_here : All HasTicket st.here
          has_here = All-weaker (Contains st.here) HasTicket
              (λ x within. log_drew place task at x (subst (λ l. Contains l x) (sym st.log_is) (Contains-append_left st.here (st.call ∷ st.later) x within))) st.here (All-contains_itself st.here)

          mine_few : All (λ (x : Ticketed). x.ticket < n) (ticketed_events task.log)
          mine_few =
              let l = (logged (setup_in s) plain names history left tasks pass c place task at).0 in
              let parts = rises_parts 0 l.end st.here (st.call ∷ st.later) (subst (λ log. TicketsRise 0 log l.end) st.log_is l.rises) in
              let lt : parts.0 < n = subst (IsNextTicket parts.0) ticket parts.2.0 in
              let events : ticketed_events task.log ≡ ticketed_events st.here =
              ap ticketed_events st.log_is ∙ events_append st.here (st.call ∷ st.later)
              ∙ ap (λ l. ticketed_events st.here ++ l) (events_untold st.call st.later st.untold ∙ ap (map drawn_entry) st.none) ∙ append-nil (ticketed_events st.here) in
              subst (All (λ (x : Ticketed). x.ticket < n)) (sym events)
              (All-weaker (λ (x : Ticketed). x.ticket ≤ parts.0) (λ (x : Ticketed). x.ticket < n) (λ x le. omega (arith, le, lt)) (ticketed_events st.here)
              (none_greater 0 parts.0 st.here parts.1 has_here).1)

      stopped : WasRefused s ledger (event_histories names history) place now task.task ⊎ HasLast (ticket_numbers pass.drawn)
      stopped = by_ticket st.call.told.drawn refl
        where
          by_ticket : (ticket : Option ℕ) → st.call.told.drawn ≡ ticket
              → WasRefused s ledger (event_histories names history) place now task.task ⊎ HasLast (ticket_numbers pass.drawn)
          by_ticket (Some n) t = inl (refused n t)
          by_ticket None t =
              let step = subst (λ x. StepOf (serves_at (object_of st.call.asked)) (looks_at (object_of st.call.asked)) p.here st.call.asked st.call.told.reply x p.next) t p.answers.step in
              inr (said_last (object_of st.call.asked) st.call there (stop_spent (object_of st.call.asked) p.here p.next st.call.asked st.call.told.reply step.0 st.stop))

    -- it has nothing to ask for, or saw no unfinished write
    through : HasStopped (setup_in s) task.log now → IsThrough s ledger (event_histories names history) now
    through (inl rests) = inl rests
    through (inr (call, within, asks, says)) =
        inr (seen.was, sym (subst (λ r. TallyMachine seen.was.shown LookLeft r seen.was.shown) says (subst (λ a. TallyMachine seen.was.shown a call.told.reply seen.was.shown) asks seen.serves)).0)
      where
        seen : IsSeen s plain names history left tasks pass c ledger begins ready call
        seen = seen_then s plain names history left tasks pass c ledger begins ready call LookLeft asks left_look
            (subst (λ a. Contains (history (object_of a)) call) asks (kept (setup_in s) plain names history left tasks pass c place task at call within))

    pub comes_to : (task.task ≡ now) ⊎ IsStopped (setup_in s) [] task.log now task.task
        → ((task.task ≡ now) × IsThrough s ledger (event_histories names history) now)
        ⊎ (WasRefused s ledger (event_histories names history) place now task.task ⊎ HasLast (ticket_numbers pass.drawn))
    comes_to (inl is) = inl (is, through (subst (HasStopped (setup_in s) task.log) is (logged (setup_in s) plain names history left tasks pass c place task at).1))
    comes_to (inr st) = inr (stopped st)
