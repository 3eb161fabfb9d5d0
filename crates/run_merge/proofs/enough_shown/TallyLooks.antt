-- What tasks saw of the tally: it was so behind events with smaller tickets.
use Rattle.std.proofs.Common.{◌≡◌, ◌<◌, ◌≤◌, ◌++◌, ℕ, false, List, ◌∷◌, Option, None, Some, refl, sym, ◌∙◌, ap, subst, arith, inl, inr}
use Rattle.std.specs.Option.{is_some}
use Rattle.std.specs.Prelude.{All, Contains, IfSome, slice_get}
use Rattle.std.proofs.lemmas.List.Elements.{All-weaker, filter-append}
use Rattle.elem_ledger.specs.Ledger.{LedgerId}
use Rattle.tick_clock.specs.Tickets.{PassState}
use Rattle.run_machine.specs.Laws.{Object, OfTally, object_of}
use Rattle.run_machine.specs.Objects.{TallyState}
use Rattle.run_machine.specs.Opened.{Scenario, setup_in, start}
use Rattle.run_machine.specs.Requests.{Request, Reply, LookRound, LookLeft, Present, LeftOver}
use Rattle.run_machine.specs.Tasks.{TaskState, look_of}
use Rattle.run_machine.proofs.Looks.{task_looks}
use Rattle.task_core.specs.declared.plain.Plain.{Plain}
use Rattle.object_things.specs.Histories.{Call, drawn_in}
use Rattle.object_things.specs.Stamps.{ThingState, StepOf, is_spent}
use Rattle.object_things.specs.Tallies as things
use Rattle.shared_objects.specs.Closes.{Returned, ClosesAs}
use Rattle.shared_objects.specs.Kinds.{ThingAt, opened_at, unasked}
use Rattle.shared_objects.specs.Logs.{is_event, Looked}
use Rattle.shared_objects.proofs.tickets.TicketsOfCalls.{keeps}
use Rattle.shared_objects.proofs.tickets.CallOwners.{kept, IsInPlace, in_place}
use Rattle.run_merge.specs.Machines.{TallyMachine, LeadsObject}
use Rattle.run_merge.specs.Merging.{Ticketed, without_tickets, history_of, TallyThen, LetsAsk}
use Rattle.run_merge.specs.ObjectsByName.{object_named}
use Rattle.run_merge.specs.SharedObjects.{seen_at}
use Rattle.run_merge.proofs.enough_shown.CallTickets.{events_around, none_greater}
use Rattle.run_merge.proofs.enough_shown.CallEvents.{ticketed_events, event_histories}
use Rattle.run_merge.proofs.enough_shown.CallEntries.{history_is}
use Rattle.run_merge.proofs.enough_shown.ObjectHistories.{told_drew, IsReady, ready_first, drawn_leads, tally_drawn}
use Rattle.run_merge.proofs.enough_shown.LogLeads.{is_told}

-- a look of a task asks the tally, is no event, and is told the tally as it is
pub record AsksTally (look : Request) : Type 0 where
  pub tally : object_of look ≡ OfTally
  pub untold : (reply : Reply) → is_event look reply ≡ false
  pub serves : (old next : ThingState TallyState) (reply : Reply) (ticket : Option ℕ) → StepOf things.TallyServes things.TallyLooks old look reply ticket next
      → TallyMachine old.object look reply old.object × (is_spent reply ≡ false)

round_looks : (old next : ThingState TallyState) (reply : Reply) → things.TallyLooks old LookRound reply next → TallyMachine old.object LookRound reply old.object × (is_spent reply ≡ false)
round_looks old next (Present round) looks = ((looks.0, refl), refl)
round_looks old next reply looks = absurd looks

left_looks : (old next : ThingState TallyState) (reply : Reply) → things.TallyLooks old LookLeft reply next → TallyMachine old.object LookLeft reply old.object × (is_spent reply ≡ false)
left_looks old next (LeftOver count) looks = ((looks.0, refl), refl)
left_looks old next reply looks = absurd looks

round_step : (old next : ThingState TallyState) (reply : Reply) (ticket : Option ℕ) → StepOf things.TallyServes things.TallyLooks old LookRound reply ticket next
    → TallyMachine old.object LookRound reply old.object × (is_spent reply ≡ false)
round_step old next reply (Some n) step = absurd step.0
round_step old next reply None step = round_looks old next reply step.0

left_step : (old next : ThingState TallyState) (reply : Reply) (ticket : Option ℕ) → StepOf things.TallyServes things.TallyLooks old LookLeft reply ticket next
    → TallyMachine old.object LookLeft reply old.object × (is_spent reply ≡ false)
left_step old next reply (Some n) step = absurd step.0
left_step old next reply None step = left_looks old next reply step.0

round_look : AsksTally LookRound
round_look = record { tally = refl; untold = λ reply. refl; serves = round_step }

pub left_look : AsksTally LookLeft
left_look = record { tally = refl; untold = λ reply. refl; serves = left_step }

-- so is each look of a task
asks_tally : (task : TaskState) (look : Request) → look_of task ≡ Some look → AsksTally look
asks_tally task look is = elim (task_looks task look is) [
  | inl round ↦ subst AsksTally (sym round) round_look
  | inr left ↦ subst AsksTally (sym left) left_look
]

module _ (s : Scenario) (plain : Plain) (names : List Object) (history : Object → List Call) (left : (name : Object) → ThingState (ThingAt name)) (tasks : List Returned)
    (pass : PassState) (c : ClosesAs (setup_in s) plain names history left tasks pass) (ledger : ℕ → LedgerId)
    (begins : (name : Object) → object_named (start s).objects name ≡ seen_at name (opened_at plain name))
    (ready : (name : Object) → IsReady ledger name (opened_at plain name) (drawn_in (history name))) where
  pub parts_ready : (name : Object) (before after : List Call) → history name ≡ before ++ after → IsReady ledger name (opened_at plain name) (drawn_in before ++ drawn_in after)
  parts_ready name before after is =
      subst (IsReady ledger name (opened_at plain name)) (ap drawn_in is ∙ filter-append (λ (call : Call). is_some call.told.drawn) before after) (ready name)

  pub history_parts : (name : Object) (call : Call) (p : IsInPlace (setup_in s) plain names history left tasks pass c name call) → is_told call ≡ false
      → history_of name (event_histories names history) ≡ ticketed_events p.before ++ ticketed_events p.after
  history_parts name call p untold =
      history_is history name names (c.others name) ∙ ap ticketed_events p.is ∙ events_around p.before p.after call untold

  -- the tally at a look
  pub record IsSeen (call : Call) : Type 0 where
    pub was : TallyThen s ledger (history_of OfTally (event_histories names history))
    pub few : All (λ (n : Ticketed). n.ticket ≤ call.told.note) was.seen
    pub serves : TallyMachine was.shown call.asked call.told.reply was.shown
    pub found : is_spent call.told.reply ≡ false

  pub seen_then : (call : Call) (look : Request) → call.asked ≡ look → AsksTally look → Contains (history OfTally) call → IsSeen call
  seen_then call look asks is there = record {
    was = record {
      seen = ticketed_events p.before;
      later = ticketed_events p.after;
      history = history_parts OfTally call p untold;
      shown = p.here.object;
      leads = subst (λ o. LeadsObject ledger OfTally o (without_tickets (ticketed_events p.before)) p.here.object) (sym (begins OfTally))
          (drawn_leads ledger OfTally p.before (opened_at plain OfTally) p.here.object (told_drew OfTally (unasked (opened_at plain OfTally)) p.here p.before p.leads)
          (ready_first ledger OfTally (drawn_in p.before) (drawn_in (call ∷ p.after)) (opened_at plain OfTally) (parts_ready OfTally p.before (call ∷ p.after) p.is))
          (tally_drawn p.before (unasked (opened_at plain OfTally)) p.here p.leads));
    };
    few = subst (λ n. All (λ (x : Ticketed). x.ticket ≤ n) (ticketed_events p.before)) (sym p.answers.note)
        (none_greater 0 p.here.note p.before ((keeps OfTally).rises (unasked (opened_at plain OfTally)) p.here p.before p.leads)
        (told_drew OfTally (unasked (opened_at plain OfTally)) p.here p.before p.leads)).1;
    serves = subst (λ a. TallyMachine p.here.object a call.told.reply p.here.object) (sym asks) told.0;
    found = told.1;
  }
    where
      p : IsInPlace (setup_in s) plain names history left tasks pass c OfTally call
      p = in_place (setup_in s) plain names history left tasks pass c OfTally call there

      untold : is_told call ≡ false
      untold = ap (λ a. is_event a call.told.reply) asks ∙ is.untold call.told.reply

      told : TallyMachine p.here.object look call.told.reply p.here.object × (is_spent call.told.reply ≡ false)
      told = is.serves p.here p.next call.told.reply call.told.drawn
          (subst (λ a. StepOf things.TallyServes things.TallyLooks p.here a call.told.reply call.told.drawn p.next) asks p.answers.step)

  -- a look that lets a task ask
  pub lets_ask : (place : ℕ) (task : Returned) → slice_get tasks place ≡ Some task → (before : List Call) → ((x : Call) → Contains before x → Contains task.log x)
      → (now : TaskState) (call : Call) (n : ℕ) → call.told.drawn ≡ Some n → (look : Option Request) → look_of now ≡ look → Looked before now call look
      → LetsAsk s ledger (history_of OfTally (event_histories names history)) n now look
  lets_ask place task at before inside now call n ticket None is looked = tt
  lets_ask place task at before inside now call n ticket (Some look) is (seen, there, asks, may, less) = (
    was.was,
    All-weaker (λ (x : Ticketed). x.ticket ≤ seen.told.note) (λ (x : Ticketed). x.ticket < n) (λ x le. omega (arith, le, above)) was.was.seen was.few,
    seen.told.reply,
    subst (λ a. TallyMachine was.was.shown a seen.told.reply was.was.shown) asks was.serves,
    may,
  )
    where
      look_is : AsksTally look
      look_is = asks_tally now look is

      in_history : Contains (history OfTally) seen
      in_history = subst (λ o. Contains (history o) seen) (ap object_of asks ∙ look_is.tally) (kept (setup_in s) plain names history left tasks pass c place task at seen (inside seen there))

      was : IsSeen seen
      was = seen_then seen look asks look_is in_history

      above : seen.told.note < n
      above = subst (λ t. IfSome t (λ m. seen.told.note < m)) ticket (less was.found)
