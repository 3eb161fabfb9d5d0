-- No task was refused: up to its last call the histories show a run, and no run goes on so.
use Rattle.std.proofs.Common.{◌≡◌, ◌<◌, ◌≤◌, ◌++◌, ℕ, true, List, [], ◌∷◌, length, inl, inr, refl, sym, ◌∙◌, ap, subst, arith}
use Rattle.std.specs.Prelude.{nat_lt}
use Rattle.std.proofs.lemmas.Bool.{true≢false}
use Rattle.std.proofs.lemmas.List.{append-nil}
use Rattle.std.proofs.lemmas.List.Elements.{All-weaker, filter-append}
use Rattle.elem_ledger.specs.Ledger.{LedgerId}
use Rattle.run_machine.specs.declared.event.Event.{Event}
use Rattle.run_machine.specs.Laws.{Object, OfTally, object_of}
use Rattle.run_machine.specs.Maps.{upd}
use Rattle.run_machine.specs.Objects.{Objects, Serves}
use Rattle.run_machine.specs.Opened.{Scenario, scene, start, setup_in, opened_tasks}
use Rattle.run_machine.specs.Requests.{Request, Reply}
use Rattle.run_machine.specs.Runs.{State, IsLet, Steps}
use Rattle.run_machine.specs.Tasks.{TaskState, request, look_of, answered, is_broken}
use Rattle.run_machine.proofs.Frames.{upd_same}
use Rattle.block_core.specs.Replies.{IsEventOrNothing}
use Rattle.block_core.specs.Runnable.{IsRunnable}
use Rattle.block_core.specs.Scenarios.{IsNaming}
use Rattle.block_core.proofs.unrefused.AnswersInRuns.{replies_are_events}
use Rattle.block_core.proofs.unrefused.Unbroken.{no_task_breaks}
use Rattle.shared_objects.specs.Calls.{struck}
use Rattle.run_merge.specs.Closing.{WasRefused}
use Rattle.run_merge.specs.Entries.{Entry}
use Rattle.run_merge.specs.Machines.{ServesAt, LeadsObject}
use Rattle.run_merge.specs.Merging.{Ticketed, Histories, without_tickets, sorted_by_ticket, all_of, history_of, done_by, LetsAsk, Shown}
use Rattle.run_merge.specs.ObjectsByName.{StateAt, object_named, put_object}
use Rattle.run_merge.specs.Products.{EntriesLead, AreOfRun, task_behind_entries, task_behind}
use Rattle.run_merge.proofs.closing.RunUpTo.{early_histories, history_early, lets_early, then_state, then_task, shown_early, shown_put}
use Rattle.run_merge.proofs.merging.MergeIsRun.{still_let, merge_runs}
use Rattle.run_merge.proofs.merging.TicketOrder.{early, early_all, early_none}
use Rattle.run_merge.proofs.products.StateBehind.{behind_run, one_event}
use Rattle.run_merge.proofs.products.ProductIsRun.{is_inside}
use Rattle.run_merge.proofs.products.ObjectNames.{named_put}
use Rattle.run_merge.proofs.products.Served.{serves_all, struck_serves}

-- a task that was let ask would break off with this reply of its object
record WouldBreak (s : Scenario) (ledger : ℕ → LedgerId) (hs : Histories) (state : State) (place ticket : ℕ) (asked : Request) (reply : Reply) : Type 0 where
  object : StateAt (object_of asked)
  asks : asked ≡ struck (request (setup_in s) (state.task place))
  serves : ServesAt ledger (object_of asked) (object_named state.objects (object_of asked)) asked reply object
  looked : LetsAsk s ledger (history_of OfTally hs) ticket (state.task place) (look_of (state.task place))
  broken : is_broken (answered (setup_in s) (state.task place) reply) ≡ true

module _ (s : Scenario) (ledger : ℕ → LedgerId) (good : IsRunnable s) (naming : IsNaming ledger) where
  module _ (hs : Histories) (state : State) (shown : Shown s ledger hs state) (place ticket : ℕ) (asked : Request) (reply : Reply)
      (bad : WouldBreak s ledger hs state place ticket asked reply) where
    reached : AreOfRun s ledger (without_tickets (sorted_by_ticket (all_of hs))) state
    reached = merge_runs s ledger good.scenario naming hs state shown

    abbrev new : Objects
    new = put_object state.objects (object_of asked) bad.object

    serves : Serves ledger state.objects (request (setup_in s) (state.task place)) reply new
    serves = struck_serves ledger state.objects (request (setup_in s) (state.task place)) reply new
        (subst (λ r. Serves ledger state.objects r reply new) bad.asks (serves_all ledger state.objects asked reply bad.object bad.serves))

    inside : place < length (opened_tasks s)
    inside = is_inside s ledger good.scenario naming (without_tickets (sorted_by_ticket (all_of hs))) state (behind_run s ledger (without_tickets (sorted_by_ticket (all_of hs))) state reached)
        place asked reply bad.object bad.asks bad.serves

    is_let : IsLet ledger state.objects (state.task place) (look_of (state.task place))
    is_let =
        still_let s ledger good.scenario naming hs state shown (without_tickets (sorted_by_ticket (all_of hs))) state reached ticket (sorted_by_ticket (all_of hs)) []
        (sym (append-nil (sorted_by_ticket (all_of hs)))) tt refl place (state.task place) refl bad.looked

    abbrev next : State
    next = record { objects = new; task = upd state.task place (answered (setup_in s) (state.task place) reply) }

    by_event : (event : Event) → Steps (scene s ledger) state place event next → ⊥
    by_event event steps =
        let more = one_event (scene s ledger) (start s) reached.0 state reached.1 place event next steps in
        let whole = no_task_breaks s ledger more.0 next good.scenario good.allowed naming more.1 in
        let same : next.task place ≡ answered (setup_in s) (state.task place) reply = upd_same state.task place (answered (setup_in s) (state.task place) reply) in
        true≢false (sym bad.broken ∙ ap is_broken (sym same) ∙ whole.tasks place)

    by_still : answered (setup_in s) (state.task place) reply ≡ state.task place → ⊥
    by_still still =
        let whole = no_task_breaks s ledger reached.0 state good.scenario good.allowed naming reached.1 in
        true≢false (sym bad.broken ∙ ap is_broken still ∙ whole.tasks place)

    none_breaks : ⊥
    none_breaks = by_two (replies_are_events s ledger reached.0 state good.scenario good.allowed naming reached.1 place inside is_let reply new serves)
      where
        by_two : IsEventOrNothing (scene s ledger) state place reply new → ⊥
        by_two (inl (event, steps)) = by_event event steps
        by_two (inr (same, still)) = by_still still

  led_is : (es : List Entry) (t x : TaskState) → EntriesLead (setup_in s) t es x → x ≡ task_behind_entries (setup_in s) t es
  led_is [] t x leads = leads
  led_is (e ∷ es) t x leads = led_is es (answered (setup_in s) t e.reply) x leads.1

  pub not_refused : (hs : Histories) (left : State) → Shown s ledger hs left → (place : ℕ) (now : TaskState) → WasRefused s ledger hs place (left.task place) now → ⊥
  not_refused hs left shown place now r =
      none_breaks first at_call shown_call place r.ticket r.asked r.reply (record {
        object = r.object;
        asks = r.asks ∙ ap (λ x. struck (request (setup_in s) x)) task_is;
        serves = subst (λ o. ServesAt ledger name o r.asked r.reply r.object) (sym (named_put earlier.objects name r.object)) r.serves;
        looked = subst (λ l. LetsAsk s ledger l r.ticket (at_call.task place) (look_of (at_call.task place))) (sym (history_early r.ticket OfTally hs))
            (lets_early r.ticket s ledger (history_of OfTally hs) r.ticket (at_call.task place) (look_of (at_call.task place)) (omega arith)
            (subst (λ (x : TaskState). LetsAsk s ledger (history_of OfTally hs) r.ticket x (look_of x)) task_is r.looked));
        broken = ap (λ x. is_broken (answered (setup_in s) x r.reply)) (sym task_is) ∙ ap is_broken (sym r.goes_on) ∙ r.broken;
      })
    where
      name : Object
      name = object_of r.asked

      first : Histories
      first = early_histories r.ticket hs

      earlier : State
      earlier = then_state r.ticket s ledger hs left shown

      at_call : State
      at_call = record earlier { objects = put_object earlier.objects name r.object }

      history_is : history_of name (early_histories r.ticket hs) ≡ r.before
      history_is =
          history_early r.ticket name hs ∙ ap (early r.ticket) r.history ∙ filter-append (λ (n : Ticketed). nat_lt n.ticket r.ticket) r.before r.later
          ∙ ap (λ l. l ++ early r.ticket r.later) (early_all r.ticket r.before r.smaller)
          ∙ ap (λ l. r.before ++ l) (early_none r.ticket r.later (All-weaker (λ (n : Ticketed). r.ticket < n.ticket) (λ (n : Ticketed). r.ticket ≤ n.ticket) (λ n lt. omega (arith, lt)) r.later r.greater))
          ∙ append-nil r.before

      shown_call : Shown s ledger (early_histories r.ticket hs) (record (then_state r.ticket s ledger hs left shown) { objects = put_object (then_state r.ticket s ledger hs left shown).objects name r.object })
      shown_call = shown_put s ledger (early_histories r.ticket hs) (then_state r.ticket s ledger hs left shown) (shown_early r.ticket s ledger hs left shown) name r.object
          (subst (λ l. LeadsObject ledger name (object_named (start s).objects name) (without_tickets l) r.object) (sym history_is) r.leads)

      task_is : left.task place ≡ (then_state r.ticket s ledger hs left shown).task place
      task_is =
          led_is (without_tickets (done_by place hs)) ((start s).task place) (left.task place) (shown.tasks place)
          ∙ ap (λ l. task_behind s place (without_tickets l)) (sym (early_all r.ticket (done_by place hs) r.mine))
          ∙ sym (then_task r.ticket s ledger hs left shown place)
