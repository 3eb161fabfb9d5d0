-- The merge of histories is the entries of a run.
use Rattle.std.proofs.Common.{◌≡◌, ◌<◌, ◌==◌, ◌++◌, cond, ℕ, List, [], ◌∷◌, filter, refl, sym, ◌∙◌, ap, subst, arith}
use Rattle.std.specs.Prelude.{IsTrue, All, sum}
use Rattle.std.proofs.lemmas.Bool.{eq-eqb, eqb-true, le-leb, leb-true}
use Rattle.std.proofs.lemmas.List.{map-append}
use Rattle.std.proofs.lemmas.List.Elements.{All-map, filter-append}
use Rattle.elem_ledger.specs.Ledger.{LedgerId}
use Rattle.run_machine.specs.Laws.{OfTally, object_of}
use Rattle.run_machine.specs.Submissions.{Doing, Rests}
use Rattle.run_machine.specs.Opened.{Scenario, scene, start, setup_in}
use Rattle.run_machine.specs.Requests.{Present, LeftOver}
use Rattle.run_machine.specs.Runs.{State, IsLet}
use Rattle.run_machine.specs.Tasks.{TaskState, Writer, Rescuer, Completer, Keeper, Keeps, Stops, Todo, Gathered, NoBio, request, look_of, writer_look, later_of}
use Rattle.block_core.specs.Scenarios.{IsScenario, IsNaming}
use Rattle.shared_objects.specs.Calls.{is_same_object, struck}
use Rattle.shared_objects.specs.Logs.{is_event}
use Rattle.run_merge.specs.Entries.{Entry, entries_in}
use Rattle.run_merge.specs.Machines.{LeadsObject, entries_at}
use Rattle.run_merge.specs.ObjectsByName.{object_named}
use Rattle.run_merge.specs.Products.{EntriesLead, entries_by, task_behind, AreOfRun}
use Rattle.run_merge.specs.Merging.{Ticketed, Histories, without_tickets, sorted_by_ticket, all_of, history_of, done_by, TallyThen, LetsAsk, Shown, MergesAreRuns}
use Rattle.run_merge.proofs.merging.Picked.{is_at, is_by, entries_filter, merge_at, merge_by, merge_entries_at, merge_entries_by}
use Rattle.run_merge.proofs.merging.TwoParts.{cut, object_split, task_split, smaller_first}
use Rattle.run_merge.proofs.merging.TallyAlone.{IsLaterTally, from_there}
use Rattle.run_merge.proofs.merging.TicketOrder.{Ordered, sorted_ordered, all_sorted, ordered_filter, ordered_split}
use Rattle.run_merge.proofs.products.StateBehind.{at_start, behind_run}
use Rattle.run_merge.proofs.products.KnownBehind.{RoundsKnown, rounds_known}
use Rattle.run_merge.proofs.products.ProductIsRun.{leads}
use Rattle.run_merge.proofs.products.LookLets.{ComesBehind, comes_by}
use Rattle.run_merge.proofs.products.RunIsProduct.{run_objects}

module _ (s : Scenario) (ledger : ℕ → LedgerId) (good : IsScenario s) (naming : IsNaming ledger) (hs : Histories) (last : State) (shown : Shown s ledger hs last) where
  merged : List Ticketed
  merged = sorted_by_ticket (all_of hs)

  -- What a task saw of the tally still lets it ask when it draws its ticket: the tally that it saw is an earlier one.
  module _ (between : List Entry) (state : State) (reached : AreOfRun s ledger between state) (ticket : ℕ) (before after : List Ticketed)
      (all : sorted_by_ticket (all_of hs) ≡ before ++ after) (above : Ordered ticket after) (entries : without_tickets before ≡ between) where
    is_later : (was : TallyThen s ledger (history_of OfTally hs)) → All (λ (n : Ticketed). n.ticket < ticket) was.seen → IsLaterTally was.shown state.objects.tally
    is_later was few =
        let history : filter (is_at OfTally) before ++ filter (is_at OfTally) after ≡ was.seen ++ was.later =
        sym (filter-append (is_at OfTally) before after) ∙ ap (filter (is_at OfTally)) (sym all)
        ∙ merge_at hs shown.apart shown.tagged shown.rises OfTally ∙ was.history in
        let more = smaller_first ticket (filter (is_at OfTally) before) (filter (is_at OfTally) after) was.seen was.later history
        (ordered_filter (is_at OfTally) ticket after above) few in
        let own : entries_at OfTally (entries_in (scene s ledger) (start s) reached.0 state reached.1) ≡ without_tickets was.seen ++ without_tickets more.0 =
        ap (entries_at OfTally) (reached.2 ∙ sym entries) ∙ entries_filter (λ (e : Entry). is_same_object OfTally (object_of e.asked)) before
        ∙ ap without_tickets more.1 ∙ map-append (λ (n : Ticketed). n.entry) was.seen more.0 in
        let run = subst (λ l. LeadsObject ledger OfTally (start s).objects.tally l state.objects.tally) own
        (run_objects (scene s ledger) OfTally (start s) reached.0 state reached.1) in
        let parts = object_split ledger OfTally (without_tickets was.seen) (without_tickets more.0) (start s).objects.tally state.objects.tally run in
        from_there ledger (without_tickets was.seen) (without_tickets more.0) (start s).objects.tally parts.0 was.shown state.objects.tally parts.1 was.leads parts.2

    k : RoundsKnown s between state
    k = rounds_known s ledger good naming between state reached

    pub still_let : (place : ℕ) (x : TaskState) → state.task place ≡ x → LetsAsk s ledger (history_of OfTally hs) ticket x (look_of x) → IsLet ledger state.objects x (look_of x)
    -- writers: the round is the one that was seen, or a later one
    still_let place (Writer number todo taken submission) at looked = by_writer todo taken submission.doing looked
      where
        by_writer : (todo : List Todo) (taken : Gathered) (doing : Doing)
            → LetsAsk s ledger (history_of OfTally hs) ticket (Writer number todo taken submission) (writer_look todo taken doing)
            → IsLet ledger state.objects (Writer number todo taken submission) (writer_look todo taken doing)
        by_writer [] taken doing looked = tt
        by_writer (todo ∷ later) NoBio Rests (was, few, Present now, serves, le) =
            let l = is_later was few in
            let small = leb-true todo.round now le in
            let seen = serves.0 in
            (Present state.objects.tally.round, (refl, refl), le-leb todo.round state.objects.tally.round (omega (arith, small, seen, l.round)))
        by_writer (todo ∷ later) NoBio Rests (was, few, reply, serves, le) = absurd serves
        by_writer (todo ∷ later) NoBio doing looked = tt
        by_writer (todo ∷ later) taken doing looked = tt
    -- rescuers and completers look at nothing
    still_let place (Rescuer dev submission) at looked = tt
    still_let place (Completer disk carried) at looked = tt
    -- the keeper: no more writes are unfinished than it saw
    still_let place (Keeper (Keeps [])) at looked = tt
    still_let place (Keeper (Keeps (duty ∷ duties))) at (was, few, LeftOver many, serves, same) =
        let l = is_later was few in
        let enough = eqb-true many (later_of duty) same in
        let seen = serves.0 in
        let later = k.duties place duty duties at in
        let sums = k.sums in
        let left : sum state.objects.tally.left ≡ later_of duty = omega (arith, l.left, enough, seen, later, sums) in
        (LeftOver (sum state.objects.tally.left), (refl, refl), eq-eqb (sum state.objects.tally.left) (later_of duty) left)
    still_let place (Keeper (Keeps (duty ∷ duties))) at (was, few, reply, serves, same) = absurd serves
    still_let place (Keeper (Stops breach)) at looked = tt

  -- so its entry stands behind all that it has to
  comes_here : (between : List Entry) (state : State) (reached : AreOfRun s ledger between state) (before after : List Ticketed) (here : Ticketed)
      → sorted_by_ticket (all_of hs) ≡ before ++ here ∷ after → without_tickets before ≡ between → ComesBehind s between (state.task here.entry.place) here.entry.asked
  comes_here between state reached before after here all entries =
      let place = here.entry.place in
      let mine = filter (is_by place) before in
      let own : done_by place hs ≡ mine ++ here ∷ filter (is_by place) after =
      sym (merge_by hs place) ∙ ap (filter (is_by place)) all ∙ filter-append (is_by place) before (here ∷ after)
      ∙ ap (λ b. filter (is_by place) before ++ cond b (here ∷ filter (is_by place) after) (filter (is_by place) after)) (eq-eqb place place refl) in
      let b = behind_run s ledger between state reached in
      let task = task_behind s place (without_tickets mine) in
      let task_is : state.task place ≡ task =
      b.mine place ∙ ap (task_behind s place) (ap (entries_by place) (sym entries) ∙ entries_filter (λ (e : Entry). place == e.place) before) in
      let led = subst (λ l. EntriesLead (setup_in s) ((start s).task place) l (last.task place))
      (ap without_tickets own ∙ map-append (λ (n : Ticketed). n.entry) mine (here ∷ filter (is_by place) after)) (shown.tasks place) in
      let asks : here.entry.asked ≡ struck (request (setup_in s) task) =
      (task_split (setup_in s) (without_tickets mine) (here.entry ∷ without_tickets (filter (is_by place) after)) ((start s).task place) (last.task place) led).1.0 in
      let above = (ordered_split 0 before (here ∷ after) (subst (Ordered 0) all (sorted_ordered (all_of hs)))).1.1 in
      let may = still_let between state reached here.ticket before (here ∷ after) all (omega arith, above) entries place task task_is
      (shown.looks place mine (filter (is_by place) after) here own) in
      let comes = comes_by s ledger between state (rounds_known s ledger good naming between state reached) b.count place task task_is may in
      subst (λ (x : TaskState). ComesBehind s between x here.entry.asked) (sym task_is) (subst (ComesBehind s between task) (sym asks) comes)

  comes : (between after : List Entry) (e : Entry) → without_tickets (sorted_by_ticket (all_of hs)) ≡ between ++ e ∷ after → (state : State) → AreOfRun s ledger between state
      → ComesBehind s between (state.task e.place) e.asked
  comes between after e is state reached =
      let c = cut (sorted_by_ticket (all_of hs)) between after e is in
      subst (λ (x : Entry). ComesBehind s between (state.task x.place) x.asked) c.entry (comes_here between state reached c.before c.after c.here c.all c.entries)

  pub merge_runs : AreOfRun s ledger (without_tickets (sorted_by_ticket (all_of hs))) last
  merge_runs =
      leads s ledger good naming [] (without_tickets (sorted_by_ticket (all_of hs))) (start s) last (at_start s ledger)
      (All-map (λ (e : Entry). IsTrue (is_event e.asked e.reply)) (λ (n : Ticketed). n.entry) (sorted_by_ticket (all_of hs))
      (all_sorted (λ (n : Ticketed). IsTrue (is_event n.entry.asked n.entry.reply)) (all_of hs) shown.events))
      (λ name. subst (λ l. LeadsObject ledger name (object_named (start s).objects name) l (object_named last.objects name)) (sym (merge_entries_at hs shown.apart shown.tagged shown.rises name)) (shown.objects name))
      (λ place. subst (λ l. EntriesLead (setup_in s) ((start s).task place) l (last.task place)) (sym (merge_entries_by hs place)) (shown.tasks place))
      comes

pub merges_are_runs : MergesAreRuns
merges_are_runs s ledger histories last good naming shown = merge_runs s ledger good naming histories last shown
