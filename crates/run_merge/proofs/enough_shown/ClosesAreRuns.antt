-- What a close of shared objects shows is enough for an ended run.
use Rattle.std.proofs.Common.{◌≡◌, ◌⊎◌, ◌+◌, ◌<◌, ◌≤◌, ◌++◌, cond, ℕ, Bool, true, false, List, [], ◌∷◌, Option, None, Some, length, inl, inr, refl, sym, ◌∙◌, ap, subst, arith, get_or}
use Rattle.std.specs.Option.{is_some, option_map_or}
use Rattle.std.specs.Prelude.{All, Contains, map, find, slice_get}
use Rattle.std.specs.List.{list_any}
use Rattle.std.proofs.lemmas.Bool.{true≢false, le-ltb, ne_eqb}
use Rattle.std.proofs.lemmas.List.Elements.{All-head, All-tail, All-nil, All-weaker, Contains-append_left, Contains-append_right}
use Rattle.std.proofs.lemmas.Option.{slice_get_cases}
use Rattle.stack_base.specs.declared.ids.DevId.{DevId}
use Rattle.stack_base.proofs.ListLemmas.{first_or, behind_first}
use Rattle.bio_records.specs.Rescue.{Rescue}
use Rattle.seat_lock.specs.History.{indicator, count, calls_by}
use Rattle.seat_lock.proofs.Histories.{count_one}
use Rattle.tick_clock.specs.Tickets.{PassState, ticket_numbers}
use Rattle.run_machine.specs.Laws.{Object, OfPool, OfRescuer, OfDisk, OfBook, OfTally, OfNone, object_of}
use Rattle.run_machine.specs.Objects.{Objects, TallyState}
use Rattle.run_machine.specs.Opened.{Scenario, device_at, setup_in, start, no_task}
use Rattle.run_machine.specs.Opened as opened
use Rattle.run_machine.specs.Runs.{State}
use Rattle.run_machine.specs.Tasks.{TaskState, look_of, is_broken}
use Rattle.task_core.specs.declared.plain.Plain.{Plain}
use Rattle.task_core.specs.Plains.{list_number, objects_of, stage_of}
use Rattle.task_core.specs.Tables.{is_entry_of}
use Rattle.task_core.specs.opened.OfOne.{scenario_in}
use Rattle.block_core.proofs.claim.Runnable.{accepted_texts_are_runnable}
use Rattle.object_things.specs.Histories.{Call, drawn_in, or_last}
use Rattle.object_things.specs.Stamps.{ThingState}
use Rattle.shared_objects.specs.Calls.{is_same_object}
use Rattle.shared_objects.specs.Closes.{Returned, ClosesAs}
use Rattle.shared_objects.specs.Kinds.{ThingAt, opened_at, unasked}
use Rattle.shared_objects.specs.Logs.{LogLeads}
use Rattle.shared_objects.specs.Passes.{found_by}
use Rattle.shared_objects.proofs.tickets.TicketsOfCalls.{in_row, keeps}
use Rattle.shared_objects.proofs.tickets.CallOwners.{logged}
use Rattle.run_merge.specs.Closing.{IsThrough, WasRefused, HasLast, IsClosed, MergeIsEndedRun}
use Rattle.run_merge.specs.Machines.{LeadsObject}
use Rattle.run_merge.specs.Merging.{Ticketed, RiseFrom, without_tickets, history_of, done_by, LetsAsk, Shown}
use Rattle.run_merge.specs.ObjectsByName.{object_named, made_of}
use Rattle.run_merge.specs.Products.{EntriesLead, task_behind_entries, task_behind}
use Rattle.run_merge.specs.SharedObjects.{seen_at, tasks_left, state_left, ClosesAreRuns}
use Rattle.run_merge.proofs.Fronts.{has_some}
use Rattle.run_merge.proofs.enough_shown.TaskCounts.{walked, first_is, done_at, rounds_few, few_drawn, image_at, image_none}
use Rattle.run_merge.proofs.enough_shown.DrewEvents.{drew_as_events}
use Rattle.run_merge.proofs.enough_shown.CallTickets.{events_told, events_untold, rises_events}
use Rattle.run_merge.proofs.enough_shown.CallEvents.{drawn_entry, ticketed_events, event_histories, histories_are}
use Rattle.run_merge.proofs.enough_shown.TallyLooks.{lets_ask}
use Rattle.run_merge.proofs.enough_shown.CallEntries.{history_is, all_events, are_apart, are_tagged}
use Rattle.run_merge.proofs.enough_shown.ObjectHistories.{told_drew, history_shows, IsReady, object_leads}
use Rattle.run_merge.proofs.enough_shown.CalledObjects.{ask_some}
use Rattle.run_merge.proofs.enough_shown.RoundsStarted.{rounds_there}
use Rattle.run_merge.proofs.enough_shown.SortedByTicket.{done_is}
use Rattle.run_merge.proofs.enough_shown.TaskEnds.{object_last, log_drew, comes_to}
use Rattle.run_merge.proofs.enough_shown.LogLeads.{is_told, AskSome, Walked, looks_there}
use Rattle.run_merge.proofs.closing.ClosedRunsEnd.{closed_runs_end}
use Rattle.run_merge.proofs.products.ObjectNames.{named_made}

-- a log where one of its events stands
record IsCutAt (log : List Call) (mine : List Ticketed) (n : Ticketed) : Type 0 where
  before : List Call
  call : Call
  after : List Call
  is : log ≡ before ++ call ∷ after
  events : ticketed_events before ≡ mine
  here : drawn_entry call ≡ n
  told : is_told call ≡ true

cut_at : (log : List Call) (mine rest : List Ticketed) (n : Ticketed) → ticketed_events log ≡ mine ++ n ∷ rest → IsCutAt log mine n
cut_at [] [] rest n is = absurd (true≢false (sym (ap has_some is)))
cut_at [] (m ∷ mine) rest n is = absurd (true≢false (sym (ap has_some is)))
cut_at (call ∷ calls) mine rest n is = by_told (is_told call) refl (λ ms e. cut_at calls ms rest n e)
  where
    told_so : is_told call ≡ true → (ms : List Ticketed) → drawn_entry call ∷ ticketed_events calls ≡ ms ++ n ∷ rest
        → ((l : List Ticketed) → ticketed_events calls ≡ l ++ n ∷ rest → IsCutAt calls l n) → IsCutAt (call ∷ calls) ms n
    told_so told [] e more = record { before = []; call = call; after = calls; is = refl; events = refl; here = ap (first_or n) e; told = told }
    told_so told (m ∷ ms) e more =
        let r = more ms (ap behind_first e) in
        let head : drawn_entry call ≡ m = ap (first_or m) e in
        record {
          before = call ∷ r.before;
          call = r.call;
          after = r.after;
          is = ap (λ l. call ∷ l) r.is;
          events = events_told call r.before told ∙ (λ i. head i ∷ r.events i);
          here = r.here;
          told = r.told;
        }

    by_told : (b : Bool) → is_told call ≡ b → ((l : List Ticketed) → ticketed_events calls ≡ l ++ n ∷ rest → IsCutAt calls l n) → IsCutAt (call ∷ calls) mine n
    by_told true told more = told_so told mine (sym (events_told call calls told) ∙ is) more
    by_told false not_told more =
        let r = more mine (sym (events_untold call calls not_told) ∙ is) in
        record {
          before = call ∷ r.before;
          call = r.call;
          after = r.after;
          is = ap (λ l. call ∷ l) r.is;
          events = events_untold call r.before not_told ∙ r.events;
          here = r.here;
          told = r.told;
        }

ticket_is : (ticket : Option ℕ) → is_some ticket ≡ true → ticket ≡ Some (or_last 0 ticket)
ticket_is None has = absurd (true≢false (sym has))
ticket_is (Some n) has = refl

-- no seat has a number behind the last task's
none_by : (place : ℕ) (calls : List Call) → All (λ (call : Call). call.by < place + 1) calls → calls_by ((place + 1) ∷ []) calls ≡ []
none_by place [] less = refl
none_by place (call ∷ calls) less =
    let lt = All-head (λ (call : Call). call.by < place + 1) call calls less in
    let zero_of : count call.by ((place + 1) ∷ []) ≡ 0 = count_one call.by (place + 1) ∙ ap indicator (ne_eqb (place + 1) call.by (λ same. omega (arith, same, lt))) in
    ap (λ b. cond b (call ∷ calls_by ((place + 1) ∷ []) calls) (calls_by ((place + 1) ∷ []) calls)) (le-ltb 0 (count call.by ((place + 1) ∷ [])) (omega (arith, zero_of)))
    ∙ none_by place calls (All-tail (λ (call : Call). call.by < place + 1) call calls less)

-- objects as they are opened
list_bios : (found : Option (DevId × Rescue)) (dev : ℕ)
    → option_map_or (λ (entry : DevId × Rescue). entry.1.bios) found [] ≡ (option_map_or (λ (entry : DevId × Rescue). entry.1) found (record { dev = device_at dev; bios = [] })).bios
list_bios None dev = refl
list_bios (Some entry) dev = refl

opened_is : (plain : Plain) (name : Object) → object_named (objects_of plain) name ≡ seen_at name (opened_at plain name)
opened_is plain (OfPool number) = refl
opened_is plain (OfRescuer dev) = list_bios (find (is_entry_of list_number dev) plain.lists.items) dev
opened_is plain (OfDisk dev) = refl
opened_is plain (OfBook writer) = refl
opened_is plain OfTally = refl
opened_is plain OfNone = refl

module _ (s : Scenario) (plain : Plain) (names : List Object) (history : Object → List Call) (left : (name : Object) → ThingState (ThingAt name)) (tasks : List Returned)
    (pass : PassState) (c : ClosesAs (setup_in s) plain names history left tasks pass) (firsts : map (λ (task : Returned). task.first) tasks ≡ opened.opened_tasks s)
    (begins : (name : Object) → object_named (start s).objects name ≡ seen_at name (opened_at plain name))
    (found : All (λ (task : Returned). found_by task.desk.pass ≤ pass.known) tasks) where
  ready : (name : Object) → IsReady (stage_of plain).ledger name (opened_at plain name) (drawn_in (history name))
  ready (OfPool number) = refl
  ready (OfRescuer dev) = tt
  ready (OfDisk dev) = tt
  ready (OfBook writer) = tt
  ready OfTally =
      let round = ap (λ (tally : TallyState). tally.round) (begins OfTally) in
      let rounds = ap (λ (tally : TallyState). length tally.left) (begins OfTally) in
      let there = rounds_there s in
      let few = rounds_few s plain names history left tasks pass c firsts in
      omega (arith, round, rounds, there, few)
  ready OfNone = tt

  run : (name : Object) → (last : ThingAt name)
      × LeadsObject (stage_of plain).ledger name (seen_at name (opened_at plain name)) (without_tickets (ticketed_events (history name))) (seen_at name last)
      × ((left name).spent ≡ false → last ≡ (left name).object)
  run name = object_leads (stage_of plain).ledger name (history name) (unasked (opened_at plain name)) (left name) (ready name) (c.things name)

  -- what is shown of the task at each place
  record IsShownAt (place : ℕ) : Type 0 where
    now : TaskState
    leads : EntriesLead (setup_in s) ((start s).task place) (without_tickets (done_by place (event_histories names history))) now
    looks : (mine rest : List Ticketed) (n : Ticketed) → done_by place (event_histories names history) ≡ mine ++ n ∷ rest
        → let task = task_behind s place (without_tickets mine) in LetsAsk s (stage_of plain).ledger (history_of OfTally (event_histories names history)) n.ticket task (look_of task)
    comes : ((get_or (tasks_left tasks) place no_task ≡ now) × IsThrough s (stage_of plain).ledger (event_histories names history) now)
        ⊎ (WasRefused s (stage_of plain).ledger (event_histories names history) place now (get_or (tasks_left tasks) place no_task) ⊎ HasLast (ticket_numbers pass.drawn))

  shown_task : (place : ℕ) (task : Returned) → slice_get tasks place ≡ Some task → IsShownAt place
  shown_task place task at = record {
    now = w.now;
    leads = subst (λ t. EntriesLead (setup_in s) t (without_tickets (done_by place (event_histories names history))) w.now) (sym first)
        (subst (λ ns. EntriesLead (setup_in s) task.first (without_tickets ns) w.now) (sym done) w.leads);
    looks = λ mine rest n is. by_cut mine n (cut_at task.log mine rest n (sym done ∙ is));
    comes = subst (λ t. ((t ≡ w.now) × IsThrough s (stage_of plain).ledger (event_histories names history) w.now)
        ⊎ (WasRefused s (stage_of plain).ledger (event_histories names history) place w.now t ⊎ HasLast (ticket_numbers pass.drawn)))
        (sym (image_at (λ (task : Returned). task.task) no_task tasks place task at))
        (comes_to s plain names history left tasks pass c (stage_of plain).ledger begins ready found place task at done w.now w.end);
  }
    where
      w : Walked (setup_in s) [] task.first task.log task.task
      w = walked s plain names history left tasks pass c firsts place task at

      first : (start s).task place ≡ task.first
      first = first_is s plain names history left tasks pass c firsts place task at

      done : done_by place (event_histories names history) ≡ ticketed_events task.log
      done = done_at s plain names history left tasks pass c firsts place task at

      by_cut : (mine : List Ticketed) (n : Ticketed) → IsCutAt task.log mine n
          → let task = task_behind s place (without_tickets mine) in LetsAsk s (stage_of plain).ledger (history_of OfTally (event_histories names history)) n.ticket task (look_of task)
      by_cut mine n cut =
          let within : Contains task.log cut.call = subst (λ l. Contains l cut.call) (sym cut.is) (Contains-append_right cut.before (cut.call ∷ cut.after) cut.call (0, omega arith, refl)) in
          let led = λ (t : TaskState) (ns : List Ticketed). task_behind_entries (setup_in s) t (without_tickets ns) in
          let looked = looks_there (setup_in s) [] task.first cut.before cut.after cut.call task.task cut.told
          (subst AskSome cut.is (ask_some s plain names history left tasks pass c place task at))
          (subst (λ l. LogLeads (setup_in s) [] task.first l task.task) cut.is (logged (setup_in s) plain names history left tasks pass c place task at).0.leads) in
          let has = log_drew s plain names history left tasks pass c (stage_of plain).ledger begins ready found place task at cut.call within cut.told in
          let lets = lets_ask s plain names history left tasks pass c (stage_of plain).ledger begins ready place task at cut.before
          (λ x inside. subst (λ l. Contains l x) (sym cut.is) (Contains-append_left cut.before (cut.call ∷ cut.after) x inside))
          (led task.first (ticketed_events cut.before)) cut.call (or_last 0 cut.call.told.drawn) (ticket_is cut.call.told.drawn has)
          (look_of (led task.first (ticketed_events cut.before))) refl looked in
          subst (λ t. LetsAsk s (stage_of plain).ledger (history_of OfTally (event_histories names history)) n.ticket (led t mine) (look_of (led t mine))) (sym first)
          (subst (λ ns. LetsAsk s (stage_of plain).ledger (history_of OfTally (event_histories names history)) n.ticket (led task.first ns) (look_of (led task.first ns))) cut.events
          (subst (λ (x : Ticketed). LetsAsk s (stage_of plain).ledger (history_of OfTally (event_histories names history)) x.ticket (led task.first (ticketed_events cut.before)) (look_of (led task.first (ticketed_events cut.before)))) cut.here lets))

  shown_none : (place : ℕ) → length tasks ≤ place → IsShownAt place
  shown_none place le = record {
    now = no_task;
    leads = subst (λ ns. EntriesLead (setup_in s) ((start s).task place) (without_tickets ns) no_task) (sym done) (sym first);
    looks = λ mine rest n is. nothing n rest mine (sym done ∙ is);
    comes = inl (image_none (λ (task : Returned). task.task) no_task tasks place le, inl refl);
  }
    where
      first : (start s).task place ≡ no_task
      first = ap (λ l. get_or l place no_task) (sym firsts) ∙ image_none (λ (task : Returned). task.first) no_task tasks place le

      done : done_by place (event_histories names history) ≡ []
      done = done_is names history place [] c.apart
          (λ name. All-weaker (λ (call : Call). (0 < call.by) × (call.by ≤ length tasks)) (λ (call : Call). 0 < call.by) (λ call h. h.0) (history name) (c.numbers name))
          (λ name. none_by place (history name)
          (All-weaker (λ (call : Call). (0 < call.by) × (call.by ≤ length tasks)) (λ (call : Call). call.by < place + 1)
          (λ call h. let lt = h.1 in omega (arith, lt, le)) (history name) (c.numbers name)))
          (All-nil (λ (n : Ticketed). list_any (λ name. is_same_object name (object_of n.entry.asked)) names ≡ true)) tt

      nothing : {X : Type 0} (n : Ticketed) (rest mine : List Ticketed) → [] ≡ mine ++ n ∷ rest → X
      nothing n rest [] is = absurd (true≢false (sym (ap has_some is)))
      nothing n rest (m ∷ mine) is = absurd (true≢false (sym (ap has_some is)))

  shown_at : (place : ℕ) → IsShownAt place
  shown_at place = by_two (slice_get_cases tasks place).1
    where
      by_two : ((x : Returned) × (place < length tasks) × (slice_get tasks place ≡ Some x) × (get_or tasks place x ≡ x)) ⊎ ((length tasks ≤ place) × (slice_get tasks place ≡ None)) → IsShownAt place
      by_two (inl (task, lt, at, same)) = shown_task place task at
      by_two (inr (le, none)) = shown_none place le

  reached : State
  reached = record { objects = made_of (λ name. seen_at name (run name).0); task = λ place. (shown_at place).now }

  shown : Shown s (stage_of plain).ledger (event_histories names history) reached
  unfolding reached
  shown = record {
    events = all_events history names;
    apart = are_apart history names c.apart;
    tagged = are_tagged history names c.named;
    rises = λ name. subst (RiseFrom 0) (sym (history_is history name names (c.others name)))
        (rises_events 0 (left name).note (history name) ((keeps name).rises (unasked (opened_at plain name)) (left name) (history name) (c.things name))
        (told_drew name (unasked (opened_at plain name)) (left name) (history name) (c.things name)));
    objects = λ name.
        subst (λ o. LeadsObject (stage_of plain).ledger name (object_named (start s).objects name) (without_tickets (history_of name (event_histories names history))) o)
        (sym (named_made (λ name. seen_at name (run name).0) name))
        (subst (λ ns. LeadsObject (stage_of plain).ledger name (object_named (start s).objects name) (without_tickets ns) (seen_at name (run name).0)) (sym (history_is history name names (c.others name)))
        (subst (λ o. LeadsObject (stage_of plain).ledger name o (without_tickets (ticketed_events (history name))) (seen_at name (run name).0)) (sym (begins name)) (run name).1));
    tasks = λ place. (shown_at place).leads;
    looks = λ place mine rest n is. (shown_at place).looks mine rest n is;
  }

  object_left : (name : Object) → (object_named (state_left left tasks).objects name ≡ object_named reached.objects name) ⊎ HasLast (ticket_numbers pass.drawn)
  unfolding reached
  object_left name = by_test (left name).spent refl
    where
      by_test : (b : Bool) → (left name).spent ≡ b
          → (object_named (made_of (λ name. seen_at name (left name).object)) name ≡ object_named (made_of (λ name. seen_at name (run name).0)) name) ⊎ HasLast (ticket_numbers pass.drawn)
      by_test true is = inr (object_last s plain names history left tasks pass c (stage_of plain).ledger begins ready found name is)
      by_test false is =
          inl (named_made (λ name. seen_at name (left name).object) name ∙ ap (seen_at name) (sym ((run name).2 is)) ∙ sym (named_made (λ name. seen_at name (run name).0) name))

  pub is_closed : IsClosed s (stage_of plain).ledger (event_histories names history) (ticket_numbers pass.drawn) (state_left left tasks)
  unfolding reached
  is_closed = record {
    reached = reached;
    shown = shown;
    object = object_left;
    task = λ place. (shown_at place).comes;
    row = in_row (setup_in s) plain names history left tasks pass c;
    few = few_drawn s plain names history left tasks pass c firsts;
  }

pub closes_are_runs : ClosesAreRuns
closes_are_runs opened names history left tasks pass is firsts c found =
    let s = scenario_in opened in
    let ledger = (stage_of opened.objects).ledger in
    let runnable = (accepted_texts_are_runnable opened.accepted.value opened.work.value is.read).0 in
    let closes = subst (λ setup. ClosesAs setup opened.objects names history left tasks pass) is.setup c in
    let merged = closed_runs_end s ledger (event_histories names history) (ticket_numbers pass.drawn) (state_left left tasks) runnable is.rescuers is.one.holds.numbered
    (is_closed s opened.objects names history left tasks pass closes (firsts ∙ is.tasks)
    (λ name. ap (λ (o : Objects). object_named o name) (sym is.objects) ∙ opened_is opened.objects name) found) in
    let shows = λ (name : Object). history_shows name (unasked (opened_at opened.objects name)) (left name) (history name) (c.things name) in
    let drew = drew_as_events s opened.objects names history left tasks pass closes
    (λ place task at. ap is_broken (sym (image_at (λ (task : Returned). task.task) no_task tasks place task at)) ∙ merged.unbroken place) in (
      subst (λ histories. MergeIsEndedRun s ledger histories (ticket_numbers pass.drawn) (state_left left tasks)) (sym (histories_are names history shows)) merged,
      drew,
    )
