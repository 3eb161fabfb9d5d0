-- Events counted by tasks: how many rounds start, and how many tickets are drawn.
use Rattle.std.proofs.Common.{◌≡◌, ◌⊎◌, ◌+◌, ◌-◌, ◌<◌, ◌≤◌, ◌++◌, ◌||◌, not, ℕ, zero, suc, Bool, true, false, List, [], ◌∷◌, Option, None, Some, length, filter, inl, inr, refl, sym, ◌∙◌, ap, arith, get_or}
use Rattle.std.specs.Prelude.{All, Contains, IsTrue, map, slice_get, sum_by}
use Rattle.std.specs.List.{list_any, cons_option}
use Rattle.std.proofs.lemmas.Bool.{true≢false}
use Rattle.std.proofs.lemmas.List.{length-map, get_or-map}
use Rattle.std.proofs.lemmas.List.Concat.{length-flat_map}
use Rattle.std.proofs.lemmas.List.Elements.{All-head, All-tail, All-nil, All-append, All-map, All-filter, All-weaker, All-contains, All-contains_itself, filter_passes}
use Rattle.std.proofs.lemmas.List.Sums.{sum_by-cons}
use Rattle.std.proofs.lemmas.Option.{slice_get_cases, slice_get_within, get_or_from_slice_get}
use Rattle.tick_clock.specs.Tickets.{PassState, ticket_numbers}
use Rattle.run_machine.specs.Laws.{Object, OfNone, OfTally, object_of}
use Rattle.run_machine.specs.Opened.{Scenario, setup_in, start, no_task, round_count}
use Rattle.run_machine.specs.Opened as opened
use Rattle.run_machine.specs.Scene.{Setup}
use Rattle.run_machine.specs.Tasks.{TaskState, answered, is_broken}
use Rattle.task_core.specs.declared.plain.Plain.{Plain}
use Rattle.object_things.specs.Histories.{Call, drawn_in}
use Rattle.object_things.specs.Stamps.{ThingState, StepOf}
use Rattle.shared_objects.specs.Calls.{is_same_object, struck}
use Rattle.shared_objects.specs.Closes.{Returned, ClosesAs}
use Rattle.shared_objects.specs.Kinds.{ThingAt, serves_at, looks_at, opened_at, unasked}
use Rattle.shared_objects.specs.Logs.{is_event, is_stop, is_glance, events_in, tickets_in, LogLeads}
use Rattle.shared_objects.proofs.logs.CallsLead.{event_first, kinds, quiet_first, stop_kind}
use Rattle.shared_objects.proofs.tickets.TicketsOfCalls.{drawn_of, drew_of, numbers_is}
use Rattle.shared_objects.proofs.tickets.CallOwners.{logged, kept, IsInPlace, in_place}
use Rattle.shared_objects.proofs.steps.EventOrRefused.{refused_stops, served_refused}
use Rattle.run_merge.specs.Entries.{Entry}
use Rattle.run_merge.specs.Merging.{Ticketed, RiseFrom, without_tickets, all_of, done_by}
use Rattle.run_merge.specs.Products.{is_next_round}
use Rattle.run_merge.proofs.enough_shown.BreaksOff.{stop_breaks}
use Rattle.run_merge.proofs.enough_shown.CallTickets.{rises_events}
use Rattle.run_merge.proofs.enough_shown.CallEvents.{ticketed_events, event_histories, drawn_entry}
use Rattle.run_merge.proofs.enough_shown.ObjectHistories as calls
use Rattle.run_merge.proofs.enough_shown.ObjectHistories.{told_drew}
use Rattle.run_merge.proofs.enough_shown.CalledObjects.{ask_some, named}
use Rattle.run_merge.proofs.enough_shown.PlaceSums.{sum_of_places, total_most, total_list, by_places}
use Rattle.run_merge.proofs.enough_shown.RoundsStarted.{starts_left, task_starts, tally_starts, tasks_start}
use Rattle.run_merge.proofs.enough_shown.SortedByTicket.{picks_mine, events_to, done_is}
use Rattle.run_merge.proofs.enough_shown.LogLeads.{is_told, AskSome, Walked, walk}
use Rattle.run_merge.proofs.closing.EventsAndEntries.{sorted_length}
use Rattle.shared_objects.proofs.row_lemmas.SeatNumbers.{few_of}
use Rattle.shared_objects.proofs.steps.BrokenRests.{broken_rests}
use Rattle.shared_objects.proofs.logs.StepNotes.{HasTicket}
use Rattle.run_merge.proofs.merging.Picked.{is_at, is_by, entries_filter, filter_swap}

-- a call that left its task as it was drew no ticket
abbrev GlanceNone : Call → Type 0
GlanceNone call = is_glance call.asked call.told.reply ≡ true → call.told.drawn ≡ None

first_ticket : (call : Call) (calls : List Call) → length (tickets_in (call ∷ calls)) ≤ length (tickets_in calls) + 1
first_ticket call calls = by_ticket call.told.drawn
  where
    by_ticket : (ticket : Option ℕ) → length (cons_option ticket (tickets_in calls)) ≤ length (tickets_in calls) + 1
    by_ticket None = omega arith
    by_ticket (Some n) = omega arith

module _ (setup : Setup) where
  -- behind the end of a task no ticket is drawn
  none_drawn : (before : List Call) (task : TaskState) (calls : List Call) (last : TaskState) → is_broken task ≡ true → AskSome calls → All GlanceNone calls
      → LogLeads setup before task calls last → tickets_in calls ≡ []
  none_drawn before task [] last broken some none leads = refl
  none_drawn before task (call ∷ calls) last broken some none (inl (glance, leads)) =
      ap (λ t. cons_option t (tickets_in calls)) (All-head GlanceNone call calls none glance)
      ∙ none_drawn (before ++ call ∷ []) task calls last broken (All-tail (λ (c : Call). object_of c.asked ≡ OfNone → ⊥) call calls some) (All-tail GlanceNone call calls none) leads
  none_drawn before task (call ∷ calls) last broken some none (inr (goes, asks, looked, leads)) =
      absurd (All-head (λ (c : Call). object_of c.asked ≡ OfNone → ⊥) call calls some (ap object_of (asks ∙ ap struck (broken_rests setup task broken))))

  -- so a task draws no more than one beside those of its events
  few_tickets : (before : List Call) (first : TaskState) (calls : List Call) (last : TaskState) → AskSome calls → All GlanceNone calls → LogLeads setup before first calls last
      → length (tickets_in calls) ≤ length (events_in calls) + 1
  few_tickets before first [] last some none leads = omega arith
  few_tickets before first (call ∷ calls) last some none (inl (glance, leads)) =
      let rest = few_tickets (before ++ call ∷ []) first calls last (All-tail (λ (c : Call). object_of c.asked ≡ OfNone → ⊥) call calls some) (All-tail GlanceNone call calls none) leads in
      let tickets = ap (λ t. length (cons_option t (tickets_in calls))) (All-head GlanceNone call calls none glance) in
      let events = ap (λ (l : List Call). length l) (quiet_first call calls (kinds call glance).0) in
      omega (arith, rest, tickets, events)
  few_tickets before first (call ∷ calls) last some none (inr (goes, asks, looked, leads)) =
      by_event (is_told call) refl
      (few_tickets (before ++ call ∷ []) (answered setup first call.told.reply) calls last (All-tail (λ (c : Call). object_of c.asked ≡ OfNone → ⊥) call calls some) (All-tail GlanceNone call calls none) leads)
    where
      by_event : (b : Bool) → is_told call ≡ b → length (tickets_in calls) ≤ length (events_in calls) + 1 → length (tickets_in (call ∷ calls)) ≤ length (events_in (call ∷ calls)) + 1
      by_event true is rest =
          let events = ap (λ (l : List Call). length l) (event_first call calls is) in omega (arith, rest, events, first_ticket call calls)
      by_event false is rest =
          let stop = stop_kind (is_told call) (is_stop call.asked call.told.reply) goes is in
          let broken = stop_breaks setup first call.asked call.told.reply asks (All-head (λ (c : Call). object_of c.asked ≡ OfNone → ⊥) call calls some) stop in
          let behind = ap (λ (l : List ℕ). length l) (none_drawn (before ++ call ∷ []) (answered setup first call.told.reply) calls last broken
          (All-tail (λ (c : Call). object_of c.asked ≡ OfNone → ⊥) call calls some) (All-tail GlanceNone call calls none) leads) in
          omega (arith, behind, first_ticket call calls)

sum_most : {X : Type 0} (f : X → ℕ) (g : ℕ → ℕ) (xs : List X) → ((k : ℕ) (x : X) → slice_get xs k ≡ Some x → f x ≤ g k + 1) → sum_by f xs ≤ sum_of_places g (length xs) + length xs
sum_most f g [] each = omega arith
sum_most f g (x ∷ xs) each =
    let here = each 0 x refl in
    let rest = sum_most f (λ k. g (suc k)) xs (λ k y at. each (suc k) y at) in
    let more = sum_by-cons f x xs in
    omega (arith, here, rest, more)

pub image_at : {X Y : Type 0} (f : X → Y) (none : Y) (xs : List X) (i : ℕ) (x : X) → slice_get xs i ≡ Some x → get_or (map f xs) i none ≡ f x
image_at f none xs i x is = get_or-map f xs i x none (slice_get_within xs i x is) ∙ ap f (get_or_from_slice_get xs i x x is)

pub image_none : {X Y : Type 0} (f : X → Y) (none : Y) (xs : List X) (i : ℕ) → length xs ≤ i → get_or (map f xs) i none ≡ none
image_none f none [] i le = refl
image_none f none (y ∷ ys) zero le = absurd (omega (arith, le))
image_none f none (y ∷ ys) (suc i) le = image_none f none ys i (omega (arith, le))

module _ (s : Scenario) (plain : Plain) (names : List Object) (history : Object → List Call) (left : (name : Object) → ThingState (ThingAt name)) (tasks : List Returned)
    (pass : PassState) (c : ClosesAs (setup_in s) plain names history left tasks pass) (firsts : map (λ (task : Returned). task.first) tasks ≡ opened.opened_tasks s) where
  pub walked : (place : ℕ) (task : Returned) → slice_get tasks place ≡ Some task → Walked (setup_in s) [] task.first task.log task.task
  walked place task at =
      walk (setup_in s) [] task.first task.log task.task (ask_some s plain names history left tasks pass c place task at) (logged (setup_in s) plain names history left tasks pass c place task at).0.leads

  pub first_is : (place : ℕ) (task : Returned) → slice_get tasks place ≡ Some task → (start s).task place ≡ task.first
  first_is place task at = ap (λ l. get_or l place no_task) (sym firsts) ∙ image_at (λ (task : Returned). task.first) no_task tasks place task at

  pub long : length (opened.opened_tasks s) ≡ length tasks
  long = ap (λ (l : List TaskState). length l) (sym firsts) ∙ length-map tasks (λ (task : Returned). task.first)

  number_some : (name : Object) → All (λ (call : Call). 0 < call.by) (history name)
  number_some name = All-weaker (λ (call : Call). (0 < call.by) × (call.by ≤ length tasks)) (λ (call : Call). 0 < call.by) (λ call h. h.0) (history name) (c.numbers name)

  placed : (name : Object) → All (λ (x : Ticketed). x.entry.place < length tasks) (ticketed_events (history name))
  placed name =
      All-map (λ (x : Ticketed). x.entry.place < length tasks) drawn_entry (events_in (history name))
      (All-filter is_told (λ (call : Call). call.by - 1 < length tasks) (history name)
      (All-weaker (λ (call : Call). (0 < call.by) × (call.by ≤ length tasks)) (λ (call : Call). call.by - 1 < length tasks)
      (λ call h. let some = h.0 in let less = h.1 in omega (arith, some, less)) (history name) (c.numbers name)))

  pub log_drew : (place : ℕ) (task : Returned) → slice_get tasks place ≡ Some task → All HasTicket task.log
  log_drew place task at =
      All-weaker (Contains task.log) HasTicket
      (λ call within. All-contains HasTicket (history (object_of call.asked)) call
      (told_drew (object_of call.asked) (unasked (opened_at plain (object_of call.asked))) (left (object_of call.asked)) (history (object_of call.asked)) (c.things (object_of call.asked)))
      (kept (setup_in s) plain names history left tasks pass c place task at call within)) task.log (All-contains_itself task.log)

  pub log_rises : (place : ℕ) (task : Returned) → slice_get tasks place ≡ Some task → RiseFrom 0 (ticketed_events task.log)
  log_rises place task at =
      let l = (logged (setup_in s) plain names history left tasks pass c place task at).0 in rises_events 0 l.end task.log l.rises (log_drew place task at)

  -- what a task did, by tickets
  pub done_at : (place : ℕ) (task : Returned) → slice_get tasks place ≡ Some task → done_by place (event_histories names history) ≡ ticketed_events task.log
  done_at place task at =
      done_is names history place task.log c.apart number_some (λ name. c.calls name place task at)
      (All-map (λ (n : Ticketed). list_any (λ name. is_same_object name (object_of n.entry.asked)) names ≡ true) drawn_entry (events_in task.log)
      (All-filter is_told (λ (call : Call). list_any (λ name. is_same_object name (object_of call.asked)) names ≡ true) task.log
      (All-weaker (Contains task.log) (λ (call : Call). list_any (λ name. is_same_object name (object_of call.asked)) names ≡ true)
      (named s plain names history left tasks pass c place task at) task.log (All-contains_itself task.log))))
      (log_rises place task at)

  -- the keeper starts no more rounds than there are
  at_task : (place : ℕ) (task : Returned) → slice_get tasks place ≡ Some task
      → length (filter (is_by place) (filter (λ (n : Ticketed). is_next_round n.entry.asked) (ticketed_events (history OfTally)))) ≤ starts_left (get_or (opened.opened_tasks s) place no_task)
  at_task place task at =
      let p = λ (n : Ticketed). is_next_round n.entry.asked in
      let events = ticketed_events task.log in
      let mine : filter (is_by place) (ticketed_events (history OfTally)) ≡ filter (is_at OfTally) events =
      picks_mine drawn_entry place (λ call. refl) is_told (history OfTally) (number_some OfTally) ∙ ap ticketed_events (c.calls OfTally place task at) ∙ events_to OfTally task.log in
      let same : length (filter (is_by place) (filter p (ticketed_events (history OfTally)))) ≡ length (filter (is_at OfTally) (filter p events)) =
      ap (λ (l : List Ticketed). length l)
      (filter_swap (is_by place) p (ticketed_events (history OfTally)) ∙ ap (filter p) mine ∙ filter_swap p (is_at OfTally) events) in
      let entries : length (filter (λ (e : Entry). is_next_round e.asked) (without_tickets events)) ≡ length (filter p events) =
      ap (λ (l : List Entry). length l) (entries_filter (λ (e : Entry). is_next_round e.asked) events) ∙ length-map (filter p events) (λ (n : Ticketed). n.entry) in
      let w = walked place task at in
      let most = task_starts (setup_in s) (without_tickets events) task.first w.now
      (All-map (λ (e : Entry). IsTrue (is_event e.asked e.reply)) (λ (n : Ticketed). n.entry) events
      (All-map (λ (n : Ticketed). IsTrue (is_event n.entry.asked n.entry.reply)) drawn_entry (events_in task.log) (filter_passes is_told task.log))) w.leads in
      let first = ap starts_left (first_is place task at) in
      let few = few_of (is_at OfTally) (filter p events) in
      omega (arith, same, entries, most, first, few)

  pub rounds_few : calls.starts (drawn_in (history OfTally)) ≤ round_count s - 1
  rounds_few =
      let p = λ (n : Ticketed). is_next_round n.entry.asked in
      let events = ticketed_events (history OfTally) in
      let told = tally_starts (history OfTally) (unasked (opened_at plain OfTally)) (left OfTally) (c.things OfTally) in
      let split = by_places (length tasks) (filter p events) (All-filter p (λ (x : Ticketed). x.entry.place < length tasks) events (placed OfTally)) in
      let most = total_most (λ k. length (filter (is_by k) (filter p events))) (λ k. starts_left (get_or (opened.opened_tasks s) k no_task)) (length tasks) each in
      let list = total_list starts_left no_task (opened.opened_tasks s) in
      let same = ap (sum_of_places (λ k. starts_left (get_or (opened.opened_tasks s) k no_task))) long in
      let all = tasks_start s in
      omega (arith, told, split, most, list, same, all)
    where
      each : (k : ℕ) → k < length tasks
          → length (filter (is_by k) (filter (λ (n : Ticketed). is_next_round n.entry.asked) (ticketed_events (history OfTally)))) ≤ starts_left (get_or (opened.opened_tasks s) k no_task)
      each k lt = by_two (slice_get_cases tasks k).1
        where
          by_two : ((x : Returned) × (k < length tasks) × (slice_get tasks k ≡ Some x) × (get_or tasks k x ≡ x)) ⊎ ((length tasks ≤ k) × (slice_get tasks k ≡ None))
              → length (filter (is_by k) (filter (λ (n : Ticketed). is_next_round n.entry.asked) (ticketed_events (history OfTally)))) ≤ starts_left (get_or (opened.opened_tasks s) k no_task)
          by_two (inl (task, less, at, same)) = at_task k task at
          by_two (inr (le, none)) = absurd (omega (arith, lt, le))

  pub all_placed : (ns : List Object) → All (λ (x : Ticketed). x.entry.place < length tasks) (all_of (event_histories ns history))
  all_placed [] = All-nil (λ (x : Ticketed). x.entry.place < length tasks)
  all_placed (name ∷ ns) =
      All-append (λ (x : Ticketed). x.entry.place < length tasks) (ticketed_events (history name)) (all_of (event_histories ns history)) (placed name) (all_placed ns)

  -- a call that left its task as it was drew no ticket
  glance_none : (place : ℕ) (task : Returned) → slice_get tasks place ≡ Some task → (call : Call) → Contains task.log call → GlanceNone call
  glance_none place task at call within glance = by_ticket call.told.drawn p.answers.step
    where
      name : Object
      name = object_of call.asked

      p : IsInPlace (setup_in s) plain names history left tasks pass c (object_of call.asked) call
      p = in_place (setup_in s) plain names history left tasks pass c (object_of call.asked) call (kept (setup_in s) plain names history left tasks pass c place task at call within)

      untold : is_told call ≡ false
      untold = (kinds call glance).0

      by_ticket : (ticket : Option ℕ) → StepOf (serves_at (object_of call.asked)) (looks_at (object_of call.asked)) p.here call.asked call.told.reply ticket p.next → ticket ≡ None
      by_ticket None step = refl
      by_ticket (Some n) step =
          let stop = refused_stops call.asked call.told.reply (served_refused (object_of call.asked) p.here.object p.next.object call.asked call.told.reply step.0 untold) in
          absurd (true≢false (sym glance ∙ ap (λ b. not (is_told call || b)) stop ∙ ap (λ b. not (b || true)) untold))

  one_more : (place : ℕ) (task : Returned) → slice_get tasks place ≡ Some task
      → length (ticket_numbers (drawn_of task)) ≤ length (filter (is_by place) (all_of (event_histories names history))) + 1
  one_more place task at =
      let tickets = ap (λ (l : List ℕ). length l) (drew_of (setup_in s) plain names history left tasks pass c place task at) in
      let few = few_tickets (setup_in s) [] task.first task.log task.task (ask_some s plain names history left tasks pass c place task at)
      (All-weaker (Contains task.log) GlanceNone (glance_none place task at) task.log (All-contains_itself task.log)) (logged (setup_in s) plain names history left tasks pass c place task at).0.leads in
      let events = length-map (events_in task.log) drawn_entry in
      let done = ap (λ (l : List Ticketed). length l) (done_at place task at) in
      let order = sorted_length (filter (is_by place) (all_of (event_histories names history))) in
      omega (arith, tickets, few, events, done, order)

  pub few_drawn : length (ticket_numbers pass.drawn) ≤ length (all_of (event_histories names history)) + length (opened.opened_tasks s)
  few_drawn =
      let all = ap (λ (l : List ℕ). length l) (numbers_is (setup_in s) plain names history left tasks pass c) ∙ length-flat_map (λ (task : Returned). ticket_numbers (drawn_of task)) tasks in
      let most = sum_most (λ (task : Returned). length (ticket_numbers (drawn_of task))) (λ place. length (filter (is_by place) (all_of (event_histories names history)))) tasks one_more in
      let split = by_places (length tasks) (all_of (event_histories names history)) (all_placed names) in
      let same = long in
      omega (arith, all, most, split, same)
