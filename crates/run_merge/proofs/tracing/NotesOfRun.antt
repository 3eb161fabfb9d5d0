-- What tasks noted, joined by tickets, are the events of the run to which the histories merge.
use Rattle.std.proofs.Common.{◌≡◌, ◌⊎◌, ◌<◌, ◌≤◌, ◌++◌, ℕ, suc, List, [], ◌∷◌, None, Some, length, filter, map, inl, inr, refl, sym, ◌∙◌, ap, subst, arith, get_or}
use Rattle.std.specs.Prelude.{Contains, IsPermutation, slice_get, sum_by}
use Rattle.std.specs.List.{flat_map}
use Rattle.std.specs.List.Sorted.{IsNonDecreasingBy}
use Rattle.std.proofs.lemmas.List.{map-append}
use Rattle.std.proofs.lemmas.List.Elements.{Contains-append_cases}
use Rattle.std.proofs.lemmas.List.Sorted.{Contains-permutation, IsPermutation-sym, sum_by-IsPermutation}
use Rattle.std.proofs.lemmas.List.Sums.{sum_by-cons}
use Rattle.std.proofs.lemmas.Option.{slice_get_cases}
use Rattle.elem_ledger.specs.Ledger.{LedgerId}
use Rattle.tick_clock.specs.Tickets.{PassState}
use Rattle.run_machine.specs.declared.event.Event.{Event}
use Rattle.run_machine.specs.Laws.{Object}
use Rattle.run_machine.specs.Opened.{Scenario, scene, setup_in, start}
use Rattle.run_machine.specs.Opened as opened
use Rattle.run_machine.specs.Runs.{State, IsRun}
use Rattle.task_core.specs.declared.plain.Plain.{Plain}
use Rattle.task_core.specs.Plains.{stage_of}
use Rattle.task_core.specs.opened.OfOne.{scenario_in}
use Rattle.object_things.specs.Histories.{Call}
use Rattle.object_things.specs.Stamps.{ThingState}
use Rattle.shared_objects.specs.Closes.{Returned, ClosesAs}
use Rattle.shared_objects.specs.Kinds.{ThingAt, opened_at, unasked}
use Rattle.shared_objects.specs.Noting.{notes_of}
use Rattle.shared_objects.proofs.tickets.TicketsOfCalls.{flat_there}
use Rattle.shared_objects.proofs.tickets.CallOwners.{logged}
use Rattle.run_merge.specs.Entries.{entries_in}
use Rattle.run_merge.specs.Joining.{IsJoinedByTicket}
use Rattle.run_merge.specs.Merging.{Ticketed, all_of, done_by, without_tickets, sorted_by_ticket}
use Rattle.run_merge.specs.Tracing.{notes_in, NotesAreRuns}
use Rattle.run_merge.proofs.enough_shown.TaskCounts.{first_is, done_at}
use Rattle.run_merge.proofs.enough_shown.CallEvents.{ticketed_events, event_histories, histories_are}
use Rattle.run_merge.proofs.enough_shown.ObjectHistories.{history_shows}
use Rattle.run_merge.proofs.enough_shown.CalledObjects.{ask_some}
use Rattle.run_merge.proofs.merging.Picked.{is_by, merge_by}
use Rattle.run_merge.proofs.merging.TicketOrder.{sorted_ordered}
use Rattle.run_merge.proofs.tracing.RisingLists.{is_hit, hits, AreOnce, climbs, none_falls, Climbs, NoneFalls, falls_rises, same_climbing}
use Rattle.run_merge.proofs.tracing.DrawnOnce.{merged, merged_placed, merged_climbs, ordered_falls, parts_once}
use Rattle.run_merge.proofs.tracing.NotedEntries.{keys_of, events_of, own_falls, own_notes, led_notes, run_notes, of_task, IsNotedOf, task_of, tickets_of, keys_fewer, log_notes}

record IsFrom {X Y : Type 0} (f : X → List Y) (xs : List X) (y : Y) : Type 0 where
  place : ℕ
  part : X
  at : slice_get xs place ≡ Some part
  there : Contains (f part) y

flat_from : {X Y : Type 0} (f : X → List Y) (xs : List X) (y : Y) → Contains (flat_map f xs) y → IsFrom f xs y
flat_from f [] y (k, lt, at) = absurd (omega (arith, lt))
flat_from f (x ∷ xs) y there = by_two (Contains-append_cases (f x) (flat_map f xs) y there) (flat_from f xs y)
  where
    by_two : Contains (f x) y ⊎ Contains (flat_map f xs) y → (Contains (flat_map f xs) y → IsFrom f xs y) → IsFrom f (x ∷ xs) y
    by_two (inl here) rest = record { place = 0; part = x; at = refl; there = here }
    by_two (inr later) rest = let r = rest later in record { place = suc r.place; part = r.part; at = r.at; there = r.there }

keys_flat : {X : Type 0} (f : X → List (ℕ × Event)) (xs : List X) → keys_of (flat_map f xs) ≡ flat_map (λ x. keys_of (f x)) xs
keys_flat f [] = refl
keys_flat f (x ∷ xs) = map-append (λ (e : ℕ × Event). e.0) (f x) (flat_map f xs) ∙ ap (λ l. keys_of (f x) ++ l) (keys_flat f xs)

-- keys are as often in any order
hits_keys : (number : ℕ) (notes : List (ℕ × Event)) → hits number (keys_of notes) ≡ sum_by (λ (e : ℕ × Event). is_hit number e.0) notes
hits_keys number [] = refl
hits_keys number (e ∷ notes) =
    let rest = hits_keys number notes in
    omega (arith, rest, sum_by-cons (is_hit number) e.0 (keys_of notes), sum_by-cons (λ (e : ℕ × Event). is_hit number e.0) e notes)

once_in_order : (all ordered : List (ℕ × Event)) → IsPermutation all ordered → AreOnce (keys_of all) → AreOnce (keys_of ordered)
once_in_order all ordered same once number =
    let few = once number in
    omega (arith, few, hits_keys number all, hits_keys number ordered, sum_by-IsPermutation (λ (e : ℕ × Event). is_hit number e.0) all ordered same)

module _ (s : Scenario) (ledger : ℕ → LedgerId) (plain : Plain) (names : List Object) (history : Object → List Call) (left : (name : Object) → ThingState (ThingAt name))
    (tasks : List Returned) (pass : PassState) (c : ClosesAs (setup_in s) plain names history left tasks pass) (firsts : map (λ (task : Returned). task.first) tasks ≡ opened.opened_tasks s) where
  abbrev entries : List Ticketed
  entries = merged s plain names history left tasks pass c firsts

  abbrev led : List (ℕ × Event)
  led = led_notes (setup_in s) (start s).task entries

  noted_by : (place : ℕ) (task : Returned) → slice_get tasks place ≡ Some task → notes_of (setup_in s) task.first task.log ≡ own_notes (setup_in s) task.first (ticketed_events task.log)
  noted_by place task at =
      log_notes (setup_in s) [] task.first task.log task.task (ask_some s plain names history left tasks pass c place task at) (logged (setup_in s) plain names history left tasks pass c place task at).0.leads

  -- along them tickets rise, as along the events of its log, which are those of the merge that are its own
  pub notes_rise : (place : ℕ) (task : Returned) → slice_get tasks place ≡ Some task → IsNonDecreasingBy (λ (e : ℕ × Event). e.0) (notes_of (setup_in s) task.first task.log)
  notes_rise place task at =
      let own = done_at s plain names history left tasks pass c firsts place task at in
      let falls = (ordered_falls 0 (done_by place (event_histories names history)) (sorted_ordered (filter (is_by place) (all_of (event_histories names history))))).1 in
      subst (IsNonDecreasingBy (λ (e : ℕ × Event). e.0)) (sym (noted_by place task at))
      (falls_rises (λ (e : ℕ × Event). e.0) (own_notes (setup_in s) task.first (ticketed_events task.log))
      (own_falls (setup_in s) task.first (ticketed_events task.log) (subst (λ ns. NoneFalls (tickets_of ns)) own falls)))

  -- what a task noted is what is noted of it along the merge
  notes_at : (place : ℕ) (task : Returned) → slice_get tasks place ≡ Some task
      → notes_of (setup_in s) task.first task.log ≡ own_notes (setup_in s) ((start s).task place) (filter (is_by place) entries)
  notes_at place task at =
      noted_by place task at ∙ ap (λ first. own_notes (setup_in s) first (ticketed_events task.log)) (sym (first_is s plain names history left tasks pass c firsts place task at))
      ∙ ap (own_notes (setup_in s) ((start s).task place))
      (sym (merge_by (event_histories names history) place ∙ done_at s plain names history left tasks pass c firsts place task at))

  noted_led : (x : ℕ × Event) → Contains (notes_in (setup_in s) tasks) x → Contains led x
  noted_led x there =
      let from = flat_from (λ (task : Returned). notes_of (setup_in s) task.first task.log) tasks x there in
      of_task (setup_in s) (start s).task entries from.place x (subst (λ l. Contains l x) (notes_at from.place from.part from.at) from.there)

  led_noted : (x : ℕ × Event) → Contains led x → Contains (notes_in (setup_in s) tasks) x
  led_noted x there = by_two (slice_get_cases tasks o.place).1
    where
      o : IsNotedOf (setup_in s) (start s).task entries (length tasks) x
      o = task_of (setup_in s) (start s).task entries (length tasks) x (merged_placed s plain names history left tasks pass c firsts) there

      by_two : ((task : Returned) × (o.place < length tasks) × (slice_get tasks o.place ≡ Some task) × (get_or tasks o.place task ≡ task)) ⊎ ((length tasks ≤ o.place) × (slice_get tasks o.place ≡ None))
          → Contains (notes_in (setup_in s) tasks) x
      by_two (inl (task, less, at, same)) =
          flat_there (λ (task : Returned). notes_of (setup_in s) task.first task.log) tasks o.place task x at (subst (λ l. Contains l x) (sym (notes_at o.place task at)) o.there)
      by_two (inr (le, none)) = let lt = o.less in absurd (omega (arith, lt, le))

  noted_once : AreOnce (keys_of (notes_in (setup_in s) tasks))
  noted_once =
      subst AreOnce (sym (keys_flat (λ (task : Returned). notes_of (setup_in s) task.first task.log) tasks))
      (parts_once s plain names history left tasks pass c firsts (λ (task : Returned). keys_of (notes_of (setup_in s) task.first task.log))
      (λ number place task at.
      let same = ap (λ l. hits number (keys_of l)) (noted_by place task at) in
      let few = keys_fewer (setup_in s) number task.first (ticketed_events task.log) in
      omega (arith, same, few)))

  module _ (joined : List Event) (j : IsJoinedByTicket (notes_in (setup_in s) tasks) joined) (events : List Event) (last : State) (run : IsRun (scene s ledger) (start s) events last)
      (is : entries_in (scene s ledger) (start s) events last run ≡ without_tickets entries) where
    in_order : j.ordered ≡ led
    in_order =
        same_climbing (λ (e : ℕ × Event). e.0) j.ordered led
        (climbs (keys_of j.ordered) (none_falls (λ (e : ℕ × Event). e.0) j.ordered j.rises) (once_in_order (notes_in (setup_in s) tasks) j.ordered j.same noted_once))
        (subst Climbs (sym (run_notes (scene s ledger) (start s) events last run entries is).0) (merged_climbs s plain names history left tasks pass c firsts))
        (λ x there. noted_led x (Contains-permutation j.ordered (notes_in (setup_in s) tasks) x (IsPermutation-sym (notes_in (setup_in s) tasks) j.ordered j.same) there))
        (λ x there. Contains-permutation (notes_in (setup_in s) tasks) j.ordered x j.same (led_noted x there))

    pub joined_is : events ≡ joined
    joined_is = sym (run_notes (scene s ledger) (start s) events last run entries is).1 ∙ ap events_of (sym in_order) ∙ sym j.values

pub notes_are_runs : NotesAreRuns
notes_are_runs opened names history left tasks pass is firsts c joined last j (events, run, entries) =
    let s = scenario_in opened in
    let ledger = (stage_of opened.objects).ledger in
    let shows = λ (name : Object). history_shows name (unasked (opened_at opened.objects name)) (left name) (history name) (c.things name) in
    let same = histories_are names history shows in
    joined_is s ledger opened.objects names history left tasks pass
    (subst (λ setup. ClosesAs setup opened.objects names history left tasks pass) is.setup c) (firsts ∙ is.tasks) joined
    (subst (λ setup. IsJoinedByTicket (notes_in setup tasks) joined) is.setup j) events last run (entries ∙ ap (λ histories. without_tickets (sorted_by_ticket (all_of histories))) same)
