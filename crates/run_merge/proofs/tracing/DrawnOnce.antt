-- No two events have one ticket: each was drawn once.
use Rattle.std.proofs.Common.{◌≡◌, ◌⊎◌, ◌<◌, ◌≤◌, ◌==◌, cond, ℕ, suc, Bool, true, false, List, [], ◌∷◌, Option, None, Some, length, filter, map, inl, inr, refl, sym, ◌∙◌, ap, subst, arith, get_or}
use Rattle.std.specs.Option.{is_some}
use Rattle.std.specs.Prelude.{All, slice_get, sum_by}
use Rattle.std.specs.List.{flat_map, cons_option}
use Rattle.std.proofs.lemmas.Bool.{true≢false}
use Rattle.std.proofs.lemmas.List.{length-map}
use Rattle.std.proofs.lemmas.List.Elements.{All-head, All-tail, All-cons, All-nil, All-filter, All-weaker}
use Rattle.std.proofs.lemmas.List.Sums.{sum_by-cons, sum_by-append, sum-map}
use Rattle.std.proofs.lemmas.Option.{slice_get_cases}
use Rattle.tick_clock.specs.declared.ticking.Ticket.{Ticket}
use Rattle.tick_clock.specs.Tickets.{PassState, hit, ticket_count, ticket_numbers}
use Rattle.tick_clock.proofs.Rows.{pass_once}
use Rattle.run_machine.specs.Laws.{Object}
use Rattle.run_machine.specs.Opened.{Scenario, setup_in}
use Rattle.run_machine.specs.Opened as opened
use Rattle.task_core.specs.declared.plain.Plain.{Plain}
use Rattle.object_things.specs.Histories.{Call, or_last}
use Rattle.object_things.specs.Stamps.{ThingState}
use Rattle.shared_objects.specs.Closes.{Returned, ClosesAs}
use Rattle.shared_objects.specs.Kinds.{ThingAt}
use Rattle.shared_objects.specs.Logs.{tickets_in}
use Rattle.shared_objects.proofs.tickets.TicketsOfCalls.{drawn_of, drew_of, numbers_is}
use Rattle.shared_objects.proofs.logs.StepNotes.{HasTicket}
use Rattle.run_merge.specs.Merging.{Ticketed, sorted_by_ticket, all_of}
use Rattle.run_merge.proofs.enough_shown.TaskCounts.{done_at, image_at, all_placed, log_drew}
use Rattle.run_merge.proofs.enough_shown.CallTickets.{events_told, events_untold}
use Rattle.run_merge.proofs.enough_shown.CallEvents.{ticketed_events, event_histories, drawn_entry}
use Rattle.run_merge.proofs.enough_shown.PlaceSums.{sum_of_places, total_most, total_list, by_places}
use Rattle.run_merge.proofs.enough_shown.LogLeads.{is_told}
use Rattle.run_merge.proofs.merging.Picked.{is_by, filter_swap, merge_by}
use Rattle.run_merge.proofs.merging.TicketOrder.{Ordered, sorted_ordered, all_sorted}
use Rattle.run_merge.proofs.tracing.RisingLists.{is_hit, hits, AreOnce, NoneFalls, Climbs, climbs}
use Rattle.run_merge.proofs.tracing.NotedEntries.{tickets_of}

-- counts of parts
hits_flat : {X : Type 0} (f : X → List ℕ) (xs : List X) (number : ℕ) → hits number (flat_map f xs) ≡ sum_by (λ x. hits number (f x)) xs
hits_flat f [] number = refl
hits_flat f (x ∷ xs) number =
    let parts = sum_by-append (is_hit number) (f x) (flat_map f xs) in
    let rest = hits_flat f xs number in
    let more = sum_by-cons (λ x. hits number (f x)) x xs in
    omega (arith, parts, rest, more)

sum_least : {X : Type 0} (f g : X → ℕ) (xs : List X) → ((place : ℕ) (x : X) → slice_get xs place ≡ Some x → f x ≤ g x) → sum_by f xs ≤ sum_by g xs
sum_least f g [] each = omega arith
sum_least f g (x ∷ xs) each =
    let here = each 0 x refl in
    let rest = sum_least f g xs (λ place y at. each (suc place) y at) in
    omega (arith, here, rest, sum_by-cons f x xs, sum_by-cons g x xs)

times_is : (number : ℕ) (ts : List Ticket) → hits number (ticket_numbers ts) ≡ ticket_count number ts
times_is number [] = refl
times_is number (t ∷ ts) =
    let rest = times_is number ts in
    let here : is_hit number t.number ≡ hit number t = refl in
    omega (arith, rest, here, sum_by-cons (is_hit number) t.number (ticket_numbers ts), sum_by-cons (hit number) t ts)

-- entries with a ticket
abbrev has_number : ℕ → Ticketed → Bool
has_number number n = n.ticket == number

count_is : (number : ℕ) (ns : List Ticketed) → length (filter (has_number number) ns) ≡ hits number (tickets_of ns)
count_is number [] = refl
count_is number (n ∷ ns) = by_test (n.ticket == number) refl (count_is number ns)
  where
    few : List Ticketed
    few = filter (has_number number) ns

    by_test : (b : Bool) → (n.ticket == number) ≡ b → length few ≡ hits number (tickets_of ns) → length (cond b (n ∷ few) few) ≡ hits number (tickets_of (n ∷ ns))
    by_test true same rest =
        let one : is_hit number n.ticket ≡ 1 = ap (λ b. cond b 1 0) same in omega (arith, one, rest, sum_by-cons (is_hit number) n.ticket (tickets_of ns))
    by_test false same rest =
        let none : is_hit number n.ticket ≡ 0 = ap (λ b. cond b 1 0) same in omega (arith, none, rest, sum_by-cons (is_hit number) n.ticket (tickets_of ns))

-- events have tickets that their calls drew
events_fewer : (number : ℕ) (calls : List Call) → All HasTicket calls → hits number (tickets_of (ticketed_events calls)) ≤ hits number (tickets_in calls)
events_fewer number [] has = omega arith
events_fewer number (call ∷ calls) has =
    by_two (is_told call) refl call.told.drawn refl (events_fewer number calls (All-tail HasTicket call calls has))
  where
    Few : List Ticketed → Option ℕ → Type 0
    Few ns ticket = hits number (tickets_of ns) ≤ hits number (cons_option ticket (tickets_in calls))

    by_two : (told : Bool) → is_told call ≡ told → (ticket : Option ℕ) → call.told.drawn ≡ ticket → hits number (tickets_of (ticketed_events calls)) ≤ hits number (tickets_in calls)
        → Few (ticketed_events (call ∷ calls)) call.told.drawn
    by_two true is (Some n) t rest =
        let here : or_last 0 call.told.drawn ≡ n = ap (or_last 0) t in
        let first : Few (drawn_entry call ∷ ticketed_events calls) (Some n) =
        subst (λ m. hits number (m ∷ tickets_of (ticketed_events calls)) ≤ hits number (n ∷ tickets_in calls)) (sym here)
        (omega (arith, rest, sum_by-cons (is_hit number) n (tickets_of (ticketed_events calls)), sum_by-cons (is_hit number) n (tickets_in calls))) in
        subst (λ ns. Few ns call.told.drawn) (sym (events_told call calls is)) (subst (Few (drawn_entry call ∷ ticketed_events calls)) (sym t) first)
    by_two true is None t rest = absurd (true≢false (sym (All-head HasTicket call calls has is) ∙ ap is_some t))
    by_two false is (Some n) t rest =
        subst (λ ns. Few ns call.told.drawn) (sym (events_untold call calls is))
        (subst (Few (ticketed_events calls)) (sym t) (omega (arith, rest, sum_by-cons (is_hit number) n (tickets_in calls))))
    by_two false is None t rest =
        subst (λ ns. Few ns call.told.drawn) (sym (events_untold call calls is)) (subst (Few (ticketed_events calls)) (sym t) rest)

pub ordered_falls : (last : ℕ) (ns : List Ticketed) → Ordered last ns → All (λ m. last ≤ m) (tickets_of ns) × NoneFalls (tickets_of ns)
ordered_falls last [] ordered = (All-nil (λ m. last ≤ m), tt)
ordered_falls last (n ∷ ns) ordered =
    let le = ordered.0 in
    let rest = ordered_falls n.ticket ns ordered.1 in (
      All-cons (λ m. last ≤ m) n.ticket (tickets_of ns) le (All-weaker (λ m. n.ticket ≤ m) (λ m. last ≤ m) (λ m more. omega (arith, le, more)) (tickets_of ns) rest.0),
      (rest.0, rest.1),
    )

module _ (s : Scenario) (plain : Plain) (names : List Object) (history : Object → List Call) (left : (name : Object) → ThingState (ThingAt name)) (tasks : List Returned)
    (pass : PassState) (c : ClosesAs (setup_in s) plain names history left tasks pass) (firsts : map (λ (task : Returned). task.first) tasks ≡ opened.opened_tasks s) where
  abbrev pub merged : List Ticketed
  merged = sorted_by_ticket (all_of (event_histories names history))

  -- how often a task drew a ticket
  abbrev pub drew : ℕ → Returned → ℕ
  drew number task = hits number (ticket_numbers (drawn_of task))

  pub drawn_once : (number : ℕ) → sum_by (drew number) tasks ≤ 1
  drawn_once number =
      let all = ap (hits number) (numbers_is (setup_in s) plain names history left tasks pass c) in
      let parts = hits_flat (λ (task : Returned). ticket_numbers (drawn_of task)) tasks number in
      let same = times_is number pass.drawn in
      let once = (pass_once pass c.all.1).0 number in
      omega (arith, all, parts, same, once)

  pub few_at : (number place : ℕ) (task : Returned) → slice_get tasks place ≡ Some task → hits number (tickets_of (ticketed_events task.log)) ≤ drew number task
  few_at number place task at =
      let few = events_fewer number task.log (log_drew s plain names history left tasks pass c firsts place task at) in
      let same = ap (hits number) (drew_of (setup_in s) plain names history left tasks pass c place task at) in
      omega (arith, few, same)

  pub merged_placed : All (λ (n : Ticketed). n.entry.place < length tasks) merged
  merged_placed =
      all_sorted (λ (n : Ticketed). n.entry.place < length tasks) (all_of (event_histories names history)) (all_placed s plain names history left tasks pass c firsts names)

  merged_at : (number place : ℕ) (task : Returned) → slice_get tasks place ≡ Some task → length (filter (is_by place) (filter (has_number number) merged)) ≤ drew number task
  merged_at number place task at =
      let same : length (filter (is_by place) (filter (has_number number) merged)) ≡ length (filter (has_number number) (ticketed_events task.log)) =
      ap (λ (l : List Ticketed). length l)
      (filter_swap (is_by place) (has_number number) merged
      ∙ ap (filter (has_number number)) (merge_by (event_histories names history) place ∙ done_at s plain names history left tasks pass c firsts place task at)) in
      let count = count_is number (ticketed_events task.log) in
      let few = few_at number place task at in
      omega (arith, same, count, few)

  merged_once : AreOnce (tickets_of merged)
  merged_once number =
      let count = count_is number merged in
      let split = by_places (length tasks) (filter (has_number number) merged)
      (All-filter (has_number number) (λ (n : Ticketed). n.entry.place < length tasks) merged merged_placed) in
      let most = total_most (λ place. length (filter (is_by place) (filter (has_number number) merged))) (λ place. get_or (map (drew number) tasks) place 0) (length tasks) each in
      let list = total_list (λ (n : ℕ). n) 0 (map (drew number) tasks) in
      let long = ap (sum_of_places (λ place. get_or (map (drew number) tasks) place 0)) (length-map tasks (drew number)) in
      let all = sum-map (drew number) tasks in
      let once = drawn_once number in
      omega (arith, count, split, most, list, long, all, once)
    where
      each : (place : ℕ) → place < length tasks → length (filter (is_by place) (filter (has_number number) merged)) ≤ get_or (map (drew number) tasks) place 0
      each place lt = by_two (slice_get_cases tasks place).1
        where
          by_two : ((x : Returned) × (place < length tasks) × (slice_get tasks place ≡ Some x) × (get_or tasks place x ≡ x)) ⊎ ((length tasks ≤ place) × (slice_get tasks place ≡ None))
              → length (filter (is_by place) (filter (has_number number) merged)) ≤ get_or (map (drew number) tasks) place 0
          by_two (inl (task, less, at, same)) =
              let here = merged_at number place task at in let there = image_at (drew number) 0 tasks place task at in omega (arith, here, there)
          by_two (inr (le, none)) = absurd (omega (arith, lt, le))

  -- so the tickets of the merge rise
  pub merged_climbs : Climbs (tickets_of merged)
  merged_climbs = climbs (tickets_of merged) (ordered_falls 0 merged (sorted_ordered (all_of (event_histories names history)))).1 merged_once

  -- and of parts of which none has a ticket that its task did not draw, no two have the same
  pub parts_once : (f : Returned → List ℕ)
      → ((number place : ℕ) (task : Returned) → slice_get tasks place ≡ Some task → hits number (f task) ≤ hits number (tickets_of (ticketed_events task.log)))
      → AreOnce (flat_map f tasks)
  parts_once f fewer number =
      let parts = hits_flat f tasks number in
      let few = sum_least (λ task. hits number (f task)) (drew number) tasks
      (λ place task at. let a = fewer number place task at in let b = few_at number place task at in omega (arith, a, b)) in
      let once = drawn_once number in
      omega (arith, parts, few, once)
