-- The merge of closed objects: its run, what its tasks show, and what it leaves.
use Rattle.std.proofs.Common.{◌≡◌, ◌⊎◌, ◌+◌, ◌-◌, ◌^◌, ◌<◌, ◌≤◌, ◌++◌, ℕ, suc, List, [], ◌∷◌, None, Some, length, map, filter, get_or, inl, inr, refl, sym, ◌∙◌, ap, subst, arith}
use Rattle.std.specs.Option.{is_some}
use Rattle.std.specs.Prelude.{All, min, slice_get, slice_index_or, sum_by}
use Rattle.std.proofs.lemmas.List.Elements.{All-weaker, filter-append}
use Rattle.std.proofs.lemmas.Option.{slice_get_cases, slice_get_within, get_or_from_slice_get}
use Rattle.stack_base.specs.declared.ids.PoolId.TheVariants.{FsBios, FsVecs}
use Rattle.run_machine.specs.Laws.{Object}
use Rattle.run_machine.specs.Opened.{no_task, setup_in}
use Rattle.run_machine.specs.Opened as opened
use Rattle.run_machine.specs.Runs.{State}
use Rattle.run_machine.specs.Scene.{Setup}
use Rattle.run_machine.specs.Tasks.{TaskState}
use Rattle.task_core.specs.Plains.{stage_of}
use Rattle.task_steps.specs.Routed.{routing_setup}
use Rattle.block_core.specs.Runnable.{IsRunnable}
use Rattle.block_core.proofs.bound.Bounded.{runs_are_bounded}
use Rattle.block_core.proofs.claim.Runnable.{accepted_texts_are_runnable, steps_fit_in_24_bits}
use Rattle.object_things.specs.Histories.{Call, CarriesItsOwn, ticketed_in}
use Rattle.seat_lock.specs.History.{calls_by}
use Rattle.shared_objects.specs.Calls.{calls_at, calls_to}
use Rattle.shared_objects.specs.ClosedByName.{history_in, object_left_in, names_in}
use Rattle.shared_objects.specs.Closes.{Returned, ClosesAs}
use Rattle.shared_objects.specs.Holding.{calls_of}
use Rattle.shared_objects.specs.Desks.{DeskState}
use Rattle.shared_objects.specs.Kinds.{opened_at, unasked}
use Rattle.shared_objects.specs.Left.{HasClosed, IsReturned}
use Rattle.shared_objects.specs.Logs.{events_in}
use Rattle.shared_objects.specs.Rows.{Abreast}
use Rattle.shared_objects.specs.declared.closed.Closed.{Closed}
use Rattle.shared_objects.specs.declared.closed.ClosedTask.{ClosedTask}
use Rattle.tick_clock.specs.Tickets.{ticket_numbers}
use Rattle.shared_objects.proofs.logs.StepNotes.{HasTicket}
use Rattle.run_merge.specs.declared.outcome.Outcome.{Outcome}
use Rattle.run_merge.specs.Closing.{MergeIsEndedRun}
use Rattle.run_merge.specs.Falling.{with_facts, falling_below}
use Rattle.run_merge.specs.Listing.{IsTrace}
use Rattle.run_merge.specs.Merging.{Ticketed, all_of, done_by, sorted_by_ticket}
use Rattle.run_merge.specs.ObjectsByName.{made_of}
use Rattle.run_merge.specs.Outcomes.{shared_scenario, shared_ledger, histories_in, histories_by, state_in, IsOutcomeOf}
use Rattle.run_merge.specs.SharedObjects.{DrewAsEvent, entry_histories, seen_at, state_left, ticketed}
use Rattle.run_merge.proofs.enough_shown.ClosesAreRuns.{closes_are_runs}
use Rattle.run_merge.proofs.enough_shown.CallEvents.{histories_are}
use Rattle.run_merge.proofs.enough_shown.ObjectHistories.{history_shows}
use Rattle.run_merge.proofs.enough_shown.SortedByTicket.{picks_mine}
use Rattle.run_merge.proofs.closing.EventsAndEntries.{merge_length}
use Rattle.run_merge.proofs.leaving.EventsOfTasks.{all_tasks, sums_stop}
use Rattle.run_merge.proofs.leaving.LeftByRun.{pools_in, pools_are, disks_are}
use Rattle.run_merge.proofs.leaving.StackHasNamed.{run_named}
use Rattle.run_merge.proofs.leaving.TraceOfRun.{trace_is}
use Rattle.run_merge.proofs.merging.Picked.{is_by}

-- rows of which this is the same at each place
maps_same : {X Y Z : Type 0} (f : X → Z) (g : Y → Z) (xs : List X) (ys : List Y) → Abreast (λ x y. f x ≡ g y) xs ys → map f xs ≡ map g ys
maps_same f g [] [] are = refl
maps_same f g [] (y ∷ ys) are = absurd (let long = are.lens in omega (arith, long))
maps_same f g (x ∷ xs) [] are = absurd (let long = are.lens in omega (arith, long))
maps_same f g (x ∷ xs) (y ∷ ys) are =
    let here = are.each 0 x y (omega arith) in
    let long = are.lens in
    let rest = maps_same f g xs ys (record { lens = omega (arith, long); each = λ place a b lt. are.each (suc place) a b (omega (arith, lt)) }) in
    λ i. here i ∷ rest i

abreast_weaker : {X Y : Type 0} (P Q : X → Y → Type 0) (xs : List X) (ys : List Y) → ((x : X) (y : Y) → P x y → Q x y) → Abreast P xs ys → Abreast Q xs ys
abreast_weaker P Q xs ys weaker are = record { lens = are.lens; each = λ place x y lt. weaker (slice_index_or xs place x) (slice_index_or ys place y) (are.each place x y lt) }

module _ (closed : Closed) (has : HasClosed closed) where
  abbrev now : Setup
  now = routing_setup (stage_of closed.told.value.objects).routing

  -- the tasks are left as they were put back
  state_is : state_left (object_left_in closed closed.told.value.objects) has.returned ≡ state_in closed
  state_is =
      let same = maps_same (λ (task : ClosedTask). task.task.state) (λ (task : Returned). task.task) closed.tasks.items has.returned
      (abreast_weaker (IsReturned now) (λ (task : ClosedTask) (returned : Returned). task.task.state ≡ returned.task) closed.tasks.items has.returned (λ task returned is. is.task) has.tasks) in
      let state : List TaskState → State = λ tasks. record {
        objects = made_of (λ name. seen_at name (object_left_in closed closed.told.value.objects name).object);
        task = λ place. slice_index_or tasks place no_task;
      } in
      ap state (sym same)

  -- and its closes are those of the scenario
  closes_in : ClosesAs (setup_in (shared_scenario closed)) closed.told.value.objects (names_in closed) (history_in closed) (object_left_in closed closed.told.value.objects) has.returned closed.pass.value
  closes_in =
      subst (λ setup. ClosesAs setup closed.told.value.objects (names_in closed) (history_in closed) (object_left_in closed closed.told.value.objects) has.returned closed.pass.value)
      has.opened.setup has.closes

  firsts_in : map (λ (task : Returned). task.first) has.returned ≡ opened.opened_tasks (shared_scenario closed)
  firsts_in = has.firsts ∙ has.opened.tasks

  some_by : (name : Object) → All (λ (call : Call). 0 < call.by) (history_in closed name)
  some_by name =
      All-weaker (λ (call : Call). (0 < call.by) × (call.by ≤ length has.returned)) (λ (call : Call). 0 < call.by) (λ call h. h.0) (history_in closed name) (has.closes.numbers name)

  abbrev entries : List Call → List Ticketed
  entries calls = map ticketed (ticketed_in calls)

  -- the events of a task are those that its seats show
  module _ (place : ℕ) (task : ClosedTask) (at : slice_get closed.tasks.items place ≡ Some task) where
    within : place < length closed.tasks.items
    within = slice_get_within closed.tasks.items place task at

    returned_at : (returned : Returned) × (slice_get has.returned place ≡ Some returned) × IsReturned now task returned
    returned_at = by_two (slice_get_cases has.returned place).1
      where
        by_two : ((x : Returned) × (place < length has.returned) × (slice_get has.returned place ≡ Some x) × (get_or has.returned place x ≡ x))
            ⊎ ((length has.returned ≤ place) × (slice_get has.returned place ≡ None)) → (returned : Returned) × (slice_get has.returned place ≡ Some returned) × IsReturned now task returned
        by_two (inl (returned, lt, is, same)) = (
          returned,
          is,
          subst (λ t. IsReturned now t returned) (get_or_from_slice_get closed.tasks.items place task task at)
              (subst (IsReturned now (get_or closed.tasks.items place task)) same (has.tasks.each place task returned within)),
        )
        by_two (inr (le, none)) = absurd (let long = has.tasks.lens in let lt = within in omega (arith, le, long, lt))

    calls_are : (name : Object) → calls_by ((place + 1) ∷ []) (history_in closed name) ≡ calls_at (calls_of task.seats.value) name
    calls_are name =
        has.closes.calls name place returned_at.0 returned_at.1
        ∙ sym (All-at returned_at.0 returned_at.1 name)
        ∙ ap (λ (desk : DeskState). calls_at desk.calls name) (sym returned_at.2.desk)
      where
        All-at : (returned : Returned) → slice_get has.returned place ≡ Some returned → (name : Object) → calls_at returned.desk.calls name ≡ calls_to name returned.log
        All-at returned is name =
            subst (λ (r : Returned). calls_at r.desk.calls name ≡ calls_to name r.log) (get_or_from_slice_get has.returned place returned returned is)
            ((has.closes.logged place returned (slice_get_within has.returned place returned is)).0.calls name)

    picked : (names : List Object) → filter (is_by place) (all_of (entry_histories names (history_in closed))) ≡ all_of (entry_histories names (calls_at (calls_of task.seats.value)))
    picked [] = refl
    picked (name ∷ names) =
        filter-append (is_by place) (entries (history_in closed name)) (all_of (entry_histories names (history_in closed)))
        ∙ ap (λ l. l ++ filter (is_by place) (all_of (entry_histories names (history_in closed))))
        (picks_mine ticketed place (λ call. refl) (λ (call : Call). is_some call.told.ticket) (history_in closed name) (some_by name) ∙ ap entries (calls_are name))
        ∙ ap (λ l. entries (calls_at (calls_of task.seats.value) name) ++ l) (picked names)

    pub task_shows : done_by place (histories_in closed) ≡ sorted_by_ticket (all_of (histories_by closed task.seats.value))
    task_shows = ap sorted_by_ticket (picked (names_in closed))

  runnable : IsRunnable (shared_scenario closed)
  runnable = (accepted_texts_are_runnable closed.told.value.accepted.value closed.told.value.work.value has.opened.read).0

  closes : MergeIsEndedRun (shared_scenario closed) (shared_ledger closed) (histories_in closed) (ticket_numbers closed.pass.value.drawn)
      (state_left (object_left_in closed closed.told.value.objects) has.returned)
      × ((name : Object) → All DrewAsEvent (history_in closed name))
  closes =
      closes_are_runs closed.told.value (names_in closed) (history_in closed) (object_left_in closed closed.told.value.objects) has.returned closed.pass.value
      has.opened has.firsts has.closes has.found

  merged : MergeIsEndedRun (shared_scenario closed) (shared_ledger closed) (histories_in closed) (ticket_numbers closed.pass.value.drawn) (state_in closed)
  merged =
      subst (MergeIsEndedRun (shared_scenario closed) (shared_ledger closed) (histories_in closed) (ticket_numbers closed.pass.value.drawn)) state_is closes.0

  shows : (name : Object) → All HasTicket (history_in closed name) × All CarriesItsOwn (history_in closed name)
  shows name =
      history_shows name (unasked (opened_at closed.told.value.objects name)) (object_left_in closed closed.told.value.objects name) (history_in closed name) (has.closes.things name)

  -- as many events as the tasks had together
  counted : min (sum_by (λ (task : ClosedTask). task.events) closed.tasks.items) (2 ^ 64 - 1) ≡ length merged.run.0
  counted =
      let all = all_tasks (shared_scenario closed) closed.told.value.objects (names_in closed) (history_in closed) (object_left_in closed closed.told.value.objects) has.returned closed.pass.value closes_in firsts_in in
      let same = ap (λ histories. length (all_of histories)) (histories_are (names_in closed) (history_in closed) shows) in
      let long = merge_length (shared_scenario closed) (shared_ledger closed) (all_of (histories_in closed)) (state_in closed) merged.run in
      let bounded = runs_are_bounded (shared_scenario closed) (shared_ledger closed) merged.run.0 (state_in closed) runnable.scenario has.opened.one.holds.numbered merged.run.1 in
      let few = steps_fit_in_24_bits (shared_scenario closed) runnable in
      let sums = sums_stop (λ (task : ClosedTask). task.events) (λ (task : Returned). length (events_in task.log)) (2 ^ 64 - 1) closed.tasks.items has.returned
      (abreast_weaker (IsReturned now) (λ (task : ClosedTask) (returned : Returned). task.events ≡ min (length (events_in returned.log)) (2 ^ 64 - 1)) closed.tasks.items has.returned
      (λ task returned is. is.events) has.tasks) (omega (arith, all, same, long, bounded, few)) in
      omega (arith, sums, all, same, long, bounded, few)

  pub is_merged : (outcome : Outcome) → outcome.ended.statuses.items ≡ closed.tally.thing.object.statuses
      → outcome.ended.disks.items ≡ map (λ disk. disk.thing.object) closed.disks.items
      → outcome.ended.pools.items ≡ with_facts (pools_in closed has) FsBios ∷ with_facts (pools_in closed has) FsVecs ∷ falling_below (pools_in closed has) 32
      → outcome.ended.steps ≡ min (sum_by (λ (task : ClosedTask). task.events) closed.tasks.items) (2 ^ 64 - 1)
      → IsTrace closed.trace outcome.events → IsOutcomeOf closed outcome
  is_merged outcome statuses disks pools steps trace =
      let named = run_named closed.told.value has.opened merged.run.0 (state_in closed) merged.run.1 in
      let traced = trace_is closed has (state_in closed) merged.run outcome.events trace in
      record {
        events = merged.run.0;
        run = merged.run.1;
        merges = merged.run.2;
        tickets = closes.1;
        shows = task_shows;
        ends = merged.ended;
        unbroken = merged.unbroken;
        left = record {
          statuses = statuses;
          disks = disks ∙ disks_are closed has;
          pools = pools ∙ pools_are closed has;
          steps = steps ∙ counted;
        };
        naming = has.opened.one.holds.numbered;
        disks = λ number. (named.1.disk number).dev_is;
        named = named.0;
        traced = traced.0;
        trace = traced.1;
      }
