-- The keeper starts no more rounds than there are behind the first, so each that starts is there.
use Rattle.std.proofs.Common.{◌≡◌, ◌+◌, ◌-◌, ◌≤◌, ◌==◌, ◌++◌, cond, ℕ, Bool, true, false, List, [], ◌∷◌, Option, None, Some, length, filter, refl, sym, ◌∙◌, ap, subst, arith}
use Rattle.std.specs.Option.{is_some}
use Rattle.std.specs.Prelude.{IsTrue, map, sum_by}
use Rattle.std.specs.List.{range_with_len}
use Rattle.std.proofs.lemmas.Bool.{true≢false}
use Rattle.std.proofs.lemmas.List.Elements.{All-head, All-tail}
use Rattle.std.proofs.lemmas.List.FromFn.{length-map-range_with_len}
use Rattle.std.proofs.lemmas.List.Sums.{sum_by-append, sum_by-cons}
use Rattle.bio_books.specs.Kept.{one_if}
use Rattle.seat_lock.specs.History.{Leads}
use Rattle.stack_base.specs.declared.ids.PoolId.{PoolId}
use Rattle.run_machine.specs.declared.event.TaskId.{TaskId}
use Rattle.run_machine.specs.declared.event.TaskId.TheVariants as id
use Rattle.run_machine.specs.Events.{id_of}
use Rattle.run_machine.specs.Laws.{OfTally}
use Rattle.run_machine.specs.Submissions.{rests}
use Rattle.run_machine.specs.Objects.{TallyState}
use Rattle.run_machine.specs.Opened.{Scenario, device_at, duties, keepers, round_count, opened_tasks, todos_of, writers, writes_in}
use Rattle.run_machine.specs.Opened as opened
use Rattle.run_machine.specs.Requests.{Request, Reply, Done, NextRound, Did, OutIs}
use Rattle.run_machine.specs.Scene.{Setup, is_disk}
use Rattle.run_machine.specs.Tasks.{NoBio, Empty, Duty, Resizes, Starts, Keeps, Stops, TaskState, Writer, Rescuer, Completer, Keeper, request, answered, after_resize}
use Rattle.run_machine.proofs.OneState.{id_stays}
use Rattle.block_core.proofs.sound.TaskPosts.{starts}
use Rattle.block_core.proofs.start.PostsAtStart.{starts_all}
use Rattle.object_things.specs.Histories.{Call, drawn_in}
use Rattle.object_things.specs.Stamps.{ThingState, StepOf}
use Rattle.object_things.specs.Tallies.{TallyServes, TallyLooks}
use Rattle.shared_objects.specs.Calls.{struck}
use Rattle.shared_objects.specs.Kinds.{answers_at}
use Rattle.shared_objects.specs.Logs.{is_event}
use Rattle.run_merge.specs.Entries.{Entry, AreEvents}
use Rattle.run_merge.specs.Merging.{Ticketed}
use Rattle.run_merge.specs.Products.{EntriesLead, is_next_round}
use Rattle.run_merge.proofs.enough_shown.CallTickets.{events_told, events_untold}
use Rattle.run_merge.proofs.enough_shown.CallEvents.{drawn_entry, ticketed_events}
use Rattle.run_merge.proofs.enough_shown.ObjectHistories as calls
use Rattle.run_merge.proofs.enough_shown.LogLeads.{is_told}
use Rattle.run_merge.proofs.products.KeeperAsks.{is_keeping, writer_keeps_none, rescuer_keeps_none, completer_keeps_none}

-- how many rounds a task may start
abbrev pub starts_left : TaskState → ℕ
starts_left (Writer number todo taken submission) = 0
starts_left (Rescuer dev submission) = 0
starts_left (Completer disk carried) = 0
starts_left (Keeper (Keeps duties)) = starts duties
starts_left (Keeper (Stops breach)) = 0

is_keeper : TaskId → Bool
is_keeper id.Keeper = true
is_keeper other = false

no_starts : (task : TaskState) → is_keeper (id_of task) ≡ false → starts_left task ≡ 0
unfolding is_keeper
no_starts (Writer number todo taken submission) not = refl
no_starts (Rescuer dev submission) not = refl
no_starts (Completer disk carried) not = refl
no_starts (Keeper keeping) not = absurd (true≢false not)

keeps_none : (asked : Request) → is_keeping asked ≡ false → is_next_round asked ≡ false
keeps_none (NextRound round) not = absurd (true≢false not)
keeps_none asked not = refl

module _ (setup : Setup) where
  other_task : (task : TaskState) (asked : Request) (reply : Reply) → is_keeper (id_of task) ≡ false → asked ≡ struck (request setup task)
      → is_keeping (struck (request setup task)) ≡ false → starts_left (answered setup task reply) + one_if (is_next_round asked) ≤ starts_left task
  other_task task asked reply not asks none =
      let after = no_starts (answered setup task reply) (ap is_keeper (id_stays setup task reply) ∙ not) in
      let here = ap one_if (ap is_next_round asks ∙ keeps_none (struck (request setup task)) none) in
      omega (arith, after, here)

  resized : (pool : PoolId) (out : ℕ) (duties : List Duty) (home : Bool) → starts_left (Keeper (after_resize home pool out duties)) ≤ starts duties
  resized pool out duties true = omega arith
  resized pool out duties false = omega arith

  resizes : (pool : PoolId) (min later : ℕ) (duties : List Duty) (reply : Reply) → is_event (struck (request setup (Keeper (Keeps (Resizes pool min later ∷ duties))))) reply ≡ true
      → starts_left (answered setup (Keeper (Keeps (Resizes pool min later ∷ duties))) reply) ≤ starts duties
  resizes pool min later duties (OutIs out) event = resized pool out duties (out == 0)
  resizes pool min later duties reply event = absurd (true≢false (sym event))

  round_starts : (round later : ℕ) (duties : List Duty) (reply : Reply) → is_event (struck (request setup (Keeper (Keeps (Starts round later ∷ duties))))) reply ≡ true
      → starts_left (answered setup (Keeper (Keeps (Starts round later ∷ duties))) reply) ≡ starts duties
  round_starts round later duties Did event = refl
  round_starts round later duties reply event = absurd (true≢false (sym event))

  one_event : (task : TaskState) (asked : Request) (reply : Reply) → asked ≡ struck (request setup task) → is_event asked reply ≡ true
      → starts_left (answered setup task reply) + one_if (is_next_round asked) ≤ starts_left task
  unfolding is_keeper
  one_event (Writer number todo taken submission) asked reply asks event =
      other_task (Writer number todo taken submission) asked reply refl asks (writer_keeps_none setup number todo taken submission.doing submission)
  one_event (Rescuer dev submission) asked reply asks event = other_task (Rescuer dev submission) asked reply refl asks (rescuer_keeps_none setup dev submission.doing submission)
  one_event (Completer disk carried) asked reply asks event = other_task (Completer disk carried) asked reply refl asks (completer_keeps_none disk carried)
  one_event (Keeper (Keeps [])) asked reply asks event = absurd (true≢false (sym event ∙ ap (λ a. is_event a reply) asks))
  one_event (Keeper (Keeps (Resizes pool min later ∷ duties))) asked reply asks event =
      let here = ap (λ a. one_if (is_next_round a)) asks in
      let rest = resizes pool min later duties reply (sym (ap (λ a. is_event a reply) asks) ∙ event) in
      omega (arith, here, rest)
  one_event (Keeper (Keeps (Starts round later ∷ duties))) asked reply asks event =
      let here = ap (λ a. one_if (is_next_round a)) asks in
      let rest = round_starts round later duties reply (sym (ap (λ a. is_event a reply) asks) ∙ event) in
      omega (arith, here, rest)
  one_event (Keeper (Stops breach)) asked reply asks event = absurd (true≢false (sym event ∙ ap (λ a. is_event a reply) asks))

  -- those of its events are no more
  pub task_starts : (es : List Entry) (first now : TaskState) → AreEvents es → EntriesLead setup first es now
      → length (filter (λ (e : Entry). is_next_round e.asked) es) ≤ starts_left first
  task_starts [] first now events leads = omega arith
  task_starts (e ∷ es) first now events leads =
      by_test (is_next_round e.asked) refl
      (task_starts es (answered setup first e.reply) now (All-tail (λ (x : Entry). IsTrue (is_event x.asked x.reply)) e es events) leads.1)
    where
      step : starts_left (answered setup first e.reply) + one_if (is_next_round e.asked) ≤ starts_left first
      step = one_event first e.asked e.reply leads.0 (All-head (λ (x : Entry). IsTrue (is_event x.asked x.reply)) e es events)

      few : List Entry
      few = filter (λ (x : Entry). is_next_round x.asked) es

      by_test : (b : Bool) → is_next_round e.asked ≡ b → length few ≤ starts_left (answered setup first e.reply) → length (cond b (e ∷ few) few) ≤ starts_left first
      by_test true is rest = let one = ap one_if is in omega (arith, step, rest, one)
      by_test false is rest = omega (arith, step, rest)

-- rounds that a tally was asked to start are events of its history
starts_told : (old new : TallyState) (asked : Request) (reply : Reply) → TallyServes old asked reply new → is_event asked reply ≡ true
starts_told old new (Done write status) Did serves = refl
starts_told old new (Done write status) reply serves = absurd serves
starts_told old new (NextRound round) Did serves = refl
starts_told old new (NextRound round) reply serves = absurd serves
starts_told old new asked reply serves = absurd serves

abbrev pub rounds_of : List Ticketed → ℕ
rounds_of ns = length (filter (λ (n : Ticketed). is_next_round n.entry.asked) ns)

pub tally_starts : (history : List Call) (old new : ThingState TallyState) → Leads (answers_at OfTally) old history new
    → calls.starts (drawn_in history) ≤ rounds_of (ticketed_events history)
tally_starts [] old new leads = omega arith
tally_starts (call ∷ history) old new leads = by_ticket call.told.drawn leads.1.step (is_told call) refl (tally_starts history leads.0 new leads.2)
  where
    few : List Call
    few = drawn_in history

    events : List Ticketed
    events = ticketed_events history

    more : (b : Bool) → calls.starts few ≤ rounds_of events
        → length (cond b (call ∷ filter (λ (c : Call). is_next_round c.asked) few) (filter (λ (c : Call). is_next_round c.asked) few))
        ≤ length (cond b (drawn_entry call ∷ filter (λ (n : Ticketed). is_next_round n.entry.asked) events) (filter (λ (n : Ticketed). is_next_round n.entry.asked) events))
    more true rest = omega (arith, rest)
    more false rest = rest

    fewer : (b : Bool) → calls.starts few ≤ rounds_of events
        → calls.starts few
        ≤ length (cond b (drawn_entry call ∷ filter (λ (n : Ticketed). is_next_round n.entry.asked) events) (filter (λ (n : Ticketed). is_next_round n.entry.asked) events))
    fewer true rest = omega (arith, rest)
    fewer false rest = rest

    by_ticket : (ticket : Option ℕ) → StepOf TallyServes TallyLooks old call.asked call.told.reply ticket leads.0 → (told : Bool) → is_told call ≡ told
        → calls.starts few ≤ rounds_of events → calls.starts (cond (is_some ticket) (call ∷ few) few) ≤ rounds_of (ticketed_events (call ∷ history))
    by_ticket (Some n) step true is rest =
        subst (λ ns. calls.starts (call ∷ few) ≤ rounds_of ns) (sym (events_told call history is)) (more (is_next_round call.asked) rest)
    by_ticket (Some n) step false is rest = absurd (true≢false (sym (starts_told old.object leads.0.object call.asked call.told.reply step.0) ∙ is))
    by_ticket None step true is rest = subst (λ ns. calls.starts few ≤ rounds_of ns) (sym (events_told call history is)) (fewer (is_next_round call.asked) rest)
    by_ticket None step false is rest = subst (λ ns. calls.starts few ≤ rounds_of ns) (sym (events_untold call history is)) rest

-- the tasks of a scenario start each round but the first
module _ (s : Scenario) where
  none_of : {X : Type 0} (f : X → TaskState) (xs : List X) → ((x : X) → starts_left (f x) ≡ 0) → sum_by starts_left (map f xs) ≡ 0
  none_of f [] none = refl
  none_of f (x ∷ xs) none =
      let here = none x in let rest = none_of f xs none in let more = sum_by-cons starts_left (f x) (map f xs) in omega (arith, here, rest, more)

  keeper_starts : (ds : List Duty) → sum_by starts_left (keepers ds) ≡ starts ds
  keeper_starts [] = refl
  keeper_starts (duty ∷ ds) = let more = sum_by-cons starts_left (Keeper (Keeps (duty ∷ ds))) [] in omega (arith, more)

  pub tasks_start : sum_by starts_left (opened_tasks s) ≡ round_count s - 1
  tasks_start =
      let a = none_of (λ writer. Writer writer (todos_of s writer) NoBio rests) (writers s) (λ x. refl) in
      let b = none_of (λ dev. Rescuer (device_at dev) rests) (filter (opened.setup_in s).rescuer (range_with_len 0 (opened.setup_in s).count)) (λ x. refl) in
      let c = none_of (λ dev. Completer (device_at dev) Empty) (filter (is_disk (opened.setup_in s)) (range_with_len 0 (opened.setup_in s).count)) (λ x. refl) in
      let d = keeper_starts (duties s) in
      let e = starts_all s 1 (round_count s - 1) in
      let x = sum_by-append starts_left (map (λ writer. Writer writer (todos_of s writer) NoBio rests) (writers s))
      (map (λ dev. Rescuer (device_at dev) rests) (filter (opened.setup_in s).rescuer (range_with_len 0 (opened.setup_in s).count))
      ++ (map (λ dev. Completer (device_at dev) Empty) (filter (is_disk (opened.setup_in s)) (range_with_len 0 (opened.setup_in s).count)) ++ keepers (duties s))) in
      let y = sum_by-append starts_left (map (λ dev. Rescuer (device_at dev) rests) (filter (opened.setup_in s).rescuer (range_with_len 0 (opened.setup_in s).count)))
      (map (λ dev. Completer (device_at dev) Empty) (filter (is_disk (opened.setup_in s)) (range_with_len 0 (opened.setup_in s).count)) ++ keepers (duties s)) in
      let z = sum_by-append starts_left (map (λ dev. Completer (device_at dev) Empty) (filter (is_disk (opened.setup_in s)) (range_with_len 0 (opened.setup_in s).count))) (keepers (duties s)) in
      omega (arith, a, b, c, d, e, x, y, z)

  pub rounds_there : length (opened.objects s).tally.left ≡ round_count s
  rounds_there = length-map-range_with_len (writes_in s) 0 (round_count s)
