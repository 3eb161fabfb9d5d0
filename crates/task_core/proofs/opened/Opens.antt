-- What was opened of a text of which no line is refused.
use Rattle.std.proofs.Common.{◌≡◌, ◌-◌, ◌<◌, ◌≤◌, ◌==◌, ◌++◌, ◌&&◌, if◌then◌else◌, ℕ, Bool, true, false, List, [], ◌∷◌, length, map, filter, get_or, max, replicate, None, refl, sym, ap, subst, ◌∙◌, arith}
use Rattle.std.specs.Prelude.{All, IsTrue, nat_lt, sum_by}
use Rattle.std.specs.List.{list_any, range_with_len}
use Rattle.std.proofs.lemmas.List.{length-replicate}
use Rattle.std.proofs.lemmas.List.Elements.{All-append, All-cons, All-filter, All-map, All-nil, All-weaker}
use Rattle.std.proofs.lemmas.List.Sums.{sum_by-cons}
use Rattle.std.proofs.lemmas.Bool.{eq-eqb, lt-ltb}
use Rattle.fail_script.specs.Script.{Answers}
use Rattle.stack_base.specs.declared.ids.PoolId.{PoolId}
use Rattle.stack_base.specs.declared.stack.Stack.{Stack}
use Rattle.stack_base.specs.PoolId.{pool_number}
use Rattle.stack_base.specs.Stack.{HasRescuers, IsStack}
use Rattle.stack_base.specs.Tree.{size, tree}
use Rattle.stack_base.proofs.ListLemmas.{unmapped}
use Rattle.layout_model.specs.declared.write.Write.{Write}
use Rattle.layout_model.specs.May.{bads_of}
use Rattle.layout_model.specs.NeedCounts.{nodes}
use Rattle.layout_model.specs.Writes.{IsWrite}
use Rattle.model_disks.specs.Moves as disk
use Rattle.mempool_core.specs.Move as pool
use Rattle.decl_text.specs.Accepting.{shown_devices}
use Rattle.decl_text.specs.declared.accepted.Accepted.{Accepted}
use Rattle.work_text.specs.Fit.{IsPoolIn}
use Rattle.work_text.specs.declared.Resize.{Resize}
use Rattle.work_text.specs.declared.Work.{Work}
use Rattle.task_core.specs.declared.opening.Opened.{Opened}
use Rattle.run_machine.specs.Events.{pool_of}
use Rattle.task_steps.specs.Homes.{TodoFits, IsSubmissionOf, IsOwned, DutyFits, IsTaskOf}
use Rattle.task_core.specs.Leaving.{IsReservedForRun}
use Rattle.run_machine.specs.Submissions.{rests}
use Rattle.task_core.specs.opened.NewTasks.{AreServableWrites, others_in, reserves_in}
use Rattle.task_core.specs.opened.OpenTasks.{AreTasksOf}
use Rattle.run_machine.specs.Objects.{Objects, TallyState}
use Rattle.task_core.specs.opened.OfOne.{states, AreOfOne, IsOpened, scenario_in}
use Rattle.run_machine.specs.ReadBehind.{IsReadBehind}
use Rattle.run_machine.specs.Opened.{Change, Scenario, device_at, is_by, todos, todos_of, writers, places_of, reserve_of, script_at, keepers, duties, duties_of, writes_from, round_count, opened_tasks, writers_of, tally_in}
use Rattle.run_machine.specs.Opened as opened
use Rattle.task_core.specs.opened.Openings.{widest, AreOpened, AreRows}
use Rattle.task_core.specs.Plains.{objects_of, stage_of}
use Rattle.task_steps.specs.Routed.{Routing, places_at, routing_setup}
use Rattle.run_machine.specs.Scenario.{change_of}
use Rattle.run_machine.specs.Scene.{Setup, is_disk}
use Rattle.task_steps.specs.Stage.{Stage, has_book, is_pool}
use Rattle.task_steps.specs.TaskViews.{TaskOf}
use Rattle.run_machine.specs.Tasks.{Todo, NoBio, Empty, Duty, Resizes, Starts, TaskState, Writer, Rescuer, Completer, Keeper, Keeps}
use Rattle.run_machine.proofs.Passing.{below_all}
use Rattle.task_steps.specs.Within.{IsItemWithin}
use Rattle.task_core.proofs.opened.MeantAsAsked.{fit_work, shared}
use Rattle.task_core.proofs.opened.ScriptsBehind.{all_flat}
use Rattle.task_core.proofs.opened.PoolsBehind.{pool_known, pool_there}
use Rattle.task_core.proofs.opened.NewPools.{widest_least}
use Rattle.task_core.proofs.opened.Setups as shown
use Rattle.task_core.proofs.opened.WritesSharedOut.{any_some, numbered_all, numbers_below}

-- the largest reserve is no less than each
abbrev grown : PoolId × ℕ → ℕ → ℕ → ℕ
grown reserve number most = if pool_number reserve.0 == number then max most reserve.1 else most

abbrev IsNarrower : List (PoolId × ℕ) → ℕ → ℕ → PoolId × ℕ → Type 0
IsNarrower reserves number most reserve = pool_number reserve.0 ≡ number → reserve.1 ≤ widest reserves number most

widest_has : (reserves : List (PoolId × ℕ)) (number most : ℕ) → All (IsNarrower reserves number most) reserves
widest_has [] number most = All-nil (IsNarrower [] number most)
widest_has (reserve ∷ reserves) number most =
    All-cons (IsNarrower (reserve ∷ reserves) number most) reserve reserves first (widest_has reserves number (grown reserve number most))
  where
    first : IsNarrower (reserve ∷ reserves) number most reserve
    first e =
        let same = eq-eqb (pool_number reserve.0) number e in
        let least = widest_least reserves number (max most reserve.1) in
        let grows : max most reserve.1 ≤ widest reserves number (grown reserve number most) = rw (same) least in omega (arith, grows)

-- what passes a test
all_passing : {X : Type 0} (p : X → Bool) (xs : List X) → All (λ x. p x ≡ true) (filter p xs)
all_passing p [] = All-nil (λ x. p x ≡ true)
all_passing p (x ∷ xs) = by_test (all_passing p xs) (p x) refl
  where
    by_test : All (λ x. p x ≡ true) (filter p xs) → (b : Bool) → p x ≡ b → All (λ x. p x ≡ true) (filter p (x ∷ xs))
    by_test rest true q =
        let is : x ∷ filter p xs ≡ filter p (x ∷ xs) = rw (q) refl in
        subst (All (λ x. p x ≡ true)) is (All-cons (λ x. p x ≡ true) x (filter p xs) q rest)
    by_test rest false q = let is : filter p xs ≡ filter p (x ∷ xs) = rw (q) refl in subst (All (λ x. p x ≡ true)) is rest

-- the tasks of a scenario are at home in objects of it
module _ (s : Scenario) (stage : Stage) (stacks : stage.routing.stack ≡ s.stack) (setups : routing_setup stage.routing ≡ opened.setup_in s)
    (many : stage.writes ≡ length s.writes) (paired : length s.rounds ≡ length s.writes) (served : All (IsWrite s.stack) s.writes)
    (segments : All (λ (write : Write). write.count ≤ 2048) s.writes) (changes : All (λ (change : Change). IsTrue (is_pool stage change.pool) × (1 ≤ change.min) × (change.min ≤ stage.most (pool_number change.pool))) s.changes) where
  new_submission : IsSubmissionOf stage rests
  new_submission = record {
    fits = record { doing = tt; lists = (All-nil (IsItemWithin stage.routing.stack), All-nil (IsItemWithin stage.routing.stack)) };
    doing = tt;
    list0 = All-nil (IsOwned stage);
    list1 = All-nil (IsOwned stage);
  }

  todos_fit : All (TodoFits stage) (todos s)
  todos_fit = λ k d lt. record {
    write = subst (λ (st : Stack). IsWrite st (get_or (todos s) k d).write) (sym stacks) (numbered_all (IsWrite s.stack) 0 s.rounds s.writes paired served k d lt);
    number = let below = numbers_below 0 s.rounds s.writes paired k d lt in omega (arith, below, many);
    few = numbered_all (λ (write : Write). write.count ≤ 2048) 0 s.rounds s.writes paired segments k d lt;
  }

  writer_booked : (writer : ℕ) → list_any (is_by writer) (todos s) ≡ true → has_book stage writer ≡ true
  writer_booked writer is =
      let found = any_some (is_by writer) (todos s) is in
      let first = sum_by-cons (λ (todo : Todo). nodes s.stack todo.write) found.first found.more in
      let whole : places_of s writer ≡ sum_by (λ (todo : Todo). nodes s.stack todo.write) (found.first ∷ found.more) =
      ap (sum_by (λ (todo : Todo). nodes s.stack todo.write)) found.is in
      let places : places_at stage.routing.places writer ≡ places_of s writer = ap (λ (su : Setup). su.places writer) setups in
      lt-ltb 0 (places_at stage.routing.places writer) (omega (arith, first, whole, places))

  writers_home : All (IsTaskOf stage) (map (λ writer. Writer writer (todos_of s writer) NoBio rests) (writers s))
  writers_home =
      All-map (IsTaskOf stage) (λ writer. Writer writer (todos_of s writer) NoBio rests) (writers s)
      (All-weaker (λ writer. list_any (is_by writer) (todos s) ≡ true) (λ writer. IsTaskOf stage (Writer writer (todos_of s writer) NoBio rests))
      (λ writer is. (writer_booked writer is, All-filter (is_by writer) (TodoFits stage) (todos s) todos_fit, tt, new_submission))
      (writers s) (all_passing (λ writer. list_any (is_by writer) (todos s)) (range_with_len 0 8)))

  rescuers_home : All (IsTaskOf stage) (map (λ dev. Rescuer (device_at dev) rests) (filter (opened.setup_in s).rescuer (range_with_len 0 (opened.setup_in s).count)))
  rescuers_home =
      All-map (IsTaskOf stage) (λ dev. Rescuer (device_at dev) rests) (filter (opened.setup_in s).rescuer (range_with_len 0 (opened.setup_in s).count))
      (λ k d lt.
      let devices = filter (opened.setup_in s).rescuer (range_with_len 0 (opened.setup_in s).count) in
      let has : (opened.setup_in s).rescuer (get_or devices k d) ≡ true = all_passing (opened.setup_in s).rescuer (range_with_len 0 (opened.setup_in s).count) k d lt in
      let below = All-filter (opened.setup_in s).rescuer (λ dev. dev < (opened.setup_in s).count) (range_with_len 0 (opened.setup_in s).count)
      (below_all (opened.setup_in s).count) k d lt in
      let known = lt-ltb (get_or devices k d) (opened.setup_in s).count below in
      let both : (nat_lt (get_or devices k d) (opened.setup_in s).count && (opened.setup_in s).rescuer (get_or devices k d)) ≡ true =
      ap (λ b. b && (opened.setup_in s).rescuer (get_or devices k d)) known ∙ has in
      (ap (λ (su : Setup). nat_lt (get_or devices k d) su.count && su.rescuer (get_or devices k d)) setups ∙ both, new_submission))

  completers_home : All (IsTaskOf stage) (map (λ dev. Completer (device_at dev) Empty) (filter (is_disk (opened.setup_in s)) (range_with_len 0 (opened.setup_in s).count)))
  completers_home =
      All-map (IsTaskOf stage) (λ dev. Completer (device_at dev) Empty) (filter (is_disk (opened.setup_in s)) (range_with_len 0 (opened.setup_in s).count))
      (All-weaker (λ dev. is_disk (opened.setup_in s) dev ≡ true) (λ dev. IsTaskOf stage (Completer (device_at dev) Empty))
      (λ dev is. (ap (λ (su : Setup). is_disk su dev) setups ∙ is, tt)) (filter (is_disk (opened.setup_in s)) (range_with_len 0 (opened.setup_in s).count))
      (all_passing (is_disk (opened.setup_in s)) (range_with_len 0 (opened.setup_in s).count)))

  abbrev at_round : ℕ → Change → Bool
  at_round round change = change.round == round

  round_home : (round : ℕ) → All (DutyFits stage) (duties_of s round)
  round_home round =
      All-append (DutyFits stage) (map (λ (change : Change). Resizes change.pool change.min (writes_from s round)) (filter (at_round round) s.changes))
      (Starts round (writes_from s round) ∷ [])
      (All-map (DutyFits stage) (λ (change : Change). Resizes change.pool change.min (writes_from s round)) (filter (at_round round) s.changes)
      (All-filter (at_round round) (λ (change : Change). IsTrue (is_pool stage change.pool) × (1 ≤ change.min) × (change.min ≤ stage.most (pool_number change.pool))) s.changes changes))
      (All-cons (DutyFits stage) (Starts round (writes_from s round)) [] tt (All-nil (DutyFits stage)))

  keepers_home : (given : List Duty) → All (DutyFits stage) given → All (IsTaskOf stage) (keepers given)
  keepers_home [] all = All-nil (IsTaskOf stage)
  keepers_home (duty ∷ given) all = All-cons (IsTaskOf stage) (Keeper (Keeps (duty ∷ given))) [] all (All-nil (IsTaskOf stage))

  tasks_home : All (IsTaskOf stage) (opened_tasks s)
  tasks_home =
      All-append (IsTaskOf stage) (map (λ writer. Writer writer (todos_of s writer) NoBio rests) (writers s)) _ writers_home
      (All-append (IsTaskOf stage) (map (λ dev. Rescuer (device_at dev) rests) (filter (opened.setup_in s).rescuer (range_with_len 0 (opened.setup_in s).count))) _ rescuers_home
      (All-append (IsTaskOf stage) (map (λ dev. Completer (device_at dev) Empty) (filter (is_disk (opened.setup_in s)) (range_with_len 0 (opened.setup_in s).count))) _ completers_home
      (keepers_home (duties s) (all_flat (DutyFits stage) (duties_of s) (range_with_len 1 (round_count s - 1))
      (λ k d lt. round_home (get_or (range_with_len 1 (round_count s - 1)) k d))))))

-- objects by their stack and the places of their books
abbrev objects_by : Stack → (ℕ → ℕ) → List (PoolId × Answers) → TallyState → Objects
objects_by stack places scripts tally = record {
  pool = λ number. pool.opened (reserve_of stack (pool_of number)) (script_at scripts number);
  rescue = λ dev. [];
  disk = λ dev. disk.blank_disk (device_at dev) (size (tree stack dev)) (bads_of stack dev);
  book = λ writer. record { writer = writer; nodes = replicate (places writer) None };
  tally = tally;
}

module _ (o : Opened) (routing : Routing) (counts : List ℕ) (read : IsReadBehind o.accepted.value o.work.value)
    (rescuers : HasRescuers o.accepted.value.stack)
    (are : AreTasksOf o.accepted.value.stack o.work.value routing o.tasks.items counts)
    (objects : AreOpened routing o.accepted.value.scripts.items (reserves_in o.work.value.resizes.items)
    (tally_in o.work.value.rounds.items o.work.value.writes.items) o.objects)
    (shared_are : o.routes.value ≡ routing)
    (room : IsReservedForRun o.accepted.value.stack (length o.work.value.writes.items) o.room) where
  abbrev s : Scenario
  s = scenario_in o

  abbrev stage : Stage
  stage = stage_of o.objects

  sharing : AreServableWrites s.stack s.rounds s.writes
  sharing = shared o.accepted.value o.work.value read

  same : routing.stack ≡ s.stack
  same = are.stack

  all_places : ◌≡◌ {A = ℕ → ℕ} (places_at routing.places) (places_of s)
  all_places = shown.all_places s.stack s.scripts o.work.value sharing routing o.tasks.items counts are

  setup_here : routing_setup stage.routing ≡ opened.setup_in s
  setup_here = ap routing_setup objects.routing_is ∙ shown.setup_is s.stack s.scripts o.work.value sharing routing o.tasks.items counts are

  stack_here : stage.routing.stack ≡ s.stack
  stack_here = ap (λ (r : Routing). r.stack) objects.routing_is ∙ same

  many : stage.writes ≡ length s.writes
  many = ap (λ (os : Objects). length os.tally.statuses) objects.objects ∙ length-replicate (length s.writes) _

  objects_are : objects_of o.objects ≡ opened.objects s
  objects_are =
      objects.objects ∙ ap (λ (st : Stack). objects_by st (places_at routing.places) s.scripts (tally_in s.rounds s.writes)) same
      ∙ ap (λ places. objects_by s.stack places s.scripts (tally_in s.rounds s.writes)) all_places

  states_are : states o.tasks.items ≡ opened_tasks s
  states_are = shown.states_are s.stack s.scripts o.work.value sharing routing o.tasks.items counts are

  -- the changes of reserves
  abbrev ChangeFits : Change → Type 0
  ChangeFits change = IsTrue (is_pool stage change.pool) × (1 ≤ change.min) × (change.min ≤ stage.most (pool_number change.pool))

  good : IsStack routing.stack
  good = subst IsStack (sym same) o.accepted.value.is_stack

  changes_fit : All ChangeFits s.changes
  changes_fit =
      All-map ChangeFits change_of o.work.value.resizes.items
      (λ k d lt.
      let resizes = o.work.value.resizes.items in
      let resize : Resize = get_or resizes k d in
      let number = pool_number resize.pool in
      let fit = fit_work o.accepted.value o.work.value read in
      let in_stack : IsPoolIn (shown_devices s.stack) resize.pool = fit.pools k d lt in
      let in_routing : IsPoolIn (shown_devices routing.stack) resize.pool = subst (λ (st : Stack). IsPoolIn (shown_devices st) resize.pool) (sym same) in_stack in
      let in_stage : IsPoolIn (shown_devices stage.routing.stack) resize.pool = subst (λ (st : Stack). IsPoolIn (shown_devices st) resize.pool) (sym stack_here) in_stack in
      let wide = objects.most number (pool_there routing good resize.pool in_routing) in
      let reserve = reserve_of routing.stack (pool_of number) in
      let has = unmapped (IsNarrower (reserves_in resizes) number reserve) (λ (r : Resize). (r.pool, r.min)) resizes
      (widest_has (reserves_in resizes) number reserve) k d lt refl in
      (pool_known stage (subst IsStack (sym stack_here) o.accepted.value.is_stack) resize.pool in_stage, (fit.reserves k d lt).0, omega (arith, wide, has)))

  of_one : AreOfOne o.objects o.tasks.items
  of_one = record {
    holds = objects.holds;
    routing = subst (All (λ (task : TaskOf). task.routing ≡ stage.routing)) (sym are.tasks)
        (All-map (λ (task : TaskOf). task.routing ≡ stage.routing) (λ (task : TaskState). record { routing = routing; state = task })
        (writers_of s.rounds s.writes (range_with_len 0 8) ++ others_in (routing_setup routing) o.work.value)
        (λ k d lt. sym objects.routing_is));
    home = unmapped (IsTaskOf stage) (λ (task : TaskOf). task.state) o.tasks.items (subst (All (IsTaskOf stage)) (sym states_are)
        (tasks_home s stage stack_here setup_here many sharing.paired sharing.served (fit_work o.accepted.value o.work.value read).segments changes_fit));
  }

  pub is_opened : IsOpened o
  is_opened = record {
    read = read;
    rescuers = rescuers;
    one = of_one;
    routes = shared_are ∙ sym objects.routing_is;
    stack = stack_here;
    setup = setup_here;
    writes = many;
    objects = objects_are;
    tasks = states_are;
    rows = subst (λ (r : Routing). AreRows r o.accepted.value.scripts.items (reserves_in o.work.value.resizes.items) o.objects) (sym objects.routing_is) objects.rows;
    room = room;
  }

-- the same by what it was opened of
module _ (o : Opened) (routing : Routing) (counts : List ℕ) where
  abbrev Facts : Accepted → Work → Type 0
  Facts accepted work =
      IsReadBehind accepted work × HasRescuers accepted.stack × AreTasksOf accepted.stack work routing o.tasks.items counts
      × AreOpened routing accepted.scripts.items (reserves_in work.resizes.items) (tally_in work.rounds.items work.writes.items) o.objects
      × IsReservedForRun accepted.stack (length work.writes.items) o.room

  pub opened_of : (accepted : Accepted) (work : Work) → o.accepted.value ≡ accepted → o.work.value ≡ work → o.routes.value ≡ routing → Facts accepted work → IsOpened o
  opened_of accepted work is also shared_are given =
      let facts : Facts o.accepted.value o.work.value = subst (λ a. Facts a o.work.value) (sym is) (subst (Facts accepted) (sym also) given) in
      is_opened o routing counts facts.0 facts.1 facts.2 facts.3 shared_are facts.4
