-- What is opened of a text is the state in which its runs begin.
use Rattle.std.proofs.Common.{◌≡◌, ◌/◌, ◌%◌, ◌<◌, ◌≤◌, ◌==◌, inl, inr, ℕ, Bool, true, false, cond, List, [], ◌∷◌, length, map, find, replicate, refl, sym, ap, ◌∙◌, subst, arith, Option, None, Some, zero-add}
use Rattle.std.specs.Prelude.{All, slice_get, slice_index_or, filter}
use Rattle.std.specs.List.{range_with_len}
use Rattle.std.specs.Option.{option_map_or}
use Rattle.std.proofs.lemmas.Bool.Decides.{nat_tests}
use Rattle.std.proofs.lemmas.List.{get_or-replicate, get_or_past, length-replicate}
use Rattle.std.proofs.lemmas.List.Elements.{All-append, All-cons, All-head, All-map, All-nil, All-tail, All-weaker}
use Rattle.std.proofs.lemmas.List.FromFn.{get_or-map-range_with_len, length-map-range_with_len}
use Rattle.std.proofs.lemmas.Option.{slice_get_past}
use Rattle.std.proofs.lemmas.Bool.{cases_lt}
use Rattle.fail_script.specs.Script.{Answers, only_tail}
use Rattle.stack_base.specs.declared.ids.PoolId.{PoolId}
use Rattle.stack_base.specs.declared.ids.Status.TheVariants as status
use Rattle.stack_base.specs.declared.stack.Device.{Device}
use Rattle.stack_base.specs.declared.stack.Stack.{Stack}
use Rattle.stack_base.specs.PoolId.{IsOfStack, pool_number}
use Rattle.stack_base.specs.Tree.{size, tree}
use Rattle.stack_base.proofs.PoolNumbers.{pool_number_le}
use Rattle.layout_model.specs.declared.write.Write.{Write}
use Rattle.layout_model.specs.NeedCounts.{elements, nodes}
use Rattle.mempool_core.specs.Move.{PoolState, opened}
use Rattle.bio_records.specs.declared.bio.Pad.{Pad}
use Rattle.bio_records.specs.Items.{Item}
use Rattle.model_disks.specs.Disks.{DiskState}
use Rattle.work_text.specs.declared.Work.{Work}
use Rattle.run_machine.specs.Events.{pool_of}
use Rattle.run_machine.specs.Submissions.{rests}
use Rattle.run_machine.specs.Opened.{Scenario, device_at, duties, is_numbered, keepers, no_task, objects, places_of, records_of, reserve_of, setup_in, opened_tasks, todos_of, writers, in_round, left_in, rounds_in, opened_disk}
use Rattle.task_steps.specs.Routed.{Routing, places_at, routing_setup}
use Rattle.run_machine.specs.Scene.{is_disk, keeps_data, setup_of}
use Rattle.run_machine.specs.Tasks.{Duty, TaskState, Writer, Rescuer, Completer, Keeper, Keeps, NoBio, Empty}
use Rattle.run_machine.specs.Scenario.{scenario_by}
use Rattle.task_steps.specs.Within.{AreWithin, IsItemWithin, SubmissionIsWithin, TaskIsWithin}
use Rattle.plain_core.specs.Cores.{CoreState, AreFound, IsCore}
use Rattle.plain_core.specs.objects.Ledgers.{ledger_of}
use Rattle.plain_core.specs.opening.Opening.{core_objects_of, CanOpen, IsOpenedCore, new_book, new_books, new_disk, new_disks, new_pool, new_pools}
use Rattle.plain_core.specs.objects.Plain.{CoreObjects, HasPlacesForStack, HasSize, disk_or, no_core_pool, objects_of_core}
use Rattle.task_core.specs.opened.NewTasks.{AreServableWrites}
use Rattle.task_core.proofs.opened.MeantAsAsked.{sum_le}
use Rattle.task_core.proofs.opened.Setups.{no_writer}
use Rattle.task_core.proofs.opened.WritesSharedOut.{share_served}

abbrev no_bios : List (Item Pad)
no_bios = []

-- pools of no stack have no reserve and no script
is_false : (a b : ℕ) → a ≤ 65 → 66 ≤ b → (a == b) ≡ false
is_false a b small great = grind (arith, nat_tests)

no_script : (scripts : List (PoolId × Answers)) (number : ℕ) → All (λ (script : PoolId × Answers). IsOfStack script.0) scripts → 66 ≤ number
    → find (is_numbered number) scripts ≡ None
no_script [] number are great = refl
no_script (x ∷ xs) number are great =
    let e = is_false (pool_number x.0) number (pool_number_le x.0 (All-head (λ (script : PoolId × Answers). IsOfStack script.0) x xs are)) great in
    rw (e) (no_script xs number (All-tail (λ (script : PoolId × Answers). IsOfStack script.0) x xs are) great)

not_number : (number fixed : ℕ) → fixed ≤ 65 → 66 ≤ number → (number == fixed) ≡ false
not_number number fixed small great = grind (arith, nat_tests)

no_reserve : (stack : Stack) (number : ℕ) → length stack.devices.items ≤ 32 → 66 ≤ number → reserve_of stack (pool_of number) ≡ 0
no_reserve stack number few great = by_test (number % 2 == 0) refl
  where
    half : 33 ≤ number / 2
    half = omega (arith, great)

    none : slice_get stack.devices.items (number / 2) ≡ None
    none = slice_get_past stack.devices.items (number / 2) (omega (arith, few, half))

    by_test : (b : Bool) → (number % 2 == 0) ≡ b → reserve_of stack (pool_of number) ≡ 0
    by_test true e = rw (not_number number 65 (omega arith) great, not_number number 64 (omega arith) great, e)
        (ap (λ o. option_map_or (λ (device : Device). device.reserve) o 0) none)
    by_test false e = rw (not_number number 65 (omega arith) great, not_number number 64 (omega arith) great, e)
        (ap (λ o. option_map_or (λ (device : Device). records_of device.kind) o 0) none)

module _ (stack : Stack) (scripts : List (PoolId × Answers)) where
  rescue_is : (dev : ℕ) → slice_index_or (replicate (length stack.devices.items) []) dev [] ≡ no_bios
  rescue_is dev = elim (cases_lt dev (length stack.devices.items)) [
    | inl lt ↦ get_or-replicate (length stack.devices.items) dev [] [] lt
    | inr le ↦ get_or_past (replicate (length stack.devices.items) []) dev [] (omega (arith, le, length-replicate {A = List (Item Pad)} (length stack.devices.items) []))
  ]

  either_disk : (b : Bool) (d : DiskState) → disk_or (cond b (Some d) None) d ≡ d
  either_disk true d = refl
  either_disk false d = refl

  disk_is : (dev : ℕ) → disk_or (slice_index_or (new_disks stack (length stack.devices.items)) dev None) (opened_disk stack dev) ≡ opened_disk stack dev
  disk_is dev = elim (cases_lt dev (length stack.devices.items)) [
    | inl lt ↦
        ap (λ o. disk_or o (opened_disk stack dev)) (get_or-map-range_with_len (new_disk stack) 0 (length stack.devices.items) dev dev None lt (zero-add dev))
        ∙ either_disk (keeps_data (tree stack dev)) (opened_disk stack dev)
    | inr le ↦
        ap (λ o. disk_or o (opened_disk stack dev))
        (get_or_past (new_disks stack (length stack.devices.items)) dev None (omega (arith, le, length-map-range_with_len (new_disk stack) 0 (length stack.devices.items))))
  ]

  -- there is a place for all
  pub has_places : (pools : List PoolState) (rescues : List (List (Item Pad))) (disks : List (Option DiskState)) → pools ≡ new_pools stack scripts 66
      → rescues ≡ replicate (length stack.devices.items) [] → disks ≡ new_disks stack (length stack.devices.items) → HasPlacesForStack stack pools rescues disks
  has_places pools rescues disks are_pools are_rescues are_disks = record {
    pool = omega (arith, ap length are_pools, length-map-range_with_len (new_pool stack scripts) 0 66);
    rescue = omega (arith, ap length are_rescues, length-replicate {A = List (Item Pad)} (length stack.devices.items) []);
    disk = λ dev lt keeps.
        subst (HasSize (size (tree stack dev)))
        (sym (ap (λ ds. slice_index_or ds dev None) are_disks
        ∙ get_or-map-range_with_len (new_disk stack) 0 (length stack.devices.items) dev dev None lt (zero-add dev)
        ∙ ap (λ b. cond b (Some (opened_disk stack dev)) None) keeps))
        (length-replicate (size (tree stack dev)) _);
    within = λ dev. subst (AreWithin stack) (sym (ap (λ rs. slice_index_or rs dev []) are_rescues ∙ rescue_is dev)) (All-nil (IsItemWithin stack));
  }

-- there are so many rounds
pub round_count : (rounds left : List ℕ) → left ≡ left_in rounds → length left ≡ rounds_in rounds
round_count rounds left is = ap length is ∙ length-map-range_with_len (in_round rounds) 0 (rounds_in rounds)

rest_fits : (stack : Stack) → SubmissionIsWithin stack rests
rest_fits stack = record { doing = tt; lists = (All-nil (IsItemWithin stack), All-nil (IsItemWithin stack)) }

keeper_fits : (stack : Stack) (duties : List Duty) → All (TaskIsWithin stack) (keepers duties)
keeper_fits stack [] = All-nil (TaskIsWithin stack)
keeper_fits stack (duty ∷ duties) = All-cons (TaskIsWithin stack) (Keeper (Keeps (duty ∷ duties))) [] tt (All-nil (TaskIsWithin stack))

module _ (stack : Stack) (scripts : List (PoolId × Answers)) (work : Work) (can : CanOpen stack scripts work) where
  abbrev s : Scenario
  s = scenario_by stack scripts work

  -- its writes can be shared out
  pub shared : AreServableWrites stack work.rounds.items work.writes.items
  shared =
      let allowed = can.allowed in
      let below = sum_le (nodes stack) (elements stack) work.writes.items (λ write. omega arith) in
      record {
        served = can.served;
        writers = All-weaker (λ (write : Write). write.task ≤ 7) (λ (write : Write). write.task < 8) (λ write le. omega (arith, le)) work.writes.items can.writers;
        paired = can.paired;
        few = omega (arith, allowed, below);
      }

  pool_is : (number : ℕ) → slice_index_or (new_pools stack scripts 66) number no_core_pool ≡ new_pool stack scripts number
  pool_is number = elim (cases_lt number 66) [
    | inl lt ↦ get_or-map-range_with_len (new_pool stack scripts) 0 66 number number no_core_pool lt (zero-add number)
    | inr le ↦
        get_or_past (new_pools stack scripts 66) number no_core_pool (omega (arith, le, length-map-range_with_len (new_pool stack scripts) 0 66))
        ∙ ap (λ n. opened n (only_tail true)) (sym (no_reserve stack number can.is_stack.few le))
        ∙ ap (λ o. opened (reserve_of stack (pool_of number)) (option_map_or (λ (script : PoolId × Answers). script.1) o (only_tail true))) (sym (no_script scripts number can.pools le))
  ]

  module _ (places : List ℕ) (placed : (writer : ℕ) → places_at places writer ≡ places_of s writer) where
    book_is : (writer : ℕ) → slice_index_or (new_books places 8) writer (record { writer = writer; nodes = [] })
        ≡ record { writer = writer; nodes = replicate (places_of s writer) None }
    book_is writer = elim (cases_lt writer 8) [
      | inl lt ↦
          get_or-map-range_with_len (new_book places) 0 8 writer writer (record { writer = writer; nodes = [] }) lt (zero-add writer)
          ∙ ap (λ n. record { writer = writer; nodes = replicate n None }) (placed writer)
      | inr le ↦
          get_or_past (new_books places 8) writer (record { writer = writer; nodes = [] }) (omega (arith, le, length-map-range_with_len (new_book places) 0 8))
          ∙ ap (λ n. record { writer = writer; nodes = replicate n None }) (sym (no_writer stack scripts work shared writer le))
    ]

    setup_is : setup_of stack (places_at places) ≡ setup_in s
    setup_is = λ k. setup_of stack (λ writer. placed writer k)

    objects_are : objects_of_core (core_objects_of s places) ≡ objects s
    objects_are = λ k. record {
      pool = λ number. pool_is number k;
      rescue = λ dev. rescue_is stack scripts dev k;
      disk = λ dev. disk_is stack scripts dev k;
      book = λ writer. book_is writer k;
      tally = (objects s).tally;
    }

    -- the whole
    pub opened_so : (core : CoreState) → core.routing ≡ record { stack = stack; places = places } → core.objects ≡ core_objects_of s places
        → core.tasks ≡ opened_tasks s → IsOpenedCore s core
    opened_so core is_routing is_objects is_tasks =
        let written = ap (λ (o : CoreObjects). length o.tally.statuses) is_objects ∙ length-replicate (length work.writes.items) status.Ok in
        record {
          scene = λ k. record {
            setup = (ap routing_setup is_routing ∙ setup_is) k;
            tasks = length (is_tasks k);
            books = 8;
            writes = written k;
            ledger = ledger_of;
          };
          state = λ k. record {
            objects = (ap objects_of_core is_objects ∙ objects_are) k;
            task = λ place. slice_index_or (is_tasks k) place no_task;
          };
        }

  -- all tasks are within the stack
  tasks_fit : All (TaskIsWithin stack) (opened_tasks s)
  tasks_fit =
      let devs = range_with_len 0 (setup_in s).count in
      All-append (TaskIsWithin stack) (map (λ writer. Writer writer (todos_of s writer) NoBio rests) (writers s)) _
      (All-map (TaskIsWithin stack) (λ writer. Writer writer (todos_of s writer) NoBio rests) (writers s)
      (λ k d lt. (share_served stack work.rounds.items work.writes.items shared _, rest_fits stack)))
      (All-append (TaskIsWithin stack) (map (λ dev. Rescuer (device_at dev) rests) (filter (setup_in s).rescuer devs)) _
      (All-map (TaskIsWithin stack) (λ dev. Rescuer (device_at dev) rests) (filter (setup_in s).rescuer devs) (λ k d lt. rest_fits stack))
      (All-append (TaskIsWithin stack) (map (λ dev. Completer (device_at dev) Empty) (filter (is_disk (setup_in s)) devs)) (keepers (duties s))
      (All-map (TaskIsWithin stack) (λ dev. Completer (device_at dev) Empty) (filter (is_disk (setup_in s)) devs) (λ k d lt. tt))
      (keeper_fits stack (duties s))))

  -- the core keeps what it stands on
  pub is_core : (routing : Routing) (plain : CoreObjects) (all : List TaskState) (places : List ℕ) → routing.stack ≡ stack → plain.stack ≡ stack
      → all ≡ opened_tasks s → AreFound places all → IsCore routing plain all places
  is_core routing plain all places is_routing is_objects is_all found = record {
    stack = is_objects ∙ sym is_routing;
    fits = subst (λ st. All (TaskIsWithin st) all) (sym is_routing) (subst (All (TaskIsWithin stack)) (sym is_all) tasks_fit);
    found = found;
  }
