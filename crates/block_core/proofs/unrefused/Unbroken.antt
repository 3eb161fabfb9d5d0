-- No task of any run of any scenario that is allowed breaks off.
use Rattle.std.proofs.Common.{◌≡◌, ◌≤◌, ◌++◌, not, ℕ, Bool, false, List, length, map, filter, refl, subst, arith, ap, None}
use Rattle.std.specs.Prelude.{zip}
use Rattle.std.specs.List.{range_with_len, list_any}
use Rattle.std.specs.Option.{is_some}
use Rattle.std.proofs.lemmas.List.{length-map, length-append}
use Rattle.std.proofs.lemmas.List.FromFn.{length-range_with_len}
use Rattle.std.proofs.lemmas.List.Filters.{length-filter_both}
use Rattle.std.proofs.lemmas.List.Sums.{sum_by-le-sum_by}
use Rattle.elem_ledger.specs.Ledger.{LedgerId}
use Rattle.layout_model.specs.declared.write.Write.{Write}
use Rattle.layout_model.specs.NeedCounts.{elements, nodes}
use Rattle.layout_model.specs.Bound.{most_elements}
use Rattle.bio_records.specs.declared.tasks.TaskLists.{TaskLists}
use Rattle.run_machine.specs.declared.event.Event.{Event}
use Rattle.run_machine.specs.Scene.{Scene, is_disk}
use Rattle.run_machine.specs.Submissions.{Doing, Rests, Drives, Copies, Breaks, rests, doing_breach}
use Rattle.run_machine.specs.Tasks.{TaskState, Writer, Rescuer, Completer, Keeper, Keeps, Stops, Todo, NoBio, Empty, look_of, is_broken}
use Rattle.run_machine.specs.Opened.{Scenario, scene, start, opened_tasks, todos, todos_of, is_by, writers, duties, keepers, places_of, setup_in, device_at}
use Rattle.run_machine.specs.Runs.{State, IsRun, IsLet}
use Rattle.run_machine.proofs.Apart.{one_keeper}
use Rattle.run_machine.proofs.Passing.{filter_sum}
use Rattle.block_core.specs.Scenarios.{IsScenario, IsNaming}
use Rattle.block_core.specs.Breaks.{ElementsAreAllowed, GoesUnrefused, NoTaskBreaks}
use Rattle.block_core.proofs.sound.Invariant.{DoingFits, TaskIsSound, LedgersAreNumbered}
use Rattle.block_core.proofs.moves.Devices.{ground}
use Rattle.block_core.proofs.unrefused.NodeNeeds.{needs_known}
use Rattle.block_core.proofs.start.InvariantAtStart.{start_opened}
use Rattle.block_core.proofs.bound.ChargesAtStart.{zip_sum}
use Rattle.block_core.proofs.start.StartTotals.{map_sum}
use Rattle.block_core.proofs.sound.EveryRun.{runs_tallied, runs_leveled, start_leveled, runs_whole, start_whole}
use Rattle.block_core.proofs.unrefused.RoomKept.{run_roomy}
use Rattle.block_core.proofs.unrefused.ObjectsAnswer.{IsSmall, ready, not_refused}
use Rattle.block_core.proofs.start.TallyAtStart.{keeper_place, start_tallied}
use Rattle.block_core.proofs.unrefused.Resizes.{nothing_out}
use Rattle.block_core.proofs.unrefused.NoneFails.{GoesOnCarrying, runs_on, begins_on}

-- what fits did not break off
unbroken_submission : (scene : Scene) (doing : Doing) (lists : TaskLists) → DoingFits scene.setup doing lists → doing_breach doing ≡ None
unbroken_submission scene Rests lists fits = refl
unbroken_submission scene (Drives bio ask) lists fits = refl
unbroken_submission scene (Copies bio master leg want) lists fits = refl
unbroken_submission scene (Breaks breach kept) lists fits = absurd fits

unbroken : (scene : Scene) (x : TaskState) → TaskIsSound scene x → GoesOnCarrying x → is_broken x ≡ false
unbroken scene (Writer number todo taken submission) fits on = ap is_some (unbroken_submission scene submission.doing submission.lists fits.1)
unbroken scene (Rescuer dev submission) fits on = ap is_some (unbroken_submission scene submission.doing submission.lists fits.1)
unbroken scene (Completer disk carried) fits on = on
unbroken scene (Keeper (Keeps duties)) fits on = refl
unbroken scene (Keeper (Stops breach)) fits on = absurd fits

module _ (s : Scenario) (ledger : ℕ → LedgerId) (good : IsScenario s) (allowed : ElementsAreAllowed s) (naming : IsNaming ledger) where
  -- a book has no more places than all writes need elements
  places_few : (w : ℕ) → places_of s w ≤ most_elements
  places_few w =
      let ns = range_with_len 0 (length s.writes) in
      let need : Todo → ℕ = λ todo. nodes s.stack todo.write in
      omega (
        arith,
        allowed,
        filter_sum need (is_by w) (todos s),
        map_sum need (λ x. record { number = x.0; round = x.1.0; write = x.1.1 }) (zip ns (zip s.rounds s.writes)),
        zip_sum (λ (x : ℕ × Write). nodes s.stack x.1) ns (zip s.rounds s.writes),
        zip_sum (nodes s.stack) s.rounds s.writes,
        sum_by-le-sum_by (nodes s.stack) (elements s.stack) s.writes (λ write. omega arith),
      )

  fewer : (p : ℕ → Bool) (n : ℕ) → length (filter p (range_with_len 0 n)) ≤ n
  fewer p n = omega (arith, length-filter_both p (λ x. not (p x)) (λ x. refl) (range_with_len 0 n), length-range_with_len 0 n)

  -- eight writers, and a rescuer and a completer for each of 32 devices
  tasks_few : length (opened_tasks s) ≤ 73
  tasks_few =
      let count = (setup_in s).count in
      let w : ℕ → TaskState = λ writer. Writer writer (todos_of s writer) NoBio rests in
      let r : ℕ → TaskState = λ dev. Rescuer (device_at dev) rests in
      let c : ℕ → TaskState = λ dev. Completer (device_at dev) Empty in
      let rescuers = filter (setup_in s).rescuer (range_with_len 0 count) in
      let disks = filter (is_disk (setup_in s)) (range_with_len 0 count) in
      let stack = good.stack in
      let few : count ≤ 32 = stack.few in
      omega (
        arith,
        few,
        length-append (map w (writers s)) (map r rescuers ++ (map c disks ++ keepers (duties s))),
        length-append (map r rescuers) (map c disks ++ keepers (duties s)),
        length-append (map c disks) (keepers (duties s)),
        length-map (writers s) w,
        length-map rescuers r,
        length-map disks c,
        fewer (λ writer. list_any (is_by writer) (todos s)) 8,
        fewer (setup_in s).rescuer count,
        fewer (is_disk (setup_in s)) count,
        one_keeper (duties s),
      )

  pub small : IsSmall (scene s ledger)
  small w = omega (arith, places_few w, tasks_few)

  run_unrefused : (events : List Event) (state : State) → IsRun (scene s ledger) (start s) events state → GoesUnrefused (scene s ledger) state
  run_unrefused events state run =
      let places = (setup_in s).places in
      let numbered : LedgersAreNumbered (scene s ledger) = record { named = naming } in
      let g = ground s.stack good.stack places in
      let begun = start_whole s ledger good naming in
      let i = runs_whole (scene s ledger) numbered g (start s) events state begun run in
      let r = run_roomy s ledger good naming events state run in
      let o = start_opened s good ledger in
      let on = runs_on (scene s ledger) numbered g (start s) events state begun (λ place. begins_on (scene s ledger) ((start s).task place) (o.tasks place)) run in
      let t = runs_tallied (scene s ledger) numbered g s.rounds (keeper_place s good ledger) (start s) events state begun (start_tallied s good ledger) run in
      let l = runs_leveled (scene s ledger) numbered g (start s) events state begun (start_leveled s ledger good naming) run in
      record {
        answers = λ place here reply new serves.
            not_refused ledger state.objects new _ reply (ready (scene s ledger) state (needs_known s.stack good.stack places) small i.kept i.placed r place here) serves;
        resizes = λ place pool min later duties is see number.
            nothing_out s.rounds (keeper_place s good ledger) (scene s ledger) state i.kept t on l place pool min later duties is
            (subst (λ x. IsLet ledger state.objects x (look_of x)) is see) number;
        tasks = λ place. unbroken (scene s ledger) (state.task place) (i.kept.tasks place) (on place);
      }

pub no_task_breaks : NoTaskBreaks
no_task_breaks s ledger events state good allowed naming run = run_unrefused s ledger good allowed naming events state run
