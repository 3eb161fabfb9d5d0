-- A run that has ended and in which no take missed has as many events as were due at its start.
use Rattle.std.proofs.Common.{◌≡◌, ◌+◌, ◌*◌, ◌<◌, ◌≤◌, not, ℕ, zero, suc, false, List, [], ◌∷◌, length, Option, None, Some, refl, sym, ◌∙◌, ap, subst, arith}
use Rattle.std.specs.Prelude.{filter, sum_by, map, zip}
use Rattle.std.specs.List.{range_with_len}
use Rattle.std.proofs.lemmas.List.Elements.{All-head, All-tail}
use Rattle.std.proofs.lemmas.List.Sums.{sum_by-cons}
use Rattle.elem_ledger.specs.Ledger.{LedgerId}
use Rattle.stack_base.specs.Tree.{tree}
use Rattle.layout_model.specs.declared.write.Write.{Write}
use Rattle.layout_model.specs.declared.fragment.Fragment.{Fragment}
use Rattle.layout_model.specs.Bound.{all_elements, all_fragments}
use Rattle.layout_model.specs.Need.{needed, vectors}
use Rattle.layout_model.specs.NeedCounts.{elements as elements_of, nodes, write_fragments}
use Rattle.layout_model.specs.Plan.{frags}
use Rattle.layout_model.specs.Writes.{IsWrite}
use Rattle.layout_model.proofs.CountFrags.{fragments_of_is_length}
use Rattle.layout_model.proofs.Planned.{leaves_plan}
use Rattle.layout_model.proofs.PlanLaws.{trees_are_sound}
use Rattle.bio_records.specs.declared.bio.Pad.{Pad}
use Rattle.bio_records.specs.Items.{Item}
use Rattle.stack_base.specs.declared.ids.DevId.{DevId}
use Rattle.bio_books.specs.declared.node.Role.{Role}
use Rattle.bio_books.specs.declared.node.Role.TheVariants as role
use Rattle.bio_books.specs.Books.{Node, SlipItem, node_at}
use Rattle.bio_books.specs.Drops.{Closed}
use Rattle.model_disks.specs.Disks.{DiskState}
use Rattle.run_machine.specs.declared.event.Event.{Event}
use Rattle.run_machine.specs.Scene.{Scene}
use Rattle.run_machine.specs.Submissions.{Submission}
use Rattle.run_machine.specs.Tasks.{TaskState, Writer, Rescuer, Completer, Keeper, Todo, Gathered, NoBio, HasBio, HasBoth, Duty, Resizes, Starts, Empty, Brings, Carries, Fails}
use Rattle.run_machine.specs.Opened.{Scenario, scene, start, todos, duties, keepers, setup_in, writers}
use Rattle.run_machine.specs.Runs.{State, IsRun}
use Rattle.block_core.specs.Weights.{Weight, Rescued, Pending, total_weight, one_if_same, weigh_option, task_weight, book_weight, gathered_weight, elements_of_pool, under}
use Rattle.block_core.proofs.moves.References.{references}
use Rattle.block_core.specs.Charges.{task_duties, duties_left}
use Rattle.block_core.specs.Exact.{is_miss, NoneMissed, all_nodes, all_below, starts_round, StepsWithoutMisses}
use Rattle.block_core.specs.Fragments.{todo_fragments, SubmitsNothing, NothingComes}
use Rattle.block_core.specs.Rounds.{round_of, is_of_round, tops_left, unfinished_of}
use Rattle.block_core.specs.Scenarios.{IsScenario, IsNaming}
use Rattle.block_core.proofs.stuck.Idle.{sum_none}
use Rattle.block_core.proofs.sound.Invariant.{LedgersAreNumbered, Invariant}
use Rattle.block_core.proofs.sound.Orders.{DeviceGeometry}
use Rattle.block_core.proofs.start.InvariantAtStart.{Begins, total_zero, start_opened, todos_all}
use Rattle.block_core.proofs.moves.Devices.{ground}
use Rattle.block_core.proofs.sound.EveryRun.{IsReachedWhole, step_whole, runs_whole, start_whole, run_tallied}
use Rattle.block_core.proofs.sound.RunInduction.{runs_keep}
use Rattle.block_core.proofs.moves.StepMoves.{step_is_move}
use Rattle.block_core.proofs.unrefused.NodeNeeds.{Needs, needs_known}
use Rattle.block_core.proofs.images.FragmentCounts.{Divided, divided}
use Rattle.block_core.proofs.images.Completed.{start_counted, over_follows}
use Rattle.block_core.proofs.moves.Misfits.{misfits, no_misfits}
use Rattle.block_core.proofs.images.StillToCome.{over}
use Rattle.block_core.proofs.start.StartTotals.{placed_sum, opened_sum, opened_total, all_sum}
use Rattle.block_core.proofs.moves.Sums.{one-same}
use Rattle.block_core.proofs.images.EndedRuns.{zero_at, nothing_comes_where_ended}
use Rattle.block_core.proofs.images.NothingComes.{none_open}
use Rattle.block_core.proofs.stuck.Idle.{open_at}
use Rattle.block_core.proofs.moves.Totals.{task_part}
use Rattle.block_core.proofs.moves.SumsCompared.{under_in_all}
use Rattle.block_core.proofs.images.MasterRecords.{bare, bare_node}
use Rattle.block_core.proofs.bound.RoleHoldings.{odd, odd_holding, none_odd}
use Rattle.block_core.proofs.bound.EventsDue.{one_each, write_due, due, in_hand}
use Rattle.block_core.proofs.bound.StillDue.{takes_one}
use Rattle.block_core.proofs.bound.NoMisses.{NonePunts, TaskNoPunt, NoPunt, still_none, had}
use Rattle.block_core.proofs.bound.KeeperEnds.{no_duties_left}
use Rattle.layout_model.proofs.RangeSums.{sum_of_zero, sum_of_one}

-- all that a state is known to have
pub record ExactInvariant (scene : Scene) (s : State) : Type 0 where
  pub whole : IsReachedWhole scene s
  pub counted : total_weight scene (misfits over) s ≡ 0
  pub held : total_weight scene odd s ≡ 0
  pub none : NonePunts s

module _ (scene : Scene) (f : LedgersAreNumbered scene) (g : DeviceGeometry scene.setup) (p : Needs scene.setup) (v : Divided scene.setup one_each) where
  pub runs_take : (s : State) (events : List Event) (new : State) → ExactInvariant scene s → IsRun scene s events new → NoneMissed events
      → length events + total_weight scene (due scene.setup) new + total_weight scene in_hand s + duties_left scene new
      ≡ total_weight scene (due scene.setup) s + total_weight scene in_hand new + duties_left scene s
  runs_take s [] new e run all =
      omega (arith, ap (total_weight scene (due scene.setup)) run, ap (total_weight scene in_hand) run, ap (duties_left scene) run)
  runs_take s (event ∷ events) new e (next, (place, steps), run) all =
      let i = e.whole in
      let moved = step_is_move scene s f i.kept place event next steps in
      let no_miss : is_miss event.what ≡ false = All-head (λ (event : Event). is_miss event.what ≡ false) event events all in
      let h = had scene s e.none place event next steps no_miss moved.move moved.can moved.is moved.at in
      let one_less = takes_one scene s f g p v i.kept i.placed e.counted e.held moved.move moved.can h in
      let after_is : ExactInvariant scene next = record {
        whole = step_whole scene f g s place event next i steps;
        counted = ap (total_weight scene (misfits over)) moved.is ∙ no_misfits over over_follows scene s i.kept e.counted moved.move moved.can;
        held = ap (total_weight scene odd) moved.is ∙ none_odd scene s i.kept e.held moved.move moved.can;
        none = subst NonePunts (sym moved.is) (still_none scene s e.none moved.move moved.can h);
      } in
      omega (
        arith,
        one_less,
        ap (total_weight scene (due scene.setup)) moved.is,
        ap (total_weight scene in_hand) moved.is,
        ap (duties_left scene) moved.is,
        runs_take next events new after_is run (All-tail (λ (event : Event). is_miss event.what ≡ false) event events all),
      )

-- at the start
begins_none : (scene : Scene) (x : TaskState) → Begins scene x → TaskNoPunt x
begins_none scene (Writer number todo taken submission) h = subst (λ (l : Submission). NoPunt l.doing) (sym h.2) tt
begins_none scene (Rescuer dev submission) h = subst (λ (l : Submission). NoPunt l.doing) (sym h.1) tt
begins_none scene (Completer disk carried) h = tt
begins_none scene (Keeper keeping) h = tt

-- a duty starts a round, or changes a reserve
kinds : (ds : List Duty) → length (filter starts_round ds) + length (filter (λ duty. not (starts_round duty)) ds) ≡ length ds
kinds [] = refl
kinds (Starts round later ∷ ds) = omega (arith, kinds ds)
kinds (Resizes pool min later ∷ ds) = omega (arith, kinds ds)

module _ (s : Scenario) (good : IsScenario s) (ledger : ℕ → LedgerId) where
  -- what a write is due, by what it needs
  abbrev write_parts : Write → ℕ
  write_parts write = 4 + 2 * vectors write.count + 4 * needed (tree s.stack write.dev.0) write.start write.count + 3 * write_fragments s.stack write

  todo_is : (todo : Todo) → IsWrite s.stack todo.write → write_due (setup_in s) todo ≡ write_parts todo.write
  todo_is todo is =
      let t = tree s.stack todo.write.dev.0 in
      let known = is.known in
      let some = is.some in
      let a : sum_by one_each (todo_fragments (setup_in s) todo) ≡ length (frags t todo.number 0 todo.write.start todo.write.count) =
      sum_of_one (todo_fragments (setup_in s) todo) ∙ ap (λ (fs : List Fragment). length fs) (leaves_plan t todo.number 0 todo.write.start todo.write.count) in
      let b = fragments_of_is_length t todo.number 0 todo.write.start todo.write.count (trees_are_sound s.stack todo.write.dev.0 good.stack known) (omega (arith, some)) in
      omega (arith, a, b)

  -- over all writes
  by_writes : (a n : ℕ) (rs : List ℕ) (ws : List Write) → length rs ≡ n → length ws ≡ n
      → sum_by (λ (todo : Todo). write_parts todo.write) (map (λ x. record { number = x.0; round = x.1.0; write = x.1.1 }) (zip (range_with_len a n) (zip rs ws)))
      ≡ sum_by write_parts ws
  by_writes a zero rs [] rl wl = refl
  by_writes a zero rs (w ∷ ws) rl wl = absurd (omega (arith, wl))
  by_writes a (suc n) [] ws rl wl = absurd (omega (arith, rl))
  by_writes a (suc n) (r ∷ rs) [] rl wl = absurd (omega (arith, wl))
  by_writes a (suc n) (r ∷ rs) (w ∷ ws) rl wl =
      omega (
        arith,
        sum_by-cons write_parts w ws,
        sum_by-cons (λ (todo : Todo). write_parts todo.write) (record { number = a; round = r; write = w })
            (map (λ x. record { number = x.0; round = x.1.0; write = x.1.1 }) (zip (range_with_len (a + 1) n) (zip rs ws))),
        by_writes (a + 1) n rs ws (omega (arith, rl)) (omega (arith, wl)),
      )

  table : (ws : List Write) → sum_by write_parts ws
      ≡ all_elements s.stack ws + all_nodes s.stack ws + 2 * all_fragments s.stack ws + (all_fragments s.stack ws + all_below s.stack ws) + all_elements s.stack ws + length ws
  table [] = refl
  table (w ∷ ws) =
      omega (
        arith,
        sum_by-cons write_parts w ws,
        sum_by-cons (λ write. elements_of s.stack write) w ws,
        sum_by-cons (λ write. nodes s.stack write) w ws,
        sum_by-cons (λ write. write_fragments s.stack write) w ws,
        sum_by-cons (λ (write : Write). needed (tree s.stack write.dev.0) write.start write.count) w ws,
        table ws,
      )

  due_at_start : total_weight (scene s ledger) (due (setup_in s)) (start s) ≡ sum_by write_parts s.writes
  due_at_start =
      opened_total s good ledger (due (setup_in s)) (write_due (setup_in s)) (λ n ts. later ts)
      ∙ (all_sum (λ (todo : Todo). IsWrite s.stack todo.write) (write_due (setup_in s)) (λ todo. write_parts todo.write) (todos s) todo_is (todos_all s (IsWrite s.stack) good.writes)
      ∙ by_writes 0 (length s.writes) s.rounds s.writes good.rounds refl)
    where
      later : (ts : List Todo) → (due (setup_in s)).todo 0 ts NoBio ≡ sum_by (write_due (setup_in s)) ts
      later [] = refl
      later (todo ∷ ts) = sym (sum_by-cons (write_due (setup_in s)) todo ts)

  duties_at_start : duties_left (scene s ledger) (start s) ≡ length (duties s)
  duties_at_start = omega (arith, placed_sum s good ledger task_duties, opened_sum s good ledger task_duties (λ dev. refl) (λ dev. refl), sum_of_zero (writers s), keeper_duties (duties s))
    where
      keeper_duties : (ds : List Duty) → sum_by task_duties (keepers ds) ≡ length ds
      keeper_duties [] = refl
      keeper_duties (duty ∷ ds) = omega arith

  start_exactly : IsNaming ledger → ExactInvariant (scene s ledger) (start s)
  start_exactly naming =
      let o = start_opened s good ledger in
      record {
        whole = start_whole s ledger good naming;
        counted = start_counted s good ledger;
        held = total_zero (scene s ledger) (start s) odd (λ n todos. refl) o;
        none = record { tasks = λ place. begins_none (scene s ledger) ((start s).task place) (o.tasks place); rescued = o.rescued };
      }

-- where a run has ended, nothing is due
module _ (scene : Scene) (s : State) (i : Invariant scene s) (held : total_weight scene odd s ≡ 0) (out : (p : ℕ) → (s.objects.pool p).facts.out ≡ 0) (comes : NothingComes scene s)
    (rounds : List ℕ) (left : (r : ℕ) → total_weight scene (unfinished_of (is_of_round rounds r)) s ≡ 0) where
  bare_none : total_weight scene bare s ≡ 0
  bare_none =
      omega (
        arith,
        held,
        under_in_all scene s i bare odd (record {
          todo = λ writer todos taken part. omega arith;
          bio = λ spot item part. omega arith;
          copy = λ bio master leg more part. omega arith;
          hand = λ item. omega arith;
          vector = λ vector. omega arith;
          slip = λ slip. omega arith;
          node = λ writer place node at part. by_role node.role node.held.bio node.held.slip;
          closed = λ task writer closed part. omega arith;
        }),
      )
    where
      by_role : (r : Role) (bio : Option (Item Pad)) (slip : Option SlipItem) → bare_node r slip ≤ odd_holding r bio slip
      by_role role.Top bio slip = omega arith
      by_role (role.Chain parent) bio slip = omega arith
      by_role (role.Master parent) bio slip = omega arith
      by_role (role.Leg parent) bio slip = omega arith

  no_node : (writer k : ℕ) (node : Node) → node_at (s.objects.book writer) k ≡ Some node → ⊥
  no_node writer k node at = none_open scene s i bare_none out writer k node at

  home : (p place : ℕ) (x : TaskState) → place < scene.tasks → s.task place ≡ x → task_weight (elements_of_pool p) place x ≡ 0
  home p place x lt is = omega (arith, i.outs p, out p, task_part scene (elements_of_pool p) s place x lt is)

  -- no closed node is carried: it would be told to an open one, or its write be unfinished
  no_closed : (place : ℕ) (disk : DevId) (writer : ℕ) (closed : Closed) → place < scene.tasks → s.task place ≡ Completer disk (Carries writer closed) → (parent : Option ℕ) → closed.parent ≡ parent → ⊥
  no_closed place disk writer closed lt is (Some parent) found =
      let refers : under writer parent writer closed.parent ≡ 1 =
      ap (under writer parent writer) found ∙ (ap (λ n. n * one_if_same parent parent) (one-same writer) ∙ ap (λ n. 1 * n) (one-same parent)) in
      let up = open_at scene s i writer parent (omega (arith, refers, task_part scene (references scene.setup writer parent) s place (Completer disk (Carries writer closed)) lt is)) in
      no_node writer parent up.0 up.1
  no_closed place disk writer closed lt is None found =
      let r : ℕ = round_of rounds closed.write in
      let worth_one : tops_left closed.parent * one_if_same r r ≡ 1 = ap (λ parent. tops_left parent * one_if_same r r) found ∙ omega (arith, one-same r) in
      omega (arith, worth_one, left r, task_part scene (unfinished_of (is_of_round rounds r)) s place (Completer disk (Carries writer closed)) lt is)

  no_taken : (taken : Gathered) → ((p : ℕ) → gathered_weight (elements_of_pool p) taken ≡ 0) → gathered_weight in_hand taken ≡ 0
  no_taken NoBio none = refl
  no_taken (HasBio bio) none = absurd (omega (arith, none bio.share.no, one-same bio.share.no))
  no_taken (HasBoth bio vector) none = absurd (omega (arith, none bio.share.no, one-same bio.share.no))

  taken_due : (taken : Gathered) → gathered_weight (due scene.setup) taken ≡ 0
  taken_due NoBio = refl
  taken_due (HasBio bio) = refl
  taken_due (HasBoth bio vector) = refl

  task_none : (place : ℕ) (x : TaskState) → place < scene.tasks → s.task place ≡ x → SubmitsNothing x → (task_weight (due scene.setup) place x ≡ 0) × (task_weight in_hand place x ≡ 0)
  task_none place (Writer number todo taken submission) lt is none =
      let hands = no_taken taken (λ p. omega (arith, home p place (Writer number todo taken submission) lt is)) in
      (rw (none.0, none.1) (omega (arith, taken_due taken)), rw (none.1) (omega (arith, hands)))
  task_none place (Rescuer dev submission) lt is none = (rw none refl, rw none refl)
  task_none place (Completer disk Empty) lt is none = (refl, refl)
  task_none place (Completer disk (Brings bio status)) lt is none = absurd (omega (arith, home bio.share.no place (Completer disk (Brings bio status)) lt is, one-same bio.share.no))
  task_none place (Completer disk (Carries writer closed)) lt is none = absurd (no_closed place disk writer closed lt is closed.parent refl)
  task_none place (Completer disk (Fails breach kept)) lt is none = (refl, refl)
  task_none place (Keeper keeping) lt is none = (refl, refl)

  -- so where no task has anything, the whole is nothing
  whole_none : (w : Weight) → ((place : ℕ) → place < scene.tasks → task_weight w place (s.task place) ≡ 0) → total_weight scene w s ≡ 0
  whole_none w tasks =
      omega (
        arith,
        sum_none (task_weight w) scene.tasks s.task tasks,
        sum_none (λ dev bios. sum_by (w.bio Rescued) bios) scene.setup.count s.objects.rescue (λ dev lt. ap (sum_by (w.bio Rescued)) (comes.rescued dev lt)),
        sum_none (λ dev (disk : DiskState). sum_by (w.bio Pending) disk.pending) scene.setup.count s.objects.disk (λ dev lt. ap (sum_by (w.bio Pending)) (comes.pending dev lt)),
        sum_none (book_weight w) scene.books s.objects.book (λ writer lt. sum_none (λ place. weigh_option (w.node writer place)) (length (s.objects.book writer).nodes) (node_at (s.objects.book writer))
            (λ place below. by_node writer place (node_at (s.objects.book writer) place) refl)),
      )
    where
      by_node : (writer place : ℕ) (found : Option Node) → node_at (s.objects.book writer) place ≡ found → weigh_option (w.node writer place) found ≡ 0
      by_node writer place None at = refl
      by_node writer place (Some node) at = absurd (no_node writer place node at)

  pub none_due : (total_weight scene (due scene.setup) s ≡ 0) × (total_weight scene in_hand s ≡ 0)
  none_due = (
    whole_none (due scene.setup) (λ place lt. (task_none place (s.task place) lt refl (comes.tasks place lt)).0),
    whole_none in_hand (λ place lt. (task_none place (s.task place) lt refl (comes.tasks place lt)).1),
  )

pub steps_without_misses : StepsWithoutMisses
steps_without_misses s ledger events state good naming run ended all =
    let sc = scene s ledger in
    let f : LedgersAreNumbered sc = record { named = naming } in
    let places = (setup_in s).places in
    let g = ground s.stack good.stack places in
    let first = start_exactly s good ledger naming in
    let i = runs_whole sc f g (start s) events state first.whole run in
    let tally = run_tallied s ledger good naming events state run in
    let none = none_due sc state i.kept (runs_odd sc f g (start s) events state first.whole first.held run) ended.pools (nothing_comes_where_ended s ledger events state good naming run ended).1 s.rounds
    (λ r. sym (tally.left r) ∙ zero_at state.objects.tally.left r ended.writes) in
    omega (
      arith,
      runs_take sc f g (needs_known s.stack good.stack places) (divided s.stack good.stack places one_each) (start s) events state first run all,
      none.0,
      none.1,
      total_zero sc (start s) in_hand (λ n todos. refl) (start_opened s good ledger),
      due_at_start s good ledger,
      table s good ledger s.writes,
      duties_at_start s good ledger,
      kinds (duties s),
      no_duties_left s good ledger naming events state run ended.writes,
    )
  where
    runs_odd : (sc : Scene) → LedgersAreNumbered sc → DeviceGeometry sc.setup → (st : State) (events : List Event) (new : State) → IsReachedWhole sc st → total_weight sc odd st ≡ 0 → IsRun sc st events new → total_weight sc odd new ≡ 0
    runs_odd sc f g st events new i none run = runs_keep sc f g (λ x. total_weight sc odd x ≡ 0) (λ old m before after can none. none_odd sc old before.kept none m can) st events new i none run
