-- Tasks that are opened have not begun, and their slots rise.
use Rattle.std.proofs.Common.{◌≡◌, ◌+◌, ◌-◌, ◌==◌, ◌<◌, ◌≤◌, ◌++◌, ℕ, zero, suc, Bool, true, false, List, [], ◌∷◌, length, map, take, drop, get_or, refl, sym, ap, ◌∙◌, subst, arith}
use Rattle.std.specs.Prelude.{All, filter}
use Rattle.std.specs.List.{list_any, range_with_len}
use Rattle.std.proofs.lemmas.List.{at_drop_more, get_or-map, length-map, take_more}
use Rattle.std.proofs.lemmas.List.Elements.{All-append, All-cons, All-filter, All-map, All-nil}
use Rattle.stack_base.specs.declared.ids.PoolId.{PoolId}
use Rattle.stack_base.specs.PoolId.{IsOfStack}
use Rattle.fail_script.specs.Script.{Answers}
use Rattle.stack_base.specs.declared.stack.Stack.{Stack}
use Rattle.work_text.specs.declared.Work.{Work}
use Rattle.run_machine.specs.Scenario.{change_of, scenario_by}
use Rattle.run_machine.specs.Events.{id_of}
use Rattle.run_machine.specs.Submissions.{rests}
use Rattle.task_core.specs.opened.OfOne.{states}
use Rattle.task_core.specs.opened.OpenTasks.{AreTasksOf}
use Rattle.task_steps.specs.Routed.{Routing}
use Rattle.run_machine.specs.Opened.{Change, Scenario, device_at, duties, duties_of, is_by, keepers, no_task, round_count, setup_in, opened_tasks, todos, todos_of, writers, writes_from}
use Rattle.run_machine.specs.Scene.{is_disk}
use Rattle.task_steps.specs.TaskViews.{TaskOf}
use Rattle.run_machine.specs.Tasks.{TaskState, Duty, Resizes, Starts, NoBio, Empty, Keeps, Writer, Rescuer, Completer, Keeper}
use Rattle.plain_core.specs.declared.steps.task.Task.{Task}
use Rattle.plain_core.specs.Cores.{slot_of}
use Rattle.plain_core.specs.opening.Opening.{AreTasksEntered, CanOpen, EntersTasks}
use Rattle.plain_core.specs.opening.Seen.{HasNotBegun, Rises}
use Rattle.plain_core.specs.steps.Duties.{NamesStackPool}
use Rattle.plain_core.specs.steps.Views.{task_of_plain}
use Rattle.plain_core.proofs.opening_lemmas.TasksByName.{entered_on}
use Rattle.task_core.proofs.opened.ScriptsBehind.{all_flat}
use Rattle.task_core.proofs.opened.Setups.{states_are}
use Rattle.plain_core.proofs.opening_lemmas.Opened.{shared}

-- a lower start, and a higher end
rises_from : (low more : ℕ) (ts : List TaskState) (high : ℕ) → low ≤ more → Rises more ts high → Rises low ts high
rises_from low more [] high le rises = omega (arith, le, rises)
rises_from low more (t ∷ ts) high le rises = (let first = rises.0 in omega (arith, le, first), rises.1)

pub rises_to : (low : ℕ) (ts : List TaskState) (high : ℕ) → Rises low ts high → low ≤ high
rises_to low [] high rises = rises
rises_to low (t ∷ ts) high rises = let rest = rises_to (slot_of (id_of t) + 1) ts high rises.1 in let first = rises.0 in omega (arith, first, rest)

-- one list behind another
rises_then : (low : ℕ) (ts : List TaskState) (mid : ℕ) (us : List TaskState) (high : ℕ) → Rises low ts mid → Rises mid us high → Rises low (ts ++ us) high
rises_then low [] mid us high first second = rises_from low mid us high first second
rises_then low (t ∷ ts) mid us high first second = (first.0, rises_then (slot_of (id_of t) + 1) ts mid us high first.1 second)

-- tasks by numbers
module _ (f : ℕ → TaskState) (base : ℕ) (p : ℕ → Bool) (slots : (k : ℕ) → slot_of (id_of (f k)) ≡ base + k) where
  rises_by : (a n low high : ℕ) → low ≤ base + a → base + a + n ≤ high → Rises low (map f (filter p (range_with_len a n))) high
  rises_by a zero low high le end = omega (arith, le, end)
  rises_by a (suc n) low high le end = by_test (rises_by (a + 1) n) (p a) refl
    where
      here : slot_of (id_of (f a)) ≡ base + a
      here = slots a

      by_test : ((more most : ℕ) → more ≤ base + (a + 1) → base + (a + 1) + n ≤ most → Rises more (map f (filter p (range_with_len (a + 1) n))) most)
          → (b : Bool) → p a ≡ b → Rises low (map f (filter p (a ∷ range_with_len (a + 1) n))) high
      by_test rest true e = rw (e) (omega (arith, le, here), rest (slot_of (id_of (f a)) + 1) high (omega (arith, here)) (omega (arith, end)))
      by_test rest false e = rw (e) (rest low high (omega (arith, le)) (omega (arith, end)))

keepers_rise : (ds : List Duty) → Rises 72 (keepers ds) 73
keepers_rise [] = omega arith
keepers_rise (d ∷ ds) = (omega arith, omega arith)

keepers_begin : (ds : List Duty) → All NamesStackPool ds → All HasNotBegun (keepers ds)
keepers_begin [] all = All-nil HasNotBegun
keepers_begin (d ∷ ds) all = All-cons HasNotBegun (Keeper (Keeps (d ∷ ds))) [] all (All-nil HasNotBegun)

-- the tasks of a scenario
module _ (stack : Stack) (scripts : List (PoolId × Answers)) (work : Work) (can : CanOpen stack scripts work) where
  abbrev s : Scenario
  s = scenario_by stack scripts work

  abbrev at_round : ℕ → Change → Bool
  at_round round change = change.round == round

  round_of_pools : (round : ℕ) → All NamesStackPool (duties_of s round)
  round_of_pools round =
      All-append NamesStackPool (map (λ (change : Change). Resizes change.pool change.min (writes_from s round)) (filter (at_round round) s.changes))
      (Starts round (writes_from s round) ∷ [])
      (All-map NamesStackPool (λ (change : Change). Resizes change.pool change.min (writes_from s round)) (filter (at_round round) s.changes)
      (All-filter (at_round round) (λ (change : Change). IsOfStack change.pool) s.changes
      (All-map (λ (change : Change). IsOfStack change.pool) change_of work.resizes.items can.resizes)))
      (All-cons NamesStackPool (Starts round (writes_from s round)) [] tt (All-nil NamesStackPool))

  of_pools : All NamesStackPool (duties s)
  of_pools =
      let rounds = range_with_len 1 (round_count s - 1) in
      all_flat NamesStackPool (duties_of s) rounds (λ k d lt. round_of_pools (get_or rounds k d))

  pub firsts : All HasNotBegun (opened_tasks s)
  firsts =
      All-append HasNotBegun (map (λ writer. Writer writer (todos_of s writer) NoBio rests) (writers s)) _
      (All-map HasNotBegun (λ writer. Writer writer (todos_of s writer) NoBio rests) (writers s) (λ k d lt. (refl, refl)))
      (All-append HasNotBegun (map (λ dev. Rescuer (device_at dev) rests) (filter (setup_in s).rescuer (range_with_len 0 (setup_in s).count))) _
      (All-map HasNotBegun (λ dev. Rescuer (device_at dev) rests) (filter (setup_in s).rescuer (range_with_len 0 (setup_in s).count)) (λ k d lt. refl))
      (All-append HasNotBegun (map (λ dev. Completer (device_at dev) Empty) (filter (is_disk (setup_in s)) (range_with_len 0 (setup_in s).count))) _
      (All-map HasNotBegun (λ dev. Completer (device_at dev) Empty) (filter (is_disk (setup_in s)) (range_with_len 0 (setup_in s).count)) (λ k d lt. refl))
      (keepers_begin (duties s) of_pools)))

  few : (setup_in s).count ≤ 32
  few = can.is_stack.few

  pub risen : Rises 0 (opened_tasks s) 73
  risen =
      rises_then 0 (map (λ writer. Writer writer (todos_of s writer) NoBio rests) (writers s)) 8 _ 73
      (rises_by (λ writer. Writer writer (todos_of s writer) NoBio rests) 0 (λ writer. list_any (is_by writer) (todos s)) (λ k. omega arith) 0 8 0 8 (omega arith) (omega arith))
      (rises_then 8 (map (λ dev. Rescuer (device_at dev) rests) (filter (setup_in s).rescuer (range_with_len 0 (setup_in s).count))) 40 _ 73
      (rises_by (λ dev. Rescuer (device_at dev) rests) 8 (setup_in s).rescuer (λ k. omega arith) 0 (setup_in s).count 8 40 (omega arith) (omega (arith, few)))
      (rises_then 40 (map (λ dev. Completer (device_at dev) Empty) (filter (is_disk (setup_in s)) (range_with_len 0 (setup_in s).count))) 72 _ 73
      (rises_by (λ dev. Completer (device_at dev) Empty) 40 (is_disk (setup_in s)) (λ k. omega arith) 0 (setup_in s).count 40 72 (omega arith) (omega (arith, few)))
      (keepers_rise (duties s))))

  -- those that were opened of it
  module _ (routing : Routing) (all shown : List TaskOf) (counts : List ℕ) (are : AreTasksOf stack work routing all counts) (same : shown ≡ all) where
    pub shown_are : states shown ≡ opened_tasks s
    shown_are = ap states same ∙ states_are stack scripts work (shared stack scripts work can) routing all counts are

    pub shown_first : All HasNotBegun (states shown)
    shown_first = subst (All HasNotBegun) (sym shown_are) firsts

    pub shown_rises : Rises 0 (states shown) 73
    shown_rises = subst (λ ts. Rises 0 ts 73) (sym shown_are) risen

-- the state of a task
module _ (tasks : List TaskOf) (count : ℕ) (task : TaskOf) (lt : count < length tasks) (is : task ≡ get_or tasks count task) where
  pub state_at : task.state ≡ get_or (states tasks) count no_task
  state_at = ap (λ (t : TaskOf). t.state) is ∙ sym (get_or-map (λ (t : TaskOf). t.state) tasks count task no_task lt)

  pub first_at : All HasNotBegun (states tasks) → HasNotBegun task.state
  first_at all = subst HasNotBegun (sym state_at) (all count no_task (omega (arith, lt, length-map tasks (λ (t : TaskOf). t.state))))

-- one task more is entered
pub record AreSeen (all : List TaskState) (count : ℕ) (seen : List Task) (places : List ℕ) : Type 0 where
  pub told : map task_of_plain seen ≡ take count all
  pub low : ℕ
  pub entered : AreTasksEntered (map task_of_plain seen) places low
  pub rest : Rises low (drop count all) 73

module _ (tasks : List TaskOf) (count : ℕ) (seen : List Task) (places : List ℕ) (so_far : AreSeen (states tasks) count seen places) (lt : count < length tasks) where
  abbrev next : TaskState
  next = get_or (states tasks) count no_task

  here : count < length (states tasks)
  here = omega (arith, lt, length-map tasks (λ (task : TaskOf). task.state))

  rest_rises : Rises so_far.low (next ∷ drop (count + 1) (states tasks)) 73
  rest_rises = subst (λ ts. Rises so_far.low ts 73) (at_drop_more (λ ts. ts) (states tasks) count no_task here) so_far.rest

  module _ (task : TaskState) (is : task ≡ next) where
    pub enter_small : slot_of (id_of task) < 73
    enter_small =
        let past = rises_to (slot_of (id_of next) + 1) (drop (count + 1) (states tasks)) 73 rest_rises.1 in
        let same = ap (λ t. slot_of (id_of t)) is in
        omega (arith, past, same)

    pub enter_ready : AreTasksEntered (map task_of_plain seen) places (slot_of (id_of task))
    enter_ready =
        let first = rest_rises.0 in
        let same = ap (λ t. slot_of (id_of t)) is in
        entered_on (map task_of_plain seen) places so_far.low (slot_of (id_of task)) (omega (arith, first, same)) so_far.entered

    pub one_seen : (after : List Task) (table : List ℕ) → EntersTasks seen (task ∷ []) after table (slot_of (id_of task) + 1) → AreSeen (states tasks) (count + 1) after table
    one_seen after table enters = record {
      told = enters.0 ∙ ap (λ ts. ts ++ task ∷ []) so_far.told ∙ ap (λ t. take count (states tasks) ++ t ∷ []) is ∙ sym (take_more (states tasks) count no_task here);
      low = slot_of (id_of task) + 1;
      entered = enters.1;
      rest = subst (λ (t : TaskState). Rises (slot_of (id_of t) + 1) (drop (count + 1) (states tasks)) 73) (sym is) rest_rises.1;
    }
