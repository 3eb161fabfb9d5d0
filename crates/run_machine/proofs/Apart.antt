-- At the start of a scenario no two tasks have one name.
use Rattle.std.proofs.Common.{◌≡◌, ◌+◌, ◌<◌, ◌≤◌, ◌++◌, if◌then◌else◌, ℕ, zero, suc, Bool, true, false, List, [], ◌∷◌, length, map, filter, refl, ap, arith, get_or}
use Rattle.std.specs.List.{list_any, range_with_len}
use Rattle.elem_ledger.specs.Ledger.{LedgerId}
use Rattle.run_machine.specs.declared.event.TaskId.{TaskId}
use Rattle.run_machine.specs.declared.event.TaskId.TheVariants as id
use Rattle.run_machine.specs.Scene.{is_disk}
use Rattle.run_machine.specs.Submissions.{rests}
use Rattle.run_machine.specs.Tasks.{TaskState, Writer, Rescuer, Completer, Duty, NoBio, Empty}
use Rattle.run_machine.specs.Events.{id_of}
use Rattle.run_machine.specs.Opened.{Scenario, scene, start, opened_tasks, todos, todos_of, is_by, writers, duties, keepers, no_task, setup_in, device_at}
use Rattle.run_machine.specs.OneState.{TaskNamesDiffer, RunsLeadToOneState}
use Rattle.run_machine.proofs.OneState.{runs, same_replies, stay}

-- names as numbers, where there are so many devices
abbrev slot : ℕ → TaskId → ℕ
slot count (id.Writer number) = number
slot count (id.Rescuer dev) = 8 + dev.0
slot count (id.Completer dev) = 8 + count + dev.0
slot count id.Keeper = 8 + count + count

abbrev slot_at : ℕ → TaskState → ℕ
slot_at count task = slot count (id_of task)

-- the names of tasks rise from one number up to below another
abbrev Rises : ℕ → ℕ → List TaskState → ℕ → Type 0
Rises count low [] high = low ≤ high
Rises count low (task ∷ tasks) high = (low ≤ slot_at count task) × Rises count (slot_at count task + 1) tasks high

wider : (count low under high over : ℕ) (tasks : List TaskState) → under ≤ low → high ≤ over → Rises count low tasks high → Rises count under tasks over
wider count low under high over [] less more rise = omega (arith, less, more, rise)
wider count low under high over (task ∷ tasks) less more rise =
    let first = rise.0 in
    (omega (arith, less, first), wider count (slot_at count task + 1) (slot_at count task + 1) high over tasks (omega arith) more rise.1)

behind : (count low mid high : ℕ) (tasks others : List TaskState) → Rises count low tasks mid → Rises count mid others high → Rises count low (tasks ++ others) high
behind count low mid high [] others rise more = wider count mid low high high others rise (omega arith) more
behind count low mid high (task ∷ tasks) others rise more = (rise.0, behind count (slot_at count task + 1) mid high tasks others rise.1 more)

-- tasks that are made of numbers
of_range : (count base : ℕ) (make : ℕ → TaskState) → ((d : ℕ) → slot_at count (make d) ≡ base + d) → (test : ℕ → Bool) (a n : ℕ)
    → Rises count (base + a) (map make (filter test (range_with_len a n))) (base + a + n)
of_range count base make is test a zero = omega arith
of_range count base make is test a (suc n) = by_test (of_range count base make is test (a + 1) n) (test a)
  where
    by_test : Rises count (base + (a + 1)) (map make (filter test (range_with_len (a + 1) n))) (base + (a + 1) + n) → (v : Bool)
        → Rises count (base + a) (map make (if v then a ∷ filter test (range_with_len (a + 1) n) else filter test (range_with_len (a + 1) n))) (base + a + suc n)
    by_test rest true =
        let at = is a in (
          omega (arith, at),
          wider count (base + (a + 1)) (slot_at count (make a) + 1) (base + (a + 1) + n) (base + a + suc n) (map make (filter test (range_with_len (a + 1) n)))
              (omega (arith, at)) (omega arith) rest,
        )
    by_test rest false = wider count (base + (a + 1)) (base + a) (base + (a + 1) + n) (base + a + suc n) (map make (filter test (range_with_len (a + 1) n)))
        (omega arith) (omega arith) rest

-- there is one keeper at most
pub one_keeper : (list : List Duty) → length (keepers list) ≤ 1
one_keeper [] = omega arith
one_keeper (duty ∷ list) = omega arith

of_keepers : (count : ℕ) (list : List Duty) → Rises count (8 + count + count) (keepers list) (8 + count + count + 1)
of_keepers count [] = omega arith
of_keepers count (duty ∷ list) = (omega arith, omega arith)

-- so no two of them have one name
not_below : (count low high : ℕ) (tasks : List TaskState) → Rises count low tasks high → (i : ℕ) → i < length tasks → low ≤ slot_at count (get_or tasks i no_task)
not_below count low high [] rise i few = absurd (omega (arith, few))
not_below count low high (task ∷ tasks) rise zero few = rise.0
not_below count low high (task ∷ tasks) rise (suc i) few =
    let first = rise.0 in
    let later = not_below count (slot_at count task + 1) high tasks rise.1 i (omega (arith, few)) in
    omega (arith, first, later)

apart_in : (count low high : ℕ) (tasks : List TaskState) → Rises count low tasks high → (i j : ℕ) → i < length tasks → j < length tasks
    → slot_at count (get_or tasks i no_task) ≡ slot_at count (get_or tasks j no_task) → i ≡ j
apart_in count low high [] rise i j few less is = absurd (omega (arith, few))
apart_in count low high (task ∷ tasks) rise zero zero few less is = refl
apart_in count low high (task ∷ tasks) rise zero (suc j) few less is =
    let later = not_below count (slot_at count task + 1) high tasks rise.1 j (omega (arith, less)) in
    absurd (omega (arith, later, is))
apart_in count low high (task ∷ tasks) rise (suc i) zero few less is =
    let later = not_below count (slot_at count task + 1) high tasks rise.1 i (omega (arith, few)) in
    absurd (omega (arith, later, is))
apart_in count low high (task ∷ tasks) rise (suc i) (suc j) few less is =
    ap suc (apart_in count (slot_at count task + 1) high tasks rise.1 i j (omega (arith, few)) (omega (arith, less)) is)

module _ (s : Scenario) where
  abbrev count : ℕ
  count = (setup_in s).count

  abbrev ws : List TaskState
  ws = map (λ writer. Writer writer (todos_of s writer) NoBio rests) (writers s)

  abbrev rs : List TaskState
  rs = map (λ dev. Rescuer (device_at dev) rests) (filter (setup_in s).rescuer (range_with_len 0 count))

  abbrev cs : List TaskState
  cs = map (λ dev. Completer (device_at dev) Empty) (filter (is_disk (setup_in s)) (range_with_len 0 count))

  rise : Rises count 0 (opened_tasks s) (8 + count + count + 1)
  rise =
      behind count 0 8 (8 + count + count + 1) ws (rs ++ (cs ++ keepers (duties s)))
      (of_range count 0 (λ writer. Writer writer (todos_of s writer) NoBio rests) (λ d. omega arith) (λ writer. list_any (is_by writer) (todos s)) 0 8)
      (behind count 8 (8 + count) (8 + count + count + 1) rs (cs ++ keepers (duties s))
      (wider count (8 + 0) 8 (8 + 0 + count) (8 + count) rs (omega arith) (omega arith)
      (of_range count 8 (λ dev. Rescuer (device_at dev) rests) (λ d. refl) (setup_in s).rescuer 0 count))
      (behind count (8 + count) (8 + count + count) (8 + count + count + 1) cs (keepers (duties s))
      (wider count (8 + count + 0) (8 + count) (8 + count + 0 + count) (8 + count + count) cs (omega arith) (omega arith)
      (of_range count (8 + count) (λ dev. Completer (device_at dev) Empty) (λ d. refl) (is_disk (setup_in s)) 0 count))
      (of_keepers count (duties s))))

  pub start_apart : (ledger : ℕ → LedgerId) → TaskNamesDiffer (scene s ledger) (start s)
  start_apart ledger i j few less is = apart_in count 0 (8 + count + count + 1) (opened_tasks s) rise i j few less (ap (slot count) is)

pub runs_lead_to_one_state : RunsLeadToOneState
runs_lead_to_one_state = record {
  apart = λ s ledger events state run. stay (scene s ledger) (start s) state events (start_apart s ledger) run;
  one = λ s ledger events state other run again. runs (scene s ledger) (start s) state other events (start_apart s ledger) run again;
  same = λ s ledger events state other run again. same_replies (scene s ledger) (start s) state other events (start_apart s ledger) run again;
}
