-- Writes are shared out among writers, and tasks are added one behind the other.
use Rattle.std.proofs.Common.{◌≡◌, inl, inr, ◌+◌, ◌<◌, ◌≤◌, ◌++◌, ◌^◌, ℕ, suc, Bool, true, false, List, [], ◌∷◌, length, map, filter, take, get_or, set, refl, sym, ap, subst, ◌∙◌, arith}
use Rattle.std.specs.Prelude.{All, sum_by, zip}
use Rattle.std.specs.List.{list_any, range_with_len}
use Rattle.std.proofs.lemmas.List.{append_assoc, get_or-map, get_or-set_same, get_or-set_other, length-set, map-append, take_all}
use Rattle.std.proofs.lemmas.List.Elements.{All-cons, All-filter, All-head, All-nil, All-tail, All-weaker, filter_more}
use Rattle.std.proofs.lemmas.List.FromFn.{get_or-range_with_len, length-range_with_len}
use Rattle.std.proofs.lemmas.List.Sums.{sum_by-cons}
use Rattle.std.proofs.lemmas.Slice.Zip.{get_or-zip, length-zip}
use Rattle.std.proofs.lemmas.Bool.{both_ways}
use Rattle.stack_base.specs.declared.stack.Stack.{Stack}
use Rattle.layout_model.specs.declared.write.Write.{Write}
use Rattle.layout_model.specs.NeedCounts.{nodes}
use Rattle.layout_model.specs.Writes.{IsWrite}
use Rattle.task_steps.specs.declared.task.Kind.{Kind}
use Rattle.run_machine.specs.Submissions.{rests}
use Rattle.task_core.specs.declared.opening.tasks.DeviceTasks.{DeviceTasks}
use Rattle.task_core.specs.declared.opening.tasks.DeviceTasks.TheVariants as of_devices
use Rattle.task_core.specs.opened.NewTasks.{device_tasks, writer_with, shown_tasks, AddsTasks, AreServableWrites, ArePlaced}
use Rattle.run_machine.specs.Scene.{Setup, is_disk}
use Rattle.run_machine.specs.Opened.{device_at, is_by, numbered, numbered_from, todos_by, nodes_of, is_writer, writers_of}
use Rattle.run_machine.specs.Tasks.{Todo, TaskState, NoBio, Empty, Writer, Rescuer, Completer}
use Rattle.run_machine.proofs.Passing.{filter_sum, none_passes}
use Rattle.stack_base.proofs.NumberLemmas.{below_or_last}
use Rattle.task_core.proofs.opened.OpenedInOrder as fill

-- how many there are, and which stands at a place
pub numbered_long : (first : ℕ) (rounds : List ℕ) (writes : List Write) → length rounds ≡ length writes
    → length (numbered_from first rounds writes) ≡ length writes
numbered_long first [] [] e = refl
numbered_long first (round ∷ rounds) (write ∷ writes) e = ap suc (numbered_long (first + 1) rounds writes (omega (arith, e)))
numbered_long first [] (write ∷ writes) e = absurd (omega (arith, e))
numbered_long first (round ∷ rounds) [] e = absurd (omega (arith, e))

abbrev todo_at : ℕ → ℕ → Write → Todo
todo_at number round write = record { number = number; round = round; write = write }

numbered_at : (rounds : List ℕ) (writes : List Write) (i round : ℕ) (write : Write) → length rounds ≡ length writes → i < length writes
    → round ≡ get_or rounds i round → write ≡ get_or writes i write → get_or (numbered rounds writes) i (todo_at i round write) ≡ todo_at i round write
numbered_at rounds writes i round write paired lt is also =
    let range = range_with_len 0 (length writes) in
    let many = length-range_with_len 0 (length writes) in
    let both = length-zip rounds writes in
    let inside : i < length range = omega (arith, lt, many) in
    let within : i < length rounds = omega (arith, lt, paired) in
    let zipped : i < length (zip rounds writes) = omega (arith, lt, paired, both) in
    let shows : ℕ × (ℕ × Write) → Todo = λ x. todo_at x.0 x.1.0 x.1.1 in
    let whole = length-zip range (zip rounds writes) in
    let stands : get_or range i i ≡ 0 + i = get_or-range_with_len 0 (length writes) i i lt in
    let none : 0 + i ≡ i = omega arith in
    get_or-map shows (zip range (zip rounds writes)) i (i, (round, write)) (todo_at i round write) (omega (arith, whole, inside, zipped))
    ∙ ap shows
    (get_or-zip range (zip rounds writes) i (i, (round, write)) inside zipped
    ∙ ap (λ n. (n, get_or (zip rounds writes) i (round, write))) (stands ∙ none)
    ∙ ap (λ (x : ℕ × Write). (i, x)) (get_or-zip rounds writes i (round, write) within lt
    ∙ ap (λ r. (r, get_or writes i write)) (sym is) ∙ ap (λ w. (round, w)) (sym also)))

-- one more write is looked at
pub share_more : (rounds : List ℕ) (writes : List Write) (writer i round : ℕ) (write : Write) (old new : List Todo) → length rounds ≡ length writes
    → i < length writes → round ≡ get_or rounds i round → write ≡ get_or writes i write → old ≡ filter (is_by writer) (take i (numbered rounds writes))
    → new ≡ old ++ filter (is_by writer) (todo_at i round write ∷ []) → new ≡ filter (is_by writer) (take (i + 1) (numbered rounds writes))
share_more rounds writes writer i round write old new paired lt is also so grows =
    let long = numbered_long 0 rounds writes paired in
    let todo = todo_at i round write in
    let p = is_by writer in
    grows ∙ ap (λ todos. todos ++ filter p (todo ∷ [])) so
    ∙ sym (filter_more p (numbered rounds writes) i todo (omega (arith, lt, long))
    ∙ ap (λ (t : Todo). filter p (take i (numbered rounds writes)) ++ filter p (t ∷ [])) (numbered_at rounds writes i round write paired lt is also))

pub share_whole : (rounds : List ℕ) (writes : List Write) (writer i : ℕ) (todos : List Todo) → length rounds ≡ length writes → length writes ≤ i
    → todos ≡ filter (is_by writer) (take i (numbered rounds writes)) → todos ≡ todos_by rounds writes writer
share_whole rounds writes writer i todos paired le so =
    let long = numbered_long 0 rounds writes paired in
    so ∙ ap (filter (is_by writer)) (take_all i (numbered rounds writes) (omega (arith, le, long)))

-- what holds of writes holds of them with their numbers
pub numbered_all : (P : Write → Type 0) (first : ℕ) (rounds : List ℕ) (writes : List Write) → length rounds ≡ length writes → All P writes
    → All (λ (t : Todo). P t.write) (numbered_from first rounds writes)
numbered_all P first [] [] e all = All-nil (λ (t : Todo). P t.write)
numbered_all P first (round ∷ rounds) (write ∷ writes) e all =
    All-cons (λ (t : Todo). P t.write) (todo_at first round write) (numbered_from (first + 1) rounds writes) (All-head P write writes all)
    (numbered_all P (first + 1) rounds writes (omega (arith, e)) (All-tail P write writes all))
numbered_all P first [] (write ∷ writes) e all = absurd (omega (arith, e))
numbered_all P first (round ∷ rounds) [] e all = absurd (omega (arith, e))

pub numbers_below : (first : ℕ) (rounds : List ℕ) (writes : List Write) → length rounds ≡ length writes
    → All (λ (t : Todo). t.number < first + length writes) (numbered_from first rounds writes)
numbers_below first [] [] e = All-nil (λ (t : Todo). t.number < first + 0)
numbers_below first (round ∷ rounds) (write ∷ writes) e =
    All-cons (λ (t : Todo). t.number < first + length (write ∷ writes)) (todo_at first round write) (numbered_from (first + 1) rounds writes) (omega arith)
    (All-weaker (λ (t : Todo). t.number < (first + 1) + length writes) (λ (t : Todo). t.number < first + length (write ∷ writes)) (λ t lt. omega (arith, lt))
    (numbered_from (first + 1) rounds writes) (numbers_below (first + 1) rounds writes (omega (arith, e))))
numbers_below first [] (write ∷ writes) e = absurd (omega (arith, e))
numbers_below first (round ∷ rounds) [] e = absurd (omega (arith, e))

-- sums
nodes_all : (stack : Stack) (first : ℕ) (rounds : List ℕ) (writes : List Write) → length rounds ≡ length writes
    → nodes_of stack (numbered_from first rounds writes) ≡ sum_by (λ write. nodes stack write) writes
nodes_all stack first [] [] e = refl
nodes_all stack first (round ∷ rounds) (write ∷ writes) e =
    let rest = nodes_all stack (first + 1) rounds writes (omega (arith, e)) in
    sum_by-cons (λ (t : Todo). nodes stack t.write) (todo_at first round write) (numbered_from (first + 1) rounds writes)
    ∙ ap (λ n. nodes stack write + n) rest ∙ sym (sum_by-cons (λ write. nodes stack write) write writes)
nodes_all stack first [] (write ∷ writes) e = absurd (omega (arith, e))
nodes_all stack first (round ∷ rounds) [] e = absurd (omega (arith, e))

pub writes_few : (stack : Stack) (writes : List Write) → length writes ≤ sum_by (λ write. nodes stack write) writes
writes_few stack [] = omega arith
writes_few stack (write ∷ writes) =
    let rest = writes_few stack writes in omega (arith, rest, sum_by-cons (λ write. nodes stack write) write writes)

module _ (stack : Stack) (rounds : List ℕ) (writes : List Write) (shared : AreServableWrites stack rounds writes) where
  pub share_few : (writer : ℕ) → nodes_of stack (todos_by rounds writes writer) < 2 ^ 32
  share_few writer =
      let all = nodes_all stack 0 rounds writes shared.paired in
      let some = filter_sum (λ (t : Todo). nodes stack t.write) (is_by writer) (numbered rounds writes) in
      let few = shared.few in
      omega (arith, all, some, few)

  pub share_served : (writer : ℕ) → All (λ (t : Todo). IsWrite stack t.write) (todos_by rounds writes writer)
  share_served writer =
      All-filter (is_by writer) (λ (t : Todo). IsWrite stack t.write) (numbered rounds writes) (numbered_all (IsWrite stack) 0 rounds writes shared.paired shared.served)

  pub few_writes : length writes < 2 ^ 32
  few_writes = let least = writes_few stack writes in let few = shared.few in omega (arith, least, few)

  pub few_rounds : length rounds < 2 ^ 32
  few_rounds = let few = few_writes in let paired = shared.paired in omega (arith, few, paired)

  -- one more book has its places
  pub placed_more : (bound : ℕ) (places new : List ℕ) → ArePlaced stack rounds writes bound places → bound < 8
      → new ≡ set places bound (nodes_of stack (todos_by rounds writes bound)) → ArePlaced stack rounds writes (bound + 1) new
  placed_more bound places new placed lt is = subst (ArePlaced stack rounds writes (bound + 1)) (sym is) (record {
    eight = length-set places bound (nodes_of stack (todos_by rounds writes bound)) ∙ placed.eight;
    each = λ writer below. elim (below_or_last writer bound below) [
      | inl before ↦
          get_or-set_other places bound writer (nodes_of stack (todos_by rounds writes bound)) 0 (fill.not_itself writer bound before) ∙ placed.each writer before
      | inr last ↦
          let eight = placed.eight in
          subst (λ w. get_or (set places bound (nodes_of stack (todos_by rounds writes bound))) w 0 ≡ nodes_of stack (todos_by rounds writes w)) (sym last)
          (get_or-set_same places bound (nodes_of stack (todos_by rounds writes bound)) 0 (omega (arith, lt, eight)))
    ];
  })

-- the tasks of one more number are added
pub adds_more : (F : List ℕ → List TaskState) (n : ℕ) (start old new : List Kind) → F (range_with_len 0 (n + 1)) ≡ F (range_with_len 0 n) ++ F (n ∷ [])
    → AddsTasks start (F (range_with_len 0 n)) old → AddsTasks old (F (n ∷ [])) new → AddsTasks start (F (range_with_len 0 (n + 1))) new
adds_more F n start old new split so is =
    is ∙ ap (λ tasks. tasks ++ F (n ∷ [])) so ∙ append_assoc (shown_tasks start) (F (range_with_len 0 n)) (F (n ∷ []))
    ∙ ap (λ tasks. shown_tasks start ++ tasks) (sym split)

pub kept_split : {Y : Type 0} (f : ℕ → Y) (p : ℕ → Bool) (n : ℕ)
    → map f (filter p (range_with_len 0 (n + 1))) ≡ map f (filter p (range_with_len 0 n)) ++ map f (filter p (n ∷ []))
kept_split f p n = ap (map f) (fill.filter_more p n) ∙ map-append f (filter p (range_with_len 0 n)) (filter p (n ∷ []))

pub device_split : (which : DeviceTasks) (setup : Setup) (n : ℕ)
    → device_tasks which setup (range_with_len 0 (n + 1)) ≡ device_tasks which setup (range_with_len 0 n) ++ device_tasks which setup (n ∷ [])
device_split of_devices.Rescuers setup n = kept_split (λ dev. Rescuer (device_at dev) rests) setup.rescuer n
device_split of_devices.Completers setup n = kept_split (λ dev. Completer (device_at dev) Empty) (is_disk setup) n

-- there is a writer exactly where it has a write
pub record IsSome {X : Type 0} (xs : List X) : Type 0 where
  pub first : X
  pub more : List X
  pub is : xs ≡ first ∷ more

pub any_some : {X : Type 0} (p : X → Bool) (xs : List X) → list_any p xs ≡ true → IsSome (filter p xs)
any_some p [] some = absurd (both_ways false refl some)
any_some p (x ∷ xs) some = by_test (any_some p xs) (p x) refl some
  where
    by_test : (list_any p xs ≡ true → IsSome (filter p xs)) → (b : Bool) → p x ≡ b → list_any p (x ∷ xs) ≡ true → IsSome (filter p (x ∷ xs))
    by_test rest true q some = record { first = x; more = filter p xs; is = rw (q) refl }
    by_test rest false q some =
        let same : list_any p (x ∷ xs) ≡ list_any p xs = rw (q) refl in
        let found = rest (sym same ∙ some) in
        let passed : filter p (x ∷ xs) ≡ filter p xs = rw (q) refl in
        record { first = found.first; more = found.more; is = passed ∙ found.is }

pub writer_there : (rounds : List ℕ) (writes : List Write) (writer : ℕ) → writer_with writer (todos_by rounds writes writer) ≡ writers_of rounds writes (writer ∷ [])
writer_there rounds writes writer = by_test (is_writer rounds writes writer) refl
  where
    by_test : (b : Bool) → is_writer rounds writes writer ≡ b → writer_with writer (todos_by rounds writes writer) ≡ writers_of rounds writes (writer ∷ [])
    by_test false q = rw (q) (ap (writer_with writer) (none_passes (is_by writer) (numbered rounds writes) q))
    by_test true q =
        let found = any_some (is_by writer) (numbered rounds writes) q in
        rw (q) (ap (writer_with writer) found.is ∙ ap (λ todos. Writer writer todos NoBio rests ∷ []) (sym found.is))
