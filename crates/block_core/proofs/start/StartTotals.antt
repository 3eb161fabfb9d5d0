-- What all is worth that there is at the start: what writers have to begin.
use Rattle.std.proofs.Common.{◌≡◌, ◌+◌, ◌*◌, ◌<◌, ◌≤◌, ◌==◌, ◌++◌, if◌then◌else◌, cond, ℕ, zero, suc, Bool, true, false, List, [], ◌∷◌, length, map, filter, inl, inr, refl, sym, ◌∙◌, ap, arith, get_or}
use Rattle.std.specs.Prelude.{sum_by, take, All}
use Rattle.std.specs.List.{range_with_len, flat_map, list_any}
use Rattle.std.proofs.Math.Seq.{take-suc}
use Rattle.std.proofs.lemmas.Bool.{eq-eqb, ne_eqb}
use Rattle.std.proofs.lemmas.List.{take_all}
use Rattle.std.proofs.lemmas.List.Elements.{All-head, All-tail}
use Rattle.std.proofs.lemmas.List.Sums.{sum_by-cons, sum_by-append, sum_by_push}
use Rattle.elem_ledger.specs.Ledger.{LedgerId}
use Rattle.layout_model.specs.declared.write.Write.{Write}
use Rattle.layout_model.proofs.RangeSums.{sum_next, sum_same, sum_swapped}
use Rattle.model_disks.specs.Disks.{DiskState}
use Rattle.run_machine.specs.Scene.{Scene, is_disk}
use Rattle.run_machine.specs.Submissions.{rests}
use Rattle.run_machine.specs.Tasks.{TaskState, Writer, Rescuer, Completer, Keeper, Duty, Todo, NoBio, Empty}
use Rattle.run_machine.specs.Opened.{Scenario, scene, start, opened_tasks, todos, todos_of, is_by, writers, duties, keepers, no_task, setup_in, device_at}
use Rattle.run_machine.proofs.Passing.{filter_sum, none_passes}
use Rattle.block_core.specs.Weights.{Weight, Pending, Rescued, total_weight, sum_at, one_if_same, task_weight, book_weight}
use Rattle.block_core.specs.Scenarios.{IsScenario}
use Rattle.block_core.proofs.moves.Sums.{one-same, one-other, same_or_not}
use Rattle.block_core.proofs.start.InvariantAtStart.{Begins, start_opened, nodes_zero, sum_at-zero, todos_all}

-- sums over lists
pub map_sum : {X Y : Type 0} (g : Y → ℕ) (f : X → Y) (xs : List X) → sum_by g (map f xs) ≡ sum_by (λ x. g (f x)) xs
map_sum g f [] = refl
map_sum g f (x ∷ xs) = omega (arith, sum_by-cons g (f x) (map f xs), sum_by-cons (λ x. g (f x)) x xs, map_sum g f xs)

zero_sum : {X : Type 0} (g : X → ℕ) (xs : List X) → ((x : X) → g x ≡ 0) → sum_by g xs ≡ 0
zero_sum g [] none = refl
zero_sum g (x ∷ xs) none = omega (arith, sum_by-cons g x xs, none x, zero_sum g xs none)

pub flat_sum : {X Y : Type 0} (g : Y → ℕ) (f : X → List Y) (xs : List X) → sum_by g (flat_map f xs) ≡ sum_by (λ x. sum_by g (f x)) xs
flat_sum g f [] = refl
flat_sum g f (x ∷ xs) = omega (arith, sum_by-append g (f x) (flat_map f xs), sum_by-cons (λ x. sum_by g (f x)) x xs, flat_sum g f xs)

-- a filtered list, term by term
filtered_sum : {X : Type 0} (g : X → ℕ) (p : X → Bool) (xs : List X) → sum_by g (filter p xs) ≡ sum_by (λ x. cond (p x) (g x) 0) xs
filtered_sum g p [] = refl
filtered_sum g p (x ∷ xs) = by_test (p x) (filtered_sum g p xs) ∙ sym (sum_by-cons (λ x. cond (p x) (g x) 0) x xs)
  where
    by_test : (v : Bool) → sum_by g (filter p xs) ≡ sum_by (λ x. cond (p x) (g x) 0) xs
        → sum_by g (if v then x ∷ filter p xs else filter p xs) ≡ cond v (g x) 0 + sum_by (λ x. cond (p x) (g x) 0) xs
    by_test true rest = omega (arith, sum_by-cons g x (filter p xs), rest)
    by_test false rest = omega (arith, rest)

no_hit : (k c n a : ℕ) → k < a → sum_by (λ v. cond (k == v) c 0) (range_with_len a n) ≡ 0
no_hit k c zero a lt = refl
no_hit k c (suc n) a lt =
    omega (arith, sum_next (λ v. cond (k == v) c 0) a n, ap (λ b. cond b c 0) (ne_eqb k a (λ e. omega (arith, e, lt))), no_hit k c n (a + 1) (omega (arith, lt)))

-- what counts at one number of a range counts once
one_hit : (k c n a : ℕ) → a ≤ k → k < a + n → sum_by (λ v. cond (k == v) c 0) (range_with_len a n) ≡ c
one_hit k c zero a ge lt = absurd (omega (arith, ge, lt))
one_hit k c (suc n) a ge lt = elim (same_or_not k a) [
  | inl e ↦ omega (arith, sum_next (λ v. cond (k == v) c 0) a n, ap (λ b. cond b c 0) (eq-eqb k a e), no_hit k c n (a + 1) (omega (arith, e)))
  | inr ne ↦ omega (arith, sum_next (λ v. cond (k == v) c 0) a n, ap (λ b. cond b c 0) (ne_eqb k a ne), one_hit k c n (a + 1) (omega (arith, ge, ne)) (omega (arith, lt)))
]

pub all_sum : {X : Type 0} (P : X → Type 0) (f g : X → ℕ) (xs : List X) → ((x : X) → P x → f x ≡ g x) → All P xs → sum_by f xs ≡ sum_by g xs
all_sum P f g [] same all = refl
all_sum P f g (x ∷ xs) same all =
    omega (arith, sum_by-cons f x xs, sum_by-cons g x xs, same x (All-head P x xs all), all_sum P f g xs same (All-tail P x xs all))

-- what is told apart by numbers below n is all of it
grouped_all : {X : Type 0} (key cost : X → ℕ) (n : ℕ) (xs : List X) → All (λ x. key x < n) xs → sum_by (λ v. sum_by cost (filter (λ y. key y == v) xs)) (range_with_len 0 n) ≡ sum_by cost xs
grouped_all {X = X} key cost n xs below =
    sum_same (λ v. sum_by cost (filter (λ y. key y == v) xs)) (λ v. sum_by (λ y. cond (key y == v) (cost y) 0) xs) (range_with_len 0 n) (λ v. filtered_sum cost (λ y. key y == v) xs)
    ∙ sum_swapped (λ v y. cond (key y == v) (cost y) 0) (range_with_len 0 n) xs
    ∙ all_sum (λ (x : X). key x < n) (λ y. sum_by (λ v. cond (key y == v) (cost y) 0) (range_with_len 0 n)) cost xs (λ y lt. one_hit (key y) (cost y) n 0 (omega arith) (omega (arith, lt))) below

-- a filter that passes all that counts
passing_sum : {X : Type 0} (g : X → ℕ) (p : X → Bool) (xs : List X) → ((x : X) → p x ≡ false → g x ≡ 0) → sum_by g (filter p xs) ≡ sum_by g xs
passing_sum g p xs none = filtered_sum g p xs ∙ sum_same (λ x. cond (p x) (g x) 0) g xs (λ x. by_test x (p x) refl)
  where
    by_test : (x : _) (v : Bool) → p x ≡ v → cond v (g x) 0 ≡ g x
    by_test x true is = refl
    by_test x false is = sym (none x is)

-- a sum over the places of a list is one over the list
places_sum : {X : Type 0} (g : X → ℕ) (xs : List X) (d : X) (n : ℕ) → n ≤ length xs → sum_at (λ place x. g x) n (λ place. get_or xs place d) ≡ sum_by g (take n xs)
unfolding sum_at
places_sum g xs d zero le = refl
places_sum g xs d (suc n) le =
    let rest = places_sum g xs d n (omega (arith, le)) in
    let next = take-suc xs n d (omega (arith, le)) in
    let push = sum_by_push g (take n xs) (get_or xs n d) in
    omega (arith, rest, push, ap (sum_by g) next)

range_sum : (h : ℕ → ℕ) → sum_by h (range_with_len 0 8) ≡ sum_at (λ v (x : ℕ). h v) 8 (λ v. v)
unfolding sum_at
range_sum h = refl

-- of all numbers below n, one at most is this one
picked : (h : ℕ → ℕ) (w n : ℕ) → sum_at (λ v (x : ℕ). one_if_same v w * h v) n (λ v. v) ≤ h w
unfolding sum_at
picked h w zero = omega arith
picked h w (suc n) = elim (same_or_not n w) [
  | inl e ↦
      let own : one_if_same n w * h n ≡ h w = ap (λ k. one_if_same k w * h k) e ∙ ap (λ m. m * h w) (one-same w) ∙ omega arith in
      omega (arith, none_below h w n (omega (arith, e)), own)
  | inr ne ↦
      let none : one_if_same n w * h n ≡ 0 = ap (λ m. m * h n) (one-other n w ne) ∙ omega arith in
      omega (arith, picked h w n, none)
]
  where
    none_below : (h : ℕ → ℕ) (w n : ℕ) → n ≤ w → sum_at (λ v (x : ℕ). one_if_same v w * h v) n (λ v. v) ≡ 0
    none_below h w zero le = refl
    none_below h w (suc n) le =
        let none : one_if_same n w * h n ≡ 0 = ap (λ m. m * h n) (one-other n w (λ e. omega (arith, e, le))) ∙ omega arith in
        omega (arith, none_below h w n (omega (arith, le)), none)

-- what a task has to begin is worth
abbrev todo_weight : Weight → TaskState → ℕ
todo_weight w (Writer number todo taken submission) = w.todo number todo NoBio
todo_weight w (Rescuer dev submission) = 0
todo_weight w (Completer disk carried) = 0
todo_weight w (Keeper keeping) = 0

-- of a task that did nothing yet all else is worth nothing
task_is : (scene : Scene) (w : Weight) (place : ℕ) (x : TaskState) → Begins scene x → task_weight w place x ≡ todo_weight w x
task_is scene w place (Writer number todo taken submission) h = rw (h.1, h.2) (omega arith)
task_is scene w place (Rescuer dev submission) h = rw (h.1) refl
task_is scene w place (Completer disk carried) h = rw (h.1) refl
task_is scene w place (Keeper keeping) h = refl

sum_at-same : {X : Type 0} (u v : ℕ → X → ℕ) (n : ℕ) (f : ℕ → X) → ((i : ℕ) → u i (f i) ≡ v i (f i)) → sum_at u n f ≡ sum_at v n f
unfolding sum_at
sum_at-same u v zero f same = refl
sum_at-same u v (suc n) f same = omega (arith, sum_at-same u v n f same, same n)

-- the tasks at the start by their kinds; the keeper's is behind them
module _ (s : Scenario) where
  abbrev pub writer_tasks : List TaskState
  writer_tasks = map (λ writer. Writer writer (todos_of s writer) NoBio rests) (writers s)

  abbrev pub rescuer_tasks : List TaskState
  rescuer_tasks = map (λ dev. Rescuer (device_at dev) rests) (filter (setup_in s).rescuer (range_with_len 0 (setup_in s).count))

  abbrev pub completer_tasks : List TaskState
  completer_tasks = map (λ dev. Completer (device_at dev) Empty) (filter (is_disk (setup_in s)) (range_with_len 0 (setup_in s).count))

-- of what each writer has to begin, the share of one
pub own_share : (s : Scenario) (w : ℕ) (h : ℕ → ℕ) → sum_by (λ v. one_if_same v w * h v) (writers s) ≤ h w
own_share s w h =
    omega (arith, filter_sum (λ v. one_if_same v w * h v) (λ v. list_any (is_by v) (todos s)) (range_with_len 0 8), range_sum (λ v. one_if_same v w * h v), picked h w 8)

module _ (s : Scenario) (good : IsScenario s) (ledger : ℕ → LedgerId) where
  -- a sum over all tasks
  pub opened_sum : (G : TaskState → ℕ) → ((dev : ℕ) → G (Rescuer (device_at dev) rests) ≡ 0) → ((dev : ℕ) → G (Completer (device_at dev) Empty) ≡ 0)
      → sum_by G (opened_tasks s) ≡ sum_by (λ writer. G (Writer writer (todos_of s writer) NoBio rests)) (writers s) + sum_by G (keepers (duties s))
  opened_sum G no_rescue no_end =
      let count = (setup_in s).count in
      let r : sum_by G (rescuer_tasks s) ≡ 0 = map_sum G (λ dev. Rescuer (device_at dev) rests) (filter (setup_in s).rescuer (range_with_len 0 count))
      ∙ zero_sum (λ dev. G (Rescuer (device_at dev) rests)) (filter (setup_in s).rescuer (range_with_len 0 count)) no_rescue in
      let c : sum_by G (completer_tasks s) ≡ 0 = map_sum G (λ dev. Completer (device_at dev) Empty) (filter (is_disk (setup_in s)) (range_with_len 0 count))
      ∙ zero_sum (λ dev. G (Completer (device_at dev) Empty)) (filter (is_disk (setup_in s)) (range_with_len 0 count)) no_end in
      omega (
        arith,
        sum_by-append G (writer_tasks s) ((rescuer_tasks s) ++ ((completer_tasks s) ++ keepers (duties s))),
        sum_by-append G (rescuer_tasks s) ((completer_tasks s) ++ keepers (duties s)),
        sum_by-append G (completer_tasks s) (keepers (duties s)),
        map_sum G (λ writer. Writer writer (todos_of s writer) NoBio rests) (writers s),
        r,
        c,
      )

  pub placed_sum : (G : TaskState → ℕ) → sum_at (λ place x. G x) (length (opened_tasks s)) (start s).task ≡ sum_by G (opened_tasks s)
  placed_sum G = places_sum G (opened_tasks s) no_task (length (opened_tasks s)) (omega arith) ∙ ap (sum_by G) (take_all (length (opened_tasks s)) (opened_tasks s) (omega arith))

  -- at the start everything is in the writers' hands
  pub worth_at_start : (w : Weight) → total_weight (scene s ledger) w (start s) ≡ sum_by (λ v. w.todo v (todos_of s v) NoBio) (writers s)
  worth_at_start w =
      let o = start_opened s good ledger in
      omega (
        arith,
        sum_at-same (task_weight w) (λ place x. todo_weight w x) (length (opened_tasks s)) (start s).task (λ place. task_is (scene s ledger) w place ((start s).task place) (o.tasks place)),
        placed_sum (todo_weight w),
        opened_sum (todo_weight w) (λ dev. refl) (λ dev. refl),
        keeper_none (duties s),
        sum_at-zero (λ dev bios. sum_by (w.bio Rescued) bios) (scene s ledger).setup.count (start s).objects.rescue (λ dev. refl),
        sum_at-zero (λ dev (disk : DiskState). sum_by (w.bio Pending) disk.pending) (scene s ledger).setup.count (start s).objects.disk (λ dev. refl),
        sum_at-zero (book_weight w) (scene s ledger).books (start s).objects.book (λ writer. nodes_zero w writer ((start s).objects.book writer) (o.books writer)),
      )
    where
      keeper_none : (ds : List Duty) → sum_by (todo_weight w) (keepers ds) ≡ 0
      keeper_none [] = refl
      keeper_none (duty ∷ ds) = refl

  pub opened_total : (w : Weight) → (of : Todo → ℕ) → ((n : ℕ) (ts : List Todo) → w.todo n ts NoBio ≡ sum_by of ts) → total_weight (scene s ledger) w (start s) ≡ sum_by of (todos s)
  opened_total w of todo_is =
      let by : ℕ → ℕ = λ v. sum_by of (todos_of s v) in
      worth_at_start w
      ∙ sum_same (λ v. w.todo v (todos_of s v) NoBio) by (writers s) (λ v. todo_is v (todos_of s v))
      ∙ passing_sum by (λ v. list_any (is_by v) (todos s)) (range_with_len 0 8) (λ v none. ap (sum_by of) (none_passes (is_by v) (todos s) none))
      ∙ grouped_all (λ (todo : Todo). todo.write.task) of 8 (todos s) (todos_all s (λ (write : Write). write.task < 8) good.writers)
