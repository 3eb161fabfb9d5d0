-- The state in which runs begin has the invariant.
use Rattle.std.proofs.Common.{◌≡◌, ◌<◌, ◌≤◌, ◌++◌, ℕ, zero, suc, false, List, [], ◌∷◌, length, map, filter, Option, None, inl, inr, refl, sym, ◌∙◌, ap, subst, arith, get_or}
use Rattle.std.specs.Prelude.{sum_by}
use Rattle.std.proofs.lemmas.List.{get_or_past}
use Rattle.elem_ledger.specs.Ledger.{LedgerId}
use Rattle.mempool_core.specs.Facts.{AddsUp}
use Rattle.bio_books.specs.Books.{Node, BookState, node_at}
use Rattle.model_disks.specs.Disks.{DiskState}
use Rattle.run_machine.specs.Scene.{Scene}
use Rattle.run_machine.specs.Submissions.{rests}
use Rattle.run_machine.specs.Tasks.{TaskState, Writer, Rescuer, Completer, Keeper, Keeps, Duty, Todo, NoBio, Empty}
use Rattle.run_machine.specs.Runs.{State}
use Rattle.block_core.specs.Weights.{Weight, Pending, Rescued, total_weight, sum_at, weigh_option, task_weight, book_weight, elements_of_pool}
use Rattle.block_core.proofs.moves.References.{references, awaited_ends}
use Rattle.block_core.specs.Roles.{named}
use Rattle.block_core.proofs.moves.Sums.{below_or}
use Rattle.block_core.proofs.sound.Invariant.{own_of, GoesOn, TaskIsSound, IsIn, Invariant}
use Rattle.std.specs.Prelude.{All, replicate, zip}
use Rattle.std.proofs.lemmas.List.{get_or-replicate, length-replicate}
use Rattle.std.proofs.lemmas.List.Elements.{All-nil, All-cons, All-head, All-tail, All-map, All-append, All-filter, All-get_or}
use Rattle.std.proofs.lemmas.Bool.Decides.{nat_tests}
use Rattle.mempool_core.proofs.MoveLemmas.{opened_adds_up}
use Rattle.block_core.specs.Scenarios.{IsScenario}
use Rattle.std.specs.List.{range_with_len, list_any}
use Rattle.layout_model.specs.declared.write.Write.{Write}
use Rattle.layout_model.specs.NeedCounts.{nodes}
use Rattle.run_machine.specs.Events.{pool_of}
use Rattle.run_machine.specs.Scene.{is_disk}
use Rattle.run_machine.specs.Opened.{Scenario, scene, start, opened_tasks, todos, todos_of, is_by, writers, duties, keepers, no_task, places_of, reserve_of, script_at, setup_in, device_at}
use Rattle.run_machine.proofs.Passing.{below_all, none_passing}

-- a task that did nothing yet
abbrev pub Begins : Scene → TaskState → Type 0
Begins scene (Writer number todo taken submission) = (number < scene.books) × (taken ≡ NoBio) × (submission ≡ rests)
Begins scene (Rescuer dev submission) = (dev.0 < scene.setup.count) × (submission ≡ rests)
Begins scene (Completer disk carried) = (disk.0 < scene.setup.count) × (carried ≡ Empty)
Begins scene (Keeper keeping) = GoesOn keeping

pub sum_at-zero : {X : Type 0} (w : ℕ → X → ℕ) (n : ℕ) (f : ℕ → X) → ((i : ℕ) → w i (f i) ≡ 0) → sum_at w n f ≡ 0
unfolding sum_at
sum_at-zero w zero f h = refl
sum_at-zero w (suc n) f h = omega (arith, sum_at-zero w n f h, h n)

task_zero : (scene : Scene) (w : Weight) (place : ℕ) (x : TaskState) → ((n : ℕ) (todos : List Todo) → w.todo n todos NoBio ≡ 0) → Begins scene x → task_weight w place x ≡ 0
task_zero scene w place (Writer number todo taken submission) none h = let z = none number todo in rw (h.1, h.2) (omega arith)
task_zero scene w place (Rescuer dev submission) none h = rw (h.1) refl
task_zero scene w place (Completer disk carried) none h = rw (h.1) refl
task_zero scene w place (Keeper keeping) none h = refl

-- books without an open node
none_in : (places k : ℕ) → let nodes : List (Option Node) = replicate places None in get_or nodes k None ≡ None
none_in places k = elim (below_or k places) [
  | inl lt ↦ get_or-replicate places k None None lt
  | inr ge ↦ get_or_past (replicate places None) k None (omega (arith, length-replicate {A = Option Node} places None, ge))
]

pub record IsStartState (scene : Scene) (s : State) : Type 0 where
  pub pools : (p : ℕ) → (s.objects.pool p).facts.out ≡ 0
  pub add_up : (p : ℕ) → AddsUp (s.objects.pool p).facts
  pub rescued : (dev : ℕ) → s.objects.rescue dev ≡ []
  pub disks : (dev : ℕ) → (s.objects.disk dev).pending ≡ []
  pub books : (w k : ℕ) → node_at (s.objects.book w) k ≡ None
  pub inside : (w : ℕ) → scene.books ≤ w → (s.objects.book w).nodes ≡ []
  pub tasks : (place : ℕ) → Begins scene (s.task place)

pub nodes_zero : (w : Weight) (writer : ℕ) (book : BookState) → ((k : ℕ) → node_at book k ≡ None) → book_weight w writer book ≡ 0
nodes_zero w writer book h =
    sum_at-zero (λ place. weigh_option (w.node writer place)) (length book.nodes) (node_at book) (λ place. ap (weigh_option (w.node writer place)) (h place))

pub total_zero : (scene : Scene) (s : State) (w : Weight) → ((n : ℕ) (todos : List Todo) → w.todo n todos NoBio ≡ 0) → IsStartState scene s → total_weight scene w s ≡ 0
total_zero scene s w none o =
    omega (
      arith,
      sum_at-zero (task_weight w) scene.tasks s.task (λ place. task_zero scene w place (s.task place) none (o.tasks place)),
      sum_at-zero (λ dev bios. sum_by (w.bio Rescued) bios) scene.setup.count s.objects.rescue (λ dev. ap (sum_by (w.bio Rescued)) (o.rescued dev)),
      sum_at-zero (λ dev (disk : DiskState). sum_by (w.bio Pending) disk.pending) scene.setup.count s.objects.disk (λ dev. ap (sum_by (w.bio Pending)) (o.disks dev)),
      sum_at-zero (book_weight w) scene.books s.objects.book (λ writer. nodes_zero w writer (s.objects.book writer) (o.books writer)),
    )

begins_fit : (scene : Scene) (x : TaskState) → Begins scene x → TaskIsSound scene x
begins_fit scene (Writer number todo taken submission) h = rw (h.1, h.2) (h.0, refl, tt)
begins_fit scene (Rescuer dev submission) h = rw (h.1) (h.0, refl)
begins_fit scene (Completer disk carried) h = h.0
begins_fit scene (Keeper keeping) h = h

begins_in : (scene : Scene) (x : TaskState) → Begins scene x → IsIn scene.setup x
begins_in scene (Writer number todo taken submission) h = rw (h.2) tt
begins_in scene (Rescuer dev submission) h = rw (h.1) tt
begins_in scene (Completer disk carried) h = tt
begins_in scene (Keeper keeping) h = tt

pub opened_kept : (scene : Scene) (s : State) → IsStartState scene s → Invariant scene s
opened_kept scene s o = record {
  pools = o.add_up;
  outs = λ p. o.pools p ∙ sym (total_zero scene s (elements_of_pool p) (λ n todos. refl) o);
  counts = λ w k. ap awaited_ends (o.books w k) ∙ sym (total_zero scene s (references scene.setup w k) (λ n todos. refl) o);
  owns = λ w k. ap own_of (o.books w k) ∙ sym (total_zero scene s (named w k) (λ n todos. refl) o);
  inside = o.inside;
  tasks = λ place. begins_fit scene (s.task place) (o.tasks place);
  devices = λ place. begins_in scene (s.task place) (o.tasks place);
}

pub all_map : {X : Type 0} (P Q : X → Type 0) → ((x : X) → P x → Q x) → (xs : List X) → All P xs → All Q xs
all_map P Q more [] all = All-nil Q
all_map P Q more (x ∷ xs) all = All-cons Q x xs (more x (All-head P x xs all)) (all_map P Q more xs (All-tail P x xs all))

seconds_all : {A : Type 0} (P : ℕ × Write → Type 0) (ns : List A) (xs : List (ℕ × Write)) → All P xs → All (λ (x : A × (ℕ × Write)). P x.1) (zip ns xs)
seconds_all {A = A} P [] xs all = All-nil (λ (x : A × (ℕ × Write)). P x.1)
seconds_all {A = A} P (n ∷ ns) [] all = All-nil (λ (x : A × (ℕ × Write)). P x.1)
seconds_all {A = A} P (n ∷ ns) (x ∷ xs) all =
    All-cons (λ (x : A × (ℕ × Write)). P x.1) (n, x) (zip ns xs) (All-head P x xs all) (seconds_all P ns xs (All-tail P x xs all))

writes_all : (P : Write → Type 0) (ns : List ℕ) (xs : List Write) → All P xs → All (λ (x : ℕ × Write). P x.1) (zip ns xs)
writes_all P [] xs all = All-nil (λ (x : ℕ × Write). P x.1)
writes_all P (n ∷ ns) [] all = All-nil (λ (x : ℕ × Write). P x.1)
writes_all P (n ∷ ns) (x ∷ xs) all = All-cons (λ (x : ℕ × Write). P x.1) (n, x) (zip ns xs) (All-head P x xs all) (writes_all P ns xs (All-tail P x xs all))

-- what holds of each write holds of each that is still to begin
pub todos_all : (s : Scenario) (P : Write → Type 0) → All P s.writes → All (λ (todo : Todo). P todo.write) (todos s)
todos_all s P all =
    All-map (λ (todo : Todo). P todo.write) (λ x. record { number = x.0; round = x.1.0; write = x.1.1 }) (zip (range_with_len 0 (length s.writes)) (zip s.rounds s.writes))
    (seconds_all (λ (x : ℕ × Write). P x.1) (range_with_len 0 (length s.writes)) (zip s.rounds s.writes) (writes_all P s.rounds s.writes all))

module _ (s : Scenario) (good : IsScenario s) (ledger : ℕ → LedgerId) where
  -- a writer of a number that no write has needs no place
  no_places : (w : ℕ) → 8 ≤ w → places_of s w ≡ 0
  no_places w ge =
      ap (sum_by (λ (todo : Todo). nodes s.stack todo.write))
      (none_passing (is_by w) (todos s) (all_map (λ (todo : Todo). todo.write.task < 8) (λ (todo : Todo). is_by w todo ≡ false) (λ todo lt. grind (arith, nat_tests, lt, ge)) (todos s) (todos_all s (λ (write : Write). write.task < 8) good.writers)))

  tasks_begin : All (Begins (scene s ledger)) (opened_tasks s)
  tasks_begin =
      let P : TaskState → Type 0 = Begins (scene s ledger) in
      let count = (setup_in s).count in
      let ws = map (λ writer. Writer writer (todos_of s writer) NoBio rests) (writers s) in
      let rs = map (λ dev. Rescuer (device_at dev) rests) (filter (setup_in s).rescuer (range_with_len 0 count)) in
      let cs = map (λ dev. Completer (device_at dev) Empty) (filter (is_disk (setup_in s)) (range_with_len 0 count)) in
      All-append P ws (rs ++ (cs ++ keepers (duties s)))
      (All-map P (λ writer. Writer writer (todos_of s writer) NoBio rests) (writers s)
      (all_map (λ n. n < 8) (λ n. P (Writer n (todos_of s n) NoBio rests)) (λ n lt. (lt, refl, refl)) (writers s)
      (All-filter (λ writer. list_any (is_by writer) (todos s)) (λ n. n < 8) (range_with_len 0 8) (below_all 8))))
      (All-append P rs (cs ++ keepers (duties s))
      (All-map P (λ dev. Rescuer (device_at dev) rests) (filter (setup_in s).rescuer (range_with_len 0 count))
      (all_map (λ n. n < count) (λ n. P (Rescuer (device_at n) rests)) (λ n lt. (lt, refl)) (filter (setup_in s).rescuer (range_with_len 0 count))
      (All-filter (setup_in s).rescuer (λ n. n < count) (range_with_len 0 count) (below_all count))))
      (All-append P cs (keepers (duties s))
      (All-map P (λ dev. Completer (device_at dev) Empty) (filter (is_disk (setup_in s)) (range_with_len 0 count))
      (all_map (λ n. n < count) (λ n. P (Completer (device_at n) Empty)) (λ n lt. (lt, refl)) (filter (is_disk (setup_in s)) (range_with_len 0 count))
      (All-filter (is_disk (setup_in s)) (λ n. n < count) (range_with_len 0 count) (below_all count))))
      (keeper_begins (duties s))))
    where
      keeper_begins : (duties : List Duty) → All (Begins (scene s ledger)) (keepers duties)
      keeper_begins [] = All-nil (Begins (scene s ledger))
      keeper_begins (duty ∷ duties) = All-cons (Begins (scene s ledger)) (Keeper (Keeps (duty ∷ duties))) [] tt (All-nil (Begins (scene s ledger)))

  task_begins : (place : ℕ) → Begins (scene s ledger) ((start s).task place)
  task_begins place = elim (below_or place (length (opened_tasks s))) [
    | inl lt ↦ All-get_or (Begins (scene s ledger)) (opened_tasks s) place no_task lt tasks_begin
    | inr ge ↦ subst (Begins (scene s ledger)) (sym (get_or_past (opened_tasks s) place no_task ge)) tt
  ]

  pub start_opened : IsStartState (scene s ledger) (start s)
  start_opened = record {
    pools = λ p. refl;
    add_up = λ p. opened_adds_up (reserve_of s.stack (pool_of p)) (script_at s.scripts p);
    rescued = λ dev. refl;
    disks = λ dev. refl;
    books = λ w k. none_in (places_of s w) k;
    inside = λ w ge. ap (λ n. replicate n None) (no_places w ge);
    tasks = task_begins;
  }
