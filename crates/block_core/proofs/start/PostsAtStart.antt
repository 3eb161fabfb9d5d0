-- At the start each task is at its post.
use Rattle.std.proofs.Common.{◌≡◌, ◌≢◌, ◌+◌, ◌-◌, ◌<◌, ◌≤◌, ◌==◌, ◌⊎◌, ◌++◌, ◌&&◌, if◌then◌else◌, ℕ, zero, suc, Bool, true, false, List, [], ◌∷◌, length, map, filter, Option, Some, inl, inr, refl, sym, ◌∙◌, ap, subst, arith, get_or, true≢false}
use Rattle.std.specs.Prelude.{slice_get}
use Rattle.stack_base.specs.declared.stack.Kind.{Kind}
use Rattle.elem_ledger.specs.Ledger.{LedgerId}
use Rattle.run_machine.specs.Submissions.{rests}
use Rattle.run_machine.specs.Tasks.{TaskState, Writer, Rescuer, Completer, Duty, Resizes, Starts, Todo, NoBio, Empty}
use Rattle.block_core.proofs.start.WritesAtStart.{each_of}
use Rattle.block_core.proofs.moves.Sums.{same_or_not}
use Rattle.std.specs.Prelude.{zip, All}
use Rattle.std.specs.List.{range_with_len, flat_map}
use Rattle.std.proofs.lemmas.List.{length-append}
use Rattle.std.proofs.lemmas.List.Elements.{All-head, All-tail}
use Rattle.std.proofs.lemmas.List.FromFn.{length-map-range_with_len}
use Rattle.stack_base.specs.declared.stack.Kind.TheVariants as kind
use Rattle.stack_base.specs.declared.ids.PoolId.TheVariants.{Bios, Records}
use Rattle.stack_base.specs.declared.stack.Device.{Device}
use Rattle.stack_base.specs.Tree.{tree, shape_of}
use Rattle.layout_model.proofs.ByShape.{cuts_is, keeps_is}
use Rattle.layout_model.specs.declared.write.Write.{Write}
use Rattle.run_machine.specs.Scene.{keeps_data, is_mirror, is_disk, is_device}
use Rattle.run_machine.specs.Objects.{TallyState}
use Rattle.run_machine.specs.Events.{id_of, pool_of}
use Rattle.run_machine.specs.declared.event.TaskId.{TaskId}
use Rattle.run_machine.specs.declared.event.TaskId.TheVariants as id
use Rattle.run_machine.specs.Opened.{Scenario, Change, scene, start, opened_tasks, todos, todos_of, is_by, writers, duties, duties_of, keepers, no_task, round_count, writes_in, writes_from, reserve_of, records_of, setup_in, device_at}
use Rattle.std.specs.Option.{option_map_or}
use Rattle.std.proofs.lemmas.Bool.Decides.{nat_tests}
use Rattle.stack_base.specs.Tree.{Cuts}
use Rattle.stack_base.proofs.ListLemmas.{Each}
use Rattle.run_machine.proofs.Frames.{pools_are_numbered}
use Rattle.block_core.specs.Scenarios.{IsScenario, AreSorted, KeepsSome, EveryPoolKeepsSome}
use Rattle.block_core.proofs.stuck.NothingWaits.{IsPool}
use Rattle.block_core.proofs.moves.Geometry.{at_device}
use Rattle.block_core.proofs.sound.TaskPosts.{ByRounds, Mins, starts, Manned, Posted}
use Rattle.block_core.proofs.start.StartTotals.{writer_tasks, rescuer_tasks, completer_tasks}
use Rattle.block_core.proofs.start.TallyAtStart.{todo_numbered, each_passed, each_image, keeper_place}
use Rattle.block_core.proofs.stuck.Stuck.{Crew}

-- tasks, one after the other, from this place on
append_all : (Q : ℕ → TaskState → Type 0) (base : ℕ) (xs ys : List TaskState) → Each (λ x. (place : ℕ) → Q place x) xs → ((place : ℕ) → Q (base + length xs + place) (get_or ys place no_task))
    → (place : ℕ) → Q (base + place) (get_or (xs ++ ys) place no_task)
append_all Q base [] ys others fit place = let e : base + 0 + place ≡ base + place = omega arith in subst (λ n. Q n (get_or ys place no_task)) e (fit place)
append_all Q base (x ∷ xs) ys others fit zero = others.0 (base + 0)
append_all Q base (x ∷ xs) ys others fit (suc place) =
    let e : base + 1 + place ≡ base + suc place = omega arith in
    subst (λ n. Q n (get_or (xs ++ ys) place no_task)) e
    (append_all Q (base + 1) xs ys others.1
    (λ other. let more : base + length (x ∷ xs) + other ≡ base + 1 + length xs + other = omega arith in subst (λ n. Q n (get_or ys other no_task)) more (fit other)) place)

at_right : (xs ys : List TaskState) (i : ℕ) → get_or (xs ++ ys) (length xs + i) no_task ≡ get_or ys i no_task
at_right [] ys i = let e : 0 + i ≡ i = omega arith in ap (λ n. get_or ys n no_task) e
at_right (x ∷ xs) ys i =
    let e : length (x ∷ xs) + i ≡ suc (length xs + i) = omega arith in
    ap (λ n. get_or (x ∷ (xs ++ ys)) n no_task) e ∙ at_right xs ys i

-- where a task stands in a list
abbrev Member : List TaskState → TaskState → Type 0
Member xs x = (i : ℕ) × (i < length xs) × (get_or xs i no_task ≡ x)

in_right : (xs ys : List TaskState) (x : TaskState) → Member ys x → Member (xs ++ ys) x
in_right xs ys x m =
    let lt = m.1 in
    (length xs + m.0, omega (arith, length-append xs ys, lt), at_right xs ys m.0 ∙ m.2)

in_left : (xs ys : List TaskState) (x : TaskState) → Member xs x → Member (xs ++ ys) x
in_left [] ys x m = let lt = m.1 in absurd (omega (arith, lt))
in_left (y ∷ xs) ys x (zero, lt, is) = (zero, omega arith, is)
in_left (y ∷ xs) ys x (suc i, lt, is) = let r = in_left xs ys x (i, omega (arith, lt), is) in (suc r.0, let few = r.1 in omega (arith, few), r.2)

in_range : (f : ℕ → TaskState) (p : ℕ → Bool) (a n d : ℕ) → a ≤ d → d < a + n → p d ≡ true → Member (map f (filter p (range_with_len a n))) (f d)
in_range f p a zero d le lt is = absurd (omega (arith, le, lt))
in_range f p a (suc n) d le lt is = by_here (same_or_not a d) (λ more. in_range f p (a + 1) n d more (omega (arith, lt)) is)
  where
    by_test : (v : Bool) → p a ≡ v → Member (map f (filter p (range_with_len (a + 1) n))) (f d) → Member (map f (if v then a ∷ filter p (range_with_len (a + 1) n) else filter p (range_with_len (a + 1) n))) (f d)
    by_test true is r = (suc r.0, let few = r.1 in omega (arith, few), r.2)
    by_test false is r = r

    here_first : (v : Bool) → v ≡ true → a ≡ d → Member (map f (if v then a ∷ filter p (range_with_len (a + 1) n) else filter p (range_with_len (a + 1) n))) (f d)
    here_first true is e = (zero, omega arith, ap f e)
    here_first false is e = absurd (true≢false (sym is))

    by_here : (a ≡ d) ⊎ (a ≢ d) → (a + 1 ≤ d → Member (map f (filter p (range_with_len (a + 1) n))) (f d)) → Member (map f (filter p (range_with_len a (suc n)))) (f d)
    by_here (inl e) again = here_first (p a) (ap p e ∙ is) e
    by_here (inr ne) again = by_test (p a) refl (again (omega (arith, le, ne)))

-- writes go by their rounds
later_all : (r a n : ℕ) (rs : List ℕ) (ws : List Write) → All (λ later. r ≤ later) rs → Each (λ (t : Todo). r ≤ t.round) (map todo_numbered (zip (range_with_len a n) (zip rs ws)))
later_all r a zero rs ws all = tt
later_all r a (suc n) [] ws all = tt
later_all r a (suc n) (x ∷ rs) [] all = tt
later_all r a (suc n) (x ∷ rs) (w ∷ ws) all = (All-head (λ later. r ≤ later) x rs all, later_all r (a + 1) n rs ws (All-tail (λ later. r ≤ later) x rs all))

in_order : (a n : ℕ) (rs : List ℕ) (ws : List Write) → AreSorted rs → ByRounds (map todo_numbered (zip (range_with_len a n) (zip rs ws)))
in_order a zero rs ws all = tt
in_order a (suc n) [] ws all = tt
in_order a (suc n) (x ∷ rs) [] all = tt
in_order a (suc n) (x ∷ rs) (w ∷ ws) all = (later_all x (a + 1) n rs ws all.0, in_order (a + 1) n rs ws all.1)

passed_order : (p : Todo → Bool) (ts : List Todo) → ByRounds ts → ByRounds (filter p ts)
passed_order p [] by = tt
passed_order p (t ∷ ts) by = by_test (each_passed (λ (other : Todo). t.round ≤ other.round) p ts by.0) (passed_order p ts by.1) (p t)
  where
    by_test : Each (λ (other : Todo). t.round ≤ other.round) (filter p ts) → ByRounds (filter p ts) → (v : Bool) → ByRounds (if v then t ∷ filter p ts else filter p ts)
    by_test first rest true = (first, rest)
    by_test first rest false = rest

-- the keeper has a start for each round but the first, and no change takes all of a reserve
pub starts_all : (s : Scenario) (a n : ℕ) → starts (flat_map (duties_of s) (range_with_len a n)) ≡ n
starts_all s a zero = refl
starts_all s a (suc n) = by_changes (starts_all s (a + 1) n) (filter (λ (change : Change). change.round == a) s.changes)
  where
    by_changes : starts (flat_map (duties_of s) (range_with_len (a + 1) n)) ≡ n → (cs : List Change)
        → starts ((map (λ (change : Change). Resizes change.pool change.min (writes_from s a)) cs ++ Starts a (writes_from s a) ∷ []) ++ flat_map (duties_of s) (range_with_len (a + 1) n)) ≡ suc n
    by_changes rest [] = omega (arith, rest)
    by_changes rest (change ∷ cs) = by_changes rest cs

mins_all : (s : Scenario) (a n : ℕ) → Each (λ (change : Change). 1 ≤ change.min) s.changes → Mins (flat_map (duties_of s) (range_with_len a n))
mins_all s a zero all = tt
mins_all s a (suc n) all =
    by_changes (mins_all s (a + 1) n all) (filter (λ (change : Change). change.round == a) s.changes) (each_passed (λ (change : Change). 1 ≤ change.min) (λ (change : Change). change.round == a) s.changes all)
  where
    by_changes : Mins (flat_map (duties_of s) (range_with_len (a + 1) n)) → (cs : List Change) → Each (λ (change : Change). 1 ≤ change.min) cs
        → Mins ((map (λ (change : Change). Resizes change.pool change.min (writes_from s a)) cs ++ Starts a (writes_from s a) ∷ []) ++ flat_map (duties_of s) (range_with_len (a + 1) n))
    by_changes rest [] each = rest
    by_changes rest (change ∷ cs) each = (each.0, by_changes rest cs each.1)

keepers_id : (ds : List Duty) → id_of (get_or (keepers ds) 0 no_task) ≡ id.Keeper
keepers_id [] = refl
keepers_id (duty ∷ ds) = refl

module _ (s : Scenario) (good : IsScenario s) (ledger : ℕ → LedgerId) (reserves : EveryPoolKeepsSome s) (ordered : AreSorted s.rounds) where
  abbrev count : ℕ
  count = (setup_in s).count

  abbrev kp : ℕ
  kp = keeper_place s good ledger

  abbrev pub ids_of : ℕ → TaskId
  ids_of place = id_of ((start s).task place)

  abbrev tally : TallyState
  tally = (start s).objects.tally

  abbrev Q : ℕ → TaskState → Type 0
  Q = Manned kp (scene s ledger) tally

  long : (scene s ledger).tasks ≡ length (writer_tasks s) + (length (rescuer_tasks s) + (length (completer_tasks s) + length (keepers (duties s))))
  long =
      length-append (writer_tasks s) ((rescuer_tasks s) ++ ((completer_tasks s) ++ keepers (duties s)))
      ∙ ap (λ n. length (writer_tasks s) + n) (length-append (rescuer_tasks s) ((completer_tasks s) ++ keepers (duties s)) ∙ ap (λ n. length (rescuer_tasks s) + n) (length-append (completer_tasks s) (keepers (duties s))))

  keepers_all : (ds : List Duty) → starts ds + 1 ≡ length tally.left → Mins ds → kp + length (keepers ds) ≤ (scene s ledger).tasks → (place : ℕ) → Q (kp + place) (get_or (keepers ds) place no_task)
  keepers_all [] full mins few place = (tt, (λ own. omega (arith, full)), tt)
  keepers_all (duty ∷ ds) full mins few zero = (mins, (λ own. omega (arith, full)), omega (arith, few))
  keepers_all (duty ∷ ds) full mins few (suc place) = (tt, (λ own. absurd (omega (arith, own))), tt)

  tasks_manned : (place : ℕ) → Q (0 + place) (get_or (opened_tasks s) place no_task)
  tasks_manned =
      append_all Q 0 (writer_tasks s) ((rescuer_tasks s) ++ ((completer_tasks s) ++ keepers (duties s)))
      (each_image (λ x. (place : ℕ) → Q place x) (λ writer. Writer writer (todos_of s writer) NoBio rests) (writers s)
      (λ writer place. (passed_order (is_by writer) (todos s) (in_order 0 (length s.writes) s.rounds s.writes ordered), tt)))
      (append_all Q (0 + length (writer_tasks s)) (rescuer_tasks s) ((completer_tasks s) ++ keepers (duties s))
      (each_image (λ x. (place : ℕ) → Q place x) (λ dev. Rescuer (device_at dev) rests) (filter (setup_in s).rescuer (range_with_len 0 count)) (λ dev place. tt))
      (append_all Q (0 + length (writer_tasks s) + length (rescuer_tasks s)) (completer_tasks s) (keepers (duties s))
      (each_image (λ x. (place : ℕ) → Q place x) (λ dev. Completer (device_at dev) Empty) (filter (is_disk (setup_in s)) (range_with_len 0 count)) (λ dev place. tt))
      (keepers_all (duties s)
      (omega (arith, starts_all s 1 (round_count s - 1), length-map-range_with_len (writes_in s) 0 (round_count s)))
      (mins_all s 1 (round_count s - 1) (each_of (λ (change : Change). 1 ≤ change.min) s.changes reserves.changes))
      (omega (arith, long)))))

  -- the reserves of pools
  reserve_at : (number : ℕ) (device : Device) → slice_get s.stack.devices.items number ≡ Some device → KeepsSome device.kind device.reserve → keeps_data (tree s.stack number) ≡ false → 1 ≤ device.reserve
  reserve_at number device found some is = by_kind device.kind refl some
    where
      by_kind : (k : Kind) → device.kind ≡ k → KeepsSome k device.reserve → 1 ≤ device.reserve
      by_kind (kind.Disk sectors bad) at some =
          let leaf : keeps_data (tree s.stack number) ≡ true = ap keeps_data (keeps_is s.stack good.stack number device found sectors (ap shape_of at)) in
          absurd (true≢false (sym leaf ∙ is))
      by_kind kind.Linear at some = some
      by_kind (kind.Stripe chunk) at some = some
      by_kind (kind.Zoned chunk) at some = some
      by_kind (kind.Limit longest chunk) at some = some
      by_kind (kind.Mirror records) at some = some.0

  records_at : (number : ℕ) (device : Device) → slice_get s.stack.devices.items number ≡ Some device → KeepsSome device.kind device.reserve → is_mirror (tree s.stack number) ≡ true → 1 ≤ records_of device.kind
  records_at number device found some is = by_kind device.kind refl some
    where
      cut_none : shape_of device.kind ≡ Cuts → 1 ≤ records_of device.kind
      cut_none cuts = let split : is_mirror (tree s.stack number) ≡ false = ap is_mirror (cuts_is s.stack good.stack number device found cuts) in absurd (true≢false (sym is ∙ split))

      by_kind : (k : Kind) → device.kind ≡ k → KeepsSome k device.reserve → 1 ≤ records_of device.kind
      by_kind (kind.Disk sectors bad) at some =
          let leaf : is_mirror (tree s.stack number) ≡ false = ap is_mirror (keeps_is s.stack good.stack number device found sectors (ap shape_of at)) in
          absurd (true≢false (sym is ∙ leaf))
      by_kind kind.Linear at some = cut_none (ap shape_of at)
      by_kind (kind.Stripe chunk) at some = cut_none (ap shape_of at)
      by_kind (kind.Zoned chunk) at some = cut_none (ap shape_of at)
      by_kind (kind.Limit longest chunk) at some = cut_none (ap shape_of at)
      by_kind (kind.Mirror records) at some = let e : records_of device.kind ≡ records = ap records_of at in let le = some.1 in omega (arith, e, le)

  mins_at_start : (number : ℕ) → IsPool (setup_in s) number → 1 ≤ reserve_of s.stack (pool_of number)
  mins_at_start number (inl is) = subst (λ n. 1 ≤ reserve_of s.stack (pool_of n)) (sym is) reserves.bios
  mins_at_start number (inr (inl is)) = subst (λ n. 1 ≤ reserve_of s.stack (pool_of n)) (sym is) reserves.vecs
  mins_at_start number (inr (inr (inl (dev, lt, keeps, is)))) =
      let few = good.stack.few in
      let d = at_device s.stack good.stack (setup_in s).places dev lt in
      let own = reserve_at dev d.0 d.1 (reserves.devices dev d.0 d.1) keeps in
      let pool : pool_of number ≡ Bios (record { 0 = dev }) = ap pool_of is ∙ pools_are_numbered (Bios (record { 0 = dev })) (omega (arith, lt, few)) in
      let e : reserve_of s.stack (pool_of number) ≡ d.0.reserve = ap (reserve_of s.stack) pool ∙ ap (λ (o : Option Device). option_map_or (λ (device : Device). device.reserve) o 0) d.1 in
      omega (arith, own, e)
  mins_at_start number (inr (inr (inr (dev, lt, mirror, is)))) =
      let few = good.stack.few in
      let d = at_device s.stack good.stack (setup_in s).places dev lt in
      let own = records_at dev d.0 d.1 (reserves.devices dev d.0 d.1) mirror in
      let pool : pool_of number ≡ Records (record { 0 = dev }) = ap pool_of is ∙ pools_are_numbered (Records (record { 0 = dev })) (omega (arith, lt, few)) in
      let e : reserve_of s.stack (pool_of number) ≡ records_of d.0.kind = ap (reserve_of s.stack) pool ∙ ap (λ (o : Option Device). option_map_or (λ (device : Device). records_of device.kind) o 0) d.1 in
      omega (arith, own, e)

  pub start_posted : Posted ids_of kp (scene s ledger) (start s)
  start_posted = record {
    tasks = λ place.
        let e : 0 + place ≡ place = omega arith in
        (refl, subst (λ n. Q n ((start s).task place)) e (tasks_manned place));
    mins = mins_at_start;
    disks = λ dev. inl refl;
  }

  below_count : (dev : ℕ) → is_disk (setup_in s) dev ≡ true → dev < count
  below_count dev is = by_two (is_device (setup_in s) dev) refl
    where
      by_two : (v : Bool) → is_device (setup_in s) dev ≡ v → dev < count
      by_two true lt = grind (arith, nat_tests, lt)
      by_two false none = absurd (true≢false (sym is ∙ ap (λ v. v && keeps_data ((setup_in s).tree dev)) none))

  pub start_crew : Crew ids_of kp (scene s ledger)
  start_crew = record {
    rescuers = λ dev lt has.
        let x = Rescuer (device_at dev) rests in
        let m = in_right (writer_tasks s) ((rescuer_tasks s) ++ ((completer_tasks s) ++ keepers (duties s))) x (in_left (rescuer_tasks s) ((completer_tasks s) ++ keepers (duties s)) x
        (in_range (λ d. Rescuer (device_at d) rests) (setup_in s).rescuer 0 count dev (omega arith) (omega (arith, lt)) has)) in
        (m.0, m.1, ap id_of m.2);
    disks = λ dev is.
        let x = Completer (device_at dev) Empty in
        let lt = below_count dev is in
        let m = in_right (writer_tasks s) ((rescuer_tasks s) ++ ((completer_tasks s) ++ keepers (duties s))) x (in_right (rescuer_tasks s) ((completer_tasks s) ++ keepers (duties s)) x (in_left (completer_tasks s) (keepers (duties s)) x
        (in_range (λ d. Completer (device_at d) Empty) (is_disk (setup_in s)) 0 count dev (omega arith) (omega (arith, lt)) is))) in
        (m.0, m.1, ap id_of m.2);
    keeps =
        let e : kp ≡ length (writer_tasks s) + (length (rescuer_tasks s) + (length (completer_tasks s) + 0)) = omega arith in
        let at : get_or (opened_tasks s) kp no_task ≡ get_or (keepers (duties s)) 0 no_task =
        ap (λ n. get_or (opened_tasks s) n no_task) e ∙ at_right (writer_tasks s) ((rescuer_tasks s) ++ ((completer_tasks s) ++ keepers (duties s))) (length (rescuer_tasks s) + (length (completer_tasks s) + 0))
        ∙ at_right (rescuer_tasks s) ((completer_tasks s) ++ keepers (duties s)) (length (completer_tasks s) + 0) ∙ at_right (completer_tasks s) (keepers (duties s)) 0 in
        ap id_of at ∙ keepers_id (duties s);
  }
