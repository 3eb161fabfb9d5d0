-- Where a run has ended, the keeper has done all: each of its duties belongs to a round that has writes, or that has such rounds behind it.
use Rattle.std.proofs.Common.{◌≡◌, ◌+◌, ◌-◌, ◌≤◌, ◌==◌, ◌⊎◌, ◌++◌, if◌then◌else◌, ℕ, zero, suc, Bool, true, false, List, [], ◌∷◌, length, map, filter, inl, inr, refl, sym, subst, arith}
use Rattle.std.specs.Prelude.{All, nat_le, fold, max}
use Rattle.std.specs.List.{range_with_len, flat_map}
use Rattle.std.proofs.lemmas.Bool.Decides.{nat_tests}
use Rattle.std.proofs.lemmas.List.{get_or_past}
use Rattle.std.proofs.lemmas.List.Elements.{All-nil, All-cons, All-append, All-get_or}
use Rattle.stack_base.proofs.ListLemmas.{Each}
use Rattle.elem_ledger.specs.Ledger.{LedgerId}
use Rattle.bio_records.specs.declared.tasks.TaskLists.{TaskLists}
use Rattle.run_machine.specs.declared.event.Event.{Event}
use Rattle.run_machine.specs.Maps.{upd}
use Rattle.run_machine.specs.Scene.{Scene, is_disk}
use Rattle.run_machine.specs.Submissions.{Doing, Submission, rests}
use Rattle.run_machine.specs.Tasks.{TaskState, Writer, Rescuer, Completer, Keeper, Keeps, Stops, Duty, Resizes, Starts, NoBio, Empty}
use Rattle.run_machine.specs.Opened.{Scenario, Change, scene, start, opened_tasks, todos_of, writers, duties, duties_of, keepers, no_task, round_count, writes_from, setup_in, device_at, from_round}
use Rattle.run_machine.specs.Runs.{State, IsRun, unfinished}
use Rattle.block_core.specs.Charges.{task_duties, duties_left}
use Rattle.block_core.specs.Scenarios.{IsScenario, IsNaming}
use Rattle.block_core.proofs.moves.Sums.{below_or}
use Rattle.block_core.proofs.moves.Devices.{ground}
use Rattle.block_core.proofs.moves.Moves.{Move, Can, after, HasSubmission, with_submission}
use Rattle.block_core.proofs.moves.Moves as moves
use Rattle.block_core.proofs.sound.Invariant.{LedgersAreNumbered}
use Rattle.block_core.proofs.sound.RunInduction.{runs_keep}
use Rattle.block_core.proofs.sound.Rounds.{TaskRounds}
use Rattle.block_core.proofs.sound.TaskSubmissions.{all-upd}
use Rattle.block_core.proofs.sound.EveryRun.{runs_tallied, start_whole}
use Rattle.block_core.proofs.start.InvariantAtStart.{sum_at-zero}
use Rattle.block_core.proofs.start.TallyAtStart.{keeper_place, start_tallied}

-- some write is of the duty's round or of one behind it
abbrev pub HasLater : Duty → Type 0
HasLater (Resizes pool min later) = 1 ≤ later
HasLater (Starts round later) = 1 ≤ later

abbrev pub KeepsLater : TaskState → Type 0
KeepsLater (Writer number todo taken submission) = Unit {0}
KeepsLater (Rescuer dev submission) = Unit {0}
KeepsLater (Completer disk carried) = Unit {0}
KeepsLater (Keeper (Keeps duties)) = Each HasLater duties
KeepsLater (Keeper (Stops breach)) = Unit {0}

lined : (x : TaskState) (doing : Doing) (lists : TaskLists) (submission : Submission) → HasSubmission x doing lists → KeepsLater (with_submission x submission)
lined (Writer number todo taken old) doing lists submission h = tt
lined (Rescuer dev old) doing lists submission h = tt
lined (Completer disk carried) doing lists submission h = absurd h
lined (Keeper keeping) doing lists submission h = absurd h

module _ (scene : Scene) (s : State) (all : (place : ℕ) → KeepsLater (s.task place)) where
  goes : (place : ℕ) (y : TaskState) → KeepsLater y → (other : ℕ) → KeepsLater (upd s.task place y other)
  goes place y h = all-upd KeepsLater s.task place y all h

  stays_later : (m : Move) → Can scene s m → (other : ℕ) → KeepsLater ((after scene s m).task other)
  -- takes, misses, punts, pops, pushes, completions, links, drops, gives and ends of writes: no duties change
  stays_later (moves.TakesFirst place writer todo later move) c = goes place _ tt
  stays_later (moves.TakesVector place writer todo later item move) c = goes place _ tt
  stays_later (moves.TakesSub place x doing lists dev waits move) c = goes place _ (lined x doing lists _ c.2)
  stays_later (moves.TakesSlip place x bio lists move) c = goes place _ (lined x _ lists _ c.2)
  stays_later (moves.MissesOne place x number used) c = goes place x (subst KeepsLater c.1 (all place))
  stays_later (moves.MissesTry place x doing lists dev used) c = goes place _ (lined x doing lists _ c.2)
  stays_later (moves.Punts place x doing lists dev) c = goes place _ (lined x doing lists _ c.2)
  stays_later (moves.Pops place dev bio bios) c = goes place _ tt
  stays_later (moves.Pushes place x bio lists) c = goes place _ (lined x _ lists _ c.2)
  stays_later (moves.Completed place disk index bio status new) c = goes place _ tt
  stays_later (moves.Begins place writer todo later item vector key) c = goes place _ tt
  stays_later (moves.Chained place x bio lists hand number kind sizes members key node) c = goes place _ (lined x _ lists _ c.2)
  stays_later (moves.Mastered place x bio lists slip key node) c = goes place _ (lined x _ lists _ c.2)
  stays_later (moves.Legged place x bio lists master leg hand key node) c = goes place _ (lined x _ lists _ c.2)
  stays_later (moves.Told place disk carried writer key status part node) c = goes place _ tt
  stays_later (moves.Closes place disk carried writer key status part node) c = goes place _ tt
  stays_later (moves.Gives place disk writer number closed held) c = goes place _ tt
  stays_later (moves.Ends place disk writer closed) c = goes place _ tt
  -- resizes and rounds: the duties behind it are as they were
  stays_later (moves.Resized place pool min later duties) c =
      let h : Each HasLater (Resizes pool min later ∷ duties) = subst KeepsLater c.1 (all place) in
      goes place (Keeper (Keeps duties)) h.1
  stays_later (moves.Started place round later duties) c =
      let h : Each HasLater (Starts round later ∷ duties) = subst KeepsLater c.1 (all place) in
      goes place (Keeper (Keeps duties)) h.1

-- up to the last round there is a write of a round or of one behind it
some_from : (xs : List ℕ) (acc r : ℕ) → r ≤ fold max acc xs → (r ≤ acc) ⊎ (1 ≤ from_round xs r)
some_from [] acc r le = inl le
some_from (x ∷ xs) acc r le = by_rest (some_from xs (max acc x) r le)
  where
    more : (v : Bool) → from_round xs r ≤ length (if v then x ∷ filter (λ x. nat_le r x) xs else filter (λ x. nat_le r x) xs)
    more true = omega arith
    more false = omega arith

    own : (v : Bool) → nat_le r x ≡ v → r ≤ max acc x → (r ≤ acc) ⊎ (1 ≤ length (if v then x ∷ filter (λ x. nat_le r x) xs else filter (λ x. nat_le r x) xs))
    own true is le = inr (omega arith)
    own false is le = inl (grind (arith, nat_tests, is, le))

    by_rest : (r ≤ max acc x) ⊎ (1 ≤ from_round xs r) → (r ≤ acc) ⊎ (1 ≤ from_round (x ∷ xs) r)
    by_rest (inl le) = own (nat_le r x) refl le
    by_rest (inr some) = inr (omega (arith, some, more (nat_le r x)))

each_both : (P : Duty → Type 0) (xs ys : List Duty) → Each P xs → Each P ys → Each P (xs ++ ys)
each_both P [] ys a b = b
each_both P (x ∷ xs) ys a b = (a.0, each_both P xs ys a.1 b)

module _ (s : Scenario) (good : IsScenario s) (ledger : ℕ → LedgerId) where
  of_round_later : (r : ℕ) → 1 ≤ writes_from s r → Each HasLater (duties_of s r)
  of_round_later r some = by_changes (filter (λ (change : Change). change.round == r) s.changes)
    where
      by_changes : (cs : List Change)
          → Each HasLater (map (λ (change : Change). Resizes change.pool change.min (writes_from s r)) cs ++ Starts r (writes_from s r) ∷ [])
      by_changes [] = (some, tt)
      by_changes (change ∷ cs) = (some, by_changes cs)

  from_one : (a n : ℕ) → 1 ≤ a → a + n ≤ round_count s → Each HasLater (flat_map (duties_of s) (range_with_len a n))
  from_one a zero ge le = tt
  from_one a (suc n) ge le =
      each_both HasLater (duties_of s a) (flat_map (duties_of s) (range_with_len (a + 1) n)) (of_round_later a (by_two (some_from s.rounds 0 a (omega (arith, le)))))
      (from_one (a + 1) n (omega arith) (omega (arith, le)))
    where
      by_two : (a ≤ 0) ⊎ (1 ≤ from_round s.rounds a) → 1 ≤ writes_from s a
      by_two (inl none) = absurd (omega (arith, none, ge))
      by_two (inr some) = some

  tasks_later : All KeepsLater (opened_tasks s)
  tasks_later =
      let count = (setup_in s).count in
      let ws = map (λ writer. Writer writer (todos_of s writer) NoBio rests) (writers s) in
      let rs = map (λ dev. Rescuer (device_at dev) rests) (filter (setup_in s).rescuer (range_with_len 0 count)) in
      let cs = map (λ dev. Completer (device_at dev) Empty) (filter (is_disk (setup_in s)) (range_with_len 0 count)) in
      All-append KeepsLater ws (rs ++ (cs ++ keepers (duties s))) (each_of (λ writer. Writer writer (todos_of s writer) NoBio rests) (λ writer. tt) (writers s))
      (All-append KeepsLater rs (cs ++ keepers (duties s)) (each_of (λ dev. Rescuer (device_at dev) rests) (λ dev. tt) (filter (setup_in s).rescuer (range_with_len 0 count)))
      (All-append KeepsLater cs (keepers (duties s)) (each_of (λ dev. Completer (device_at dev) Empty) (λ dev. tt) (filter (is_disk (setup_in s)) (range_with_len 0 count)))
      (keeper_later (duties s) (from_one 1 (round_count s - 1) (omega arith) (omega arith)))))
    where
      each_of : (f : ℕ → TaskState) → ((n : ℕ) → KeepsLater (f n)) → (ns : List ℕ) → All KeepsLater (map f ns)
      each_of f is [] = All-nil KeepsLater
      each_of f is (n ∷ ns) = All-cons KeepsLater (f n) (map f ns) (is n) (each_of f is ns)

      keeper_later : (ds : List Duty) → Each HasLater ds → All KeepsLater (keepers ds)
      keeper_later [] h = All-nil KeepsLater
      keeper_later (duty ∷ ds) h = All-cons KeepsLater (Keeper (Keeps (duty ∷ ds))) [] h (All-nil KeepsLater)

  start_later : (place : ℕ) → KeepsLater ((start s).task place)
  start_later place = elim (below_or place (length (opened_tasks s))) [
    | inl lt ↦ All-get_or KeepsLater (opened_tasks s) place no_task lt tasks_later
    | inr ge ↦ subst KeepsLater (sym (get_or_past (opened_tasks s) place no_task ge)) tt
  ]

  -- where no write is unfinished, none is of a round behind the present one, so nothing is left to do
  pub no_duties_left : IsNaming ledger → (events : List Event) (state : State) → IsRun (scene s ledger) (start s) events state → unfinished state ≡ 0
      → duties_left (scene s ledger) state ≡ 0
  no_duties_left naming events state run none =
      let sc = scene s ledger in
      let numbered : LedgersAreNumbered sc = record { named = naming } in
      let g = ground s.stack good.stack (setup_in s).places in
      let begun = start_whole s ledger good naming in
      let keeper = keeper_place s good ledger in
      let t = runs_tallied sc numbered g s.rounds keeper (start s) events state begun (start_tallied s good ledger) run in
      let later = runs_keep sc numbered g (λ st. (place : ℕ) → KeepsLater (st.task place)) (λ old m before after can held. stays_later sc old held m can) (start s) events state begun start_later run in
      let sums = t.tally.sums in
      let behind : from_round s.rounds (state.objects.tally.round + 1) ≡ 0 = omega (arith, none, sums) in
      sum_at-zero (λ place task. task_duties task) sc.tasks state.task (λ place. by_task keeper place (state.task place) behind (t.tasks place) (later place))
    where
      by_task : (keeper place : ℕ) (x : TaskState) → from_round s.rounds (state.objects.tally.round + 1) ≡ 0
          → TaskRounds s.rounds keeper state.objects.tally.round place x → KeepsLater x → task_duties x ≡ 0
      by_task keeper place (Writer number todo taken submission) behind t h = refl
      by_task keeper place (Rescuer dev submission) behind t h = refl
      by_task keeper place (Completer disk carried) behind t h = refl
      by_task keeper place (Keeper (Keeps [])) behind t h = refl
      by_task keeper place (Keeper (Keeps (Resizes pool min later ∷ duties))) behind t h = let is = t.1.0 in let some = h.0 in absurd (omega (arith, is, some, behind))
      by_task keeper place (Keeper (Keeps (Starts round later ∷ duties))) behind t h = let is = t.1.1 in let some = h.0 in absurd (omega (arith, is, some, behind))
      by_task keeper place (Keeper (Stops breach)) behind t h = refl
