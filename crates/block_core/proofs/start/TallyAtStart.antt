-- At the start the tally has the number of the writes of each round, and nothing is begun.
use Rattle.std.proofs.Common.{◌≡◌, ◌+◌, ◌-◌, ◌<◌, ◌==◌, ◌++◌, if◌then◌else◌, ℕ, zero, suc, Bool, true, false, List, [], ◌∷◌, length, map, filter, inl, inr, refl, sym, ◌∙◌, ap, subst, arith, get_or}
use Rattle.std.specs.Prelude.{sum, sum_by}
use Rattle.std.proofs.lemmas.List.{get_or_past}
use Rattle.std.proofs.lemmas.List.Sums.{sum_by-cons}
use Rattle.elem_ledger.specs.Ledger.{LedgerId}
use Rattle.run_machine.specs.Submissions.{rests}
use Rattle.run_machine.specs.Tasks.{TaskState, Writer, Rescuer, Completer, Duty, Resizes, Starts, Todo, NoBio, Empty}
use Rattle.block_core.specs.Weights.{total_weight, one_if_same}
use Rattle.block_core.proofs.moves.Sums.{below_or}
use Rattle.std.specs.Prelude.{nat_le, fold, max, zip}
use Rattle.std.specs.List.{range_with_len, flat_map}
use Rattle.std.proofs.lemmas.Bool.Decides.{nat_tests}
use Rattle.std.proofs.lemmas.List.FromFn.{get_or-map-range_with_len, length-map-range_with_len}
use Rattle.stack_base.proofs.ListLemmas.{Each}
use Rattle.layout_model.specs.declared.write.Write.{Write}
use Rattle.run_machine.specs.Scene.{is_disk}
use Rattle.run_machine.specs.Opened.{Scenario, Change, scene, start, opened_tasks, todos, todos_of, is_by, writers, duties, duties_of, keepers, no_task, round_count, writes_in, writes_from, setup_in, device_at, in_round, from_round}
use Rattle.block_core.specs.Scenarios.{IsScenario}
use Rattle.block_core.specs.Rounds.{round_of, is_of_round, all_worth, unfinished_of, begun_of}
use Rattle.run_machine.proofs.FromRounds.{from_next}
use Rattle.block_core.proofs.sound.Rounds.{TodosFit, DutiesFit, TaskRounds, Tallied}
use Rattle.block_core.proofs.start.InvariantAtStart.{start_opened, total_zero}
use Rattle.block_core.proofs.start.StartTotals.{writer_tasks, rescuer_tasks, completer_tasks, opened_total}

-- tasks, one after the other, from this place on
abbrev Fit : List ℕ → ℕ → ℕ → List TaskState → Type 0
Fit rounds keeper base xs = (place : ℕ) → TaskRounds rounds keeper 0 (base + place) (get_or xs place no_task)

-- a task that keeps no rounds
abbrev IsOther : List ℕ → ℕ → TaskState → Type 0
IsOther rounds keeper x = (place : ℕ) → TaskRounds rounds keeper 0 place x

append_fits : (rounds : List ℕ) (keeper base : ℕ) (xs ys : List TaskState) → Each (IsOther rounds keeper) xs → Fit rounds keeper (base + length xs) ys → Fit rounds keeper base (xs ++ ys)
append_fits rounds keeper base [] ys others fit place = let e : base + 0 + place ≡ base + place = omega arith in subst (λ n. TaskRounds rounds keeper 0 n (get_or ys place no_task)) e (fit place)
append_fits rounds keeper base (x ∷ xs) ys others fit zero = others.0 (base + 0)
append_fits rounds keeper base (x ∷ xs) ys others fit (suc place) =
    let more : base + length (x ∷ xs) ≡ base + 1 + length xs = omega arith in
    let e : base + 1 + place ≡ base + suc place = omega arith in
    subst (λ n. TaskRounds rounds keeper 0 n (get_or (xs ++ ys) place no_task)) e
    (append_fits rounds keeper (base + 1) xs ys others.1 (subst (λ n. Fit rounds keeper n ys) more fit) place)

keepers_fit : (rounds : List ℕ) (keeper base : ℕ) (ds : List Duty) → base ≡ keeper → DutiesFit rounds 0 ds → Fit rounds keeper base (keepers ds)
keepers_fit rounds keeper base [] at fits place = tt
keepers_fit rounds keeper base (duty ∷ ds) at fits zero = (omega (arith, at), fits)
keepers_fit rounds keeper base (duty ∷ ds) at fits (suc place) = tt

-- no round is behind the last
pub from_none : (xs : List ℕ) (acc r : ℕ) → fold max acc xs < r → (acc < r) × (from_round xs r ≡ 0)
from_none [] acc r lt = (lt, refl)
from_none (x ∷ xs) acc r lt =
    let rest = from_none xs (max acc x) r lt in
    let below = rest.0 in
    (grind (arith, below), by_test below rest.1 (nat_le r x) refl)
  where
    by_test : max acc x < r → from_round xs r ≡ 0 → (v : Bool) → nat_le r x ≡ v → length (if v then x ∷ filter (λ x. nat_le r x) xs else filter (λ x. nat_le r x) xs) ≡ 0
    by_test below none true is = absurd (grind (arith, nat_tests, below, is))
    by_test below none false is = none

-- the rounds from one on are so many rounds and those behind them
sum_from : (rounds : List ℕ) (a n : ℕ) → sum (map (in_round rounds) (range_with_len a n)) + from_round rounds (a + n) ≡ from_round rounds a
sum_from rounds a zero = let e : a + 0 ≡ a = omega arith in let q = ap (from_round rounds) e in omega (arith, q)
sum_from rounds a (suc n) =
    let e : a + suc n ≡ a + 1 + n = omega arith in
    omega (
      arith,
      sum_from rounds (a + 1) n,
      from_next rounds a,
      ap (from_round rounds) e,
      sum_by-cons (λ (x : ℕ). x) (in_round rounds a) (map (in_round rounds) (range_with_len (a + 1) n)),
    )

-- each write by its number and round
abbrev pub todo_numbered : ℕ × (ℕ × Write) → Todo
todo_numbered x = record { number = x.0; round = x.1.0; write = x.1.1 }

todos_fit : (rounds : List ℕ) (a n : ℕ) (rs : List ℕ) (ws : List Write) → ((i : ℕ) → round_of rounds (a + i) ≡ get_or rs i 0) → TodosFit rounds (map todo_numbered (zip (range_with_len a n) (zip rs ws)))
todos_fit rounds a zero rs ws h = tt
todos_fit rounds a (suc n) [] ws h = tt
todos_fit rounds a (suc n) (r ∷ rs) [] h = tt
todos_fit rounds a (suc n) (r ∷ rs) (w ∷ ws) h =
    let e : a ≡ a + 0 = omega arith in (
      ap (round_of rounds) e ∙ h 0,
      todos_fit rounds (a + 1) n rs ws (λ i. let q : a + 1 + i ≡ a + suc i = omega arith in ap (round_of rounds) q ∙ h (suc i)),
    )

counted : (x : ℕ) (rs : List ℕ) (r : ℕ) → in_round (x ∷ rs) r ≡ one_if_same x r + in_round rs r
unfolding one_if_same
counted x rs r = by_test (x == r)
  where
    by_test : (v : Bool) → length (if v then x ∷ filter (λ x. x == r) rs else filter (λ x. x == r) rs) ≡ (if v then 1 else 0) + in_round rs r
    by_test true = omega arith
    by_test false = omega arith

-- as many writes are to be begun of a round as are of it
todos_worth : (rounds : List ℕ) (r a n : ℕ) (rs : List ℕ) (ws : List Write) → n ≡ length rs → length rs ≡ length ws → ((i : ℕ) → round_of rounds (a + i) ≡ get_or rs i 0)
    → all_worth (is_of_round rounds r) (map todo_numbered (zip (range_with_len a n) (zip rs ws))) ≡ in_round rs r
todos_worth rounds r a zero [] ws few same h = refl
todos_worth rounds r a zero (x ∷ rs) ws few same h = absurd (omega (arith, few))
todos_worth rounds r a (suc n) [] ws few same h = refl
todos_worth rounds r a (suc n) (x ∷ rs) [] few same h = absurd (omega (arith, same))
todos_worth rounds r a (suc n) (x ∷ rs) (w ∷ ws) few same h =
    let e : a ≡ a + 0 = omega arith in
    let own : is_of_round rounds r a ≡ one_if_same x r = ap (λ k. one_if_same k r) (ap (round_of rounds) e ∙ h 0) in
    let rest = todos_worth rounds r (a + 1) n rs ws (omega (arith, few)) (omega (arith, same)) (λ i. let q : a + 1 + i ≡ a + suc i = omega arith in ap (round_of rounds) q ∙ h (suc i)) in
    omega (arith, own, rest, counted x rs r)

worth_sum : (f : ℕ → ℕ) (ts : List Todo) → all_worth f ts ≡ sum_by (λ (todo : Todo). f todo.number) ts
worth_sum f [] = refl
worth_sum f (todo ∷ ts) = omega (arith, sum_by-cons (λ (todo : Todo). f todo.number) todo ts, worth_sum f ts)

-- the duties of the rounds from one on
duties_fit : (s : Scenario) (present n : ℕ) → DutiesFit s.rounds present (flat_map (duties_of s) (range_with_len (present + 1) n))
duties_fit s present zero = tt
duties_fit s present (suc n) = changes_fit (duties_fit s (present + 1) n) (filter (λ (change : Change). change.round == (present + 1)) s.changes)
  where
    changes_fit : DutiesFit s.rounds (present + 1) (flat_map (duties_of s) (range_with_len (present + 1 + 1) n)) → (cs : List Change) → DutiesFit s.rounds present
        ((map (λ (change : Change). Resizes change.pool change.min (writes_from s (present + 1))) cs ++ Starts (present + 1) (writes_from s (present + 1)) ∷ [])
        ++ flat_map (duties_of s) (range_with_len (present + 1 + 1) n))
    changes_fit rest [] = (refl, refl, rest)
    changes_fit rest (change ∷ cs) = (refl, changes_fit rest cs)

pub each_passed : {X : Type 0} (P : X → Type 0) (p : X → Bool) (xs : List X) → Each P xs → Each P (filter p xs)
each_passed P p [] all = tt
each_passed P p (x ∷ xs) all = by_test (each_passed P p xs all.1) (p x)
  where
    by_test : Each P (filter p xs) → (v : Bool) → Each P (if v then x ∷ filter p xs else filter p xs)
    by_test rest true = (all.0, rest)
    by_test rest false = rest

pub each_image : {X Y : Type 0} (P : Y → Type 0) (f : X → Y) (xs : List X) → ((x : X) → P (f x)) → Each P (map f xs)
each_image P f [] all = tt
each_image P f (x ∷ xs) all = (all x, each_image P f xs all)

module _ (s : Scenario) (good : IsScenario s) (ledger : ℕ → LedgerId) where
  rounds : List ℕ
  rounds = s.rounds

  own_rounds : (i : ℕ) → round_of s.rounds (0 + i) ≡ get_or s.rounds i 0
  own_rounds i = let e : 0 + i ≡ i = omega arith in ap (round_of s.rounds) e

  all_fit : TodosFit s.rounds (todos s)
  all_fit = todos_fit s.rounds 0 (length s.writes) s.rounds s.writes own_rounds

  abbrev count : ℕ
  count = (setup_in s).count

  -- the keeper's place is behind all others
  abbrev pub keeper_place : ℕ
  keeper_place = 0 + length (writer_tasks s) + length (rescuer_tasks s) + length (completer_tasks s)

  tasks_fit : Fit s.rounds keeper_place 0 (opened_tasks s)
  tasks_fit =
      append_fits s.rounds keeper_place 0 (writer_tasks s) ((rescuer_tasks s) ++ ((completer_tasks s) ++ keepers (duties s)))
      (each_image (IsOther s.rounds keeper_place) (λ writer. Writer writer (todos_of s writer) NoBio rests) (writers s)
      (λ writer place. each_passed (λ (todo : Todo). round_of s.rounds todo.number ≡ todo.round) (is_by writer) (todos s) all_fit))
      (append_fits s.rounds keeper_place (0 + length (writer_tasks s)) (rescuer_tasks s) ((completer_tasks s) ++ keepers (duties s))
      (each_image (IsOther s.rounds keeper_place) (λ dev. Rescuer (device_at dev) rests) (filter (setup_in s).rescuer (range_with_len 0 count)) (λ dev place. tt))
      (append_fits s.rounds keeper_place (0 + length (writer_tasks s) + length (rescuer_tasks s)) (completer_tasks s) (keepers (duties s))
      (each_image (IsOther s.rounds keeper_place) (λ dev. Completer (device_at dev) Empty) (filter (is_disk (setup_in s)) (range_with_len 0 count)) (λ dev place. tt))
      (keepers_fit s.rounds keeper_place keeper_place (duties s) refl (duties_fit s 0 (round_count s - 1)))))

  -- what all tasks have to begin
  pub unfinished_at_start : (f : ℕ → ℕ) → total_weight (scene s ledger) (unfinished_of f) (start s) ≡ all_worth f (todos s)
  unfinished_at_start f = opened_total s good ledger (unfinished_of f) (λ (todo : Todo). f todo.number) (λ n ts. worth_sum f ts) ∙ sym (worth_sum f (todos s))

  -- and how many of it are of a round
  round_at_start : (r : ℕ) → total_weight (scene s ledger) (unfinished_of (is_of_round s.rounds r)) (start s) ≡ in_round s.rounds r
  round_at_start r =
      unfinished_at_start (is_of_round s.rounds r) ∙ todos_worth s.rounds r 0 (length s.writes) s.rounds s.writes (sym good.rounds) good.rounds own_rounds

  left_at_start : (r : ℕ) → get_or (map (writes_in s) (range_with_len 0 (round_count s))) r 0 ≡ in_round s.rounds r
  left_at_start r = elim (below_or r (round_count s)) [
    | inl lt ↦ get_or-map-range_with_len (writes_in s) 0 (round_count s) r r 0 lt (omega arith)
    | inr ge ↦
        let past : get_or (map (writes_in s) (range_with_len 0 (round_count s))) r 0 ≡ 0 =
        get_or_past (map (writes_in s) (range_with_len 0 (round_count s))) r 0 (omega (arith, ge, length-map-range_with_len (writes_in s) 0 (round_count s))) in
        let none = (from_none s.rounds 0 r (omega (arith, ge))).1 in
        omega (arith, past, none, from_next s.rounds r)
  ]

  pub start_tallied : Tallied s.rounds keeper_place (scene s ledger) (start s)
  start_tallied = record {
    left = λ r. left_at_start r ∙ sym (round_at_start r);
    later = λ r lt. total_zero (scene s ledger) (start s) (begun_of (is_of_round s.rounds r)) (λ n todos. refl) (start_opened s good ledger);
    tally = record {
      past = λ r lt. absurd (omega (arith, lt));
      whole = λ r lt few. left_at_start r;
      sums =
          let behind : from_round s.rounds (0 + round_count s) ≡ 0 = (from_none s.rounds 0 (0 + round_count s) (omega arith)).1 in
          let all : sum (map (in_round s.rounds) (range_with_len 0 (round_count s))) ≡ from_round s.rounds 0 = omega (arith, sum_from s.rounds 0 (round_count s), behind) in
          let next : from_round s.rounds 0 ≡ in_round s.rounds 0 + from_round s.rounds (0 + 1) = from_next s.rounds 0 in
          all ∙ next ∙ ap (λ n. n + from_round s.rounds (0 + 1)) (sym (left_at_start 0));
      present = omega (arith, length-map-range_with_len (writes_in s) 0 (round_count s));
    };
    tasks = λ place. let e : 0 + place ≡ place = omega arith in subst (λ n. TaskRounds s.rounds keeper_place 0 n ((start s).task place)) e (tasks_fit place);
  }
