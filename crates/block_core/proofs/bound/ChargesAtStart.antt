-- At the start no more is charged than all that pays.
use Rattle.std.proofs.Common.{◌≡◌, ◌≢◌, ◌+◌, ◌-◌, ◌<◌, ◌≤◌, ◌==◌, ◌⊎◌, if◌then◌else◌, ℕ, zero, suc, Bool, true, false, List, [], ◌∷◌, length, map, filter, Some, inl, inr, refl, sym, ◌∙◌, ap, subst, arith, cond}
use Rattle.std.specs.Prelude.{sum_by}
use Rattle.std.specs.List.{range_with_len}
use Rattle.std.proofs.lemmas.Bool.{eq-eqb, ne_eqb}
use Rattle.std.proofs.lemmas.List.Sums.{sum_by-cons, sum_by-append}
use Rattle.stack_base.specs.declared.ids.PoolId.{PoolId}
use Rattle.stack_base.specs.PoolId.{pool_number}
use Rattle.elem_ledger.specs.Ledger.{LedgerId}
use Rattle.block_core.specs.Payers.{Paid, ScriptEntry, LaterRound, ReserveChange, cost}
use Rattle.block_core.specs.Paying.{write_cost, all_costs}
use Rattle.layout_model.proofs.RangeSums.{sum_next}
use Rattle.run_machine.specs.Tasks.{Duty, Resizes, Starts, Keeps, Keeper, Todo, NoBio}
use Rattle.block_core.specs.Touches.{none_was}
use Rattle.block_core.specs.Weights.{total_weight, sum_at}
use Rattle.block_core.specs.Charges.{write_charge, todo_charge, charge, duty_charge, task_charge, task_spent, entries_left, charged, spent_charges}
use Rattle.block_core.proofs.moves.Sums.{same_or_not}
use Rattle.std.specs.Prelude.{zip, find}
use Rattle.std.specs.List.{list_any}
use Rattle.std.specs.Option.{option_map_or}
use Rattle.std.proofs.Math.Nat.{mul-le-mul_left}
use Rattle.fail_script.specs.Script.{Answers, entries_of, only_tail}
use Rattle.layout_model.specs.declared.write.Write.{Write}
use Rattle.layout_model.proofs.RangeSums.{sum_same, sum_of_zero, sum_of_two}
use Rattle.run_machine.specs.Opened.{Scenario, Change, scene, start, opened_tasks, todos, todos_of, is_by, writers, duties, duties_of, keepers, round_count, writes_from, script_at, is_numbered, setup_in}
use Rattle.run_machine.proofs.Passing.{filter_sum}
use Rattle.block_core.specs.Scenarios.{IsScenario}
use Rattle.block_core.proofs.start.InvariantAtStart.{sum_at-zero}
use Rattle.block_core.proofs.start.StartTotals.{map_sum, flat_sum, opened_sum, placed_sum, worth_at_start}
use Rattle.std.proofs.Math.Numerals.{add-one}
use Rattle.block_core.proofs.bound.TaskCharges.{later_charge}

-- sums over numbers
at_le : {X : Type 0} (w : ℕ → X → ℕ) (f : ℕ → X) (g : ℕ → ℕ) (n : ℕ) → ((v : ℕ) → w v (f v) ≤ g v) → sum_at w n f ≤ sum_at (λ v (x : ℕ). g v) n (λ v. v)
unfolding sum_at
at_le w f g zero le = omega arith
at_le w f g (suc n) le = omega (arith, at_le w f g n le, le n)

-- one number of them may be more
bumped : (f g : ℕ → ℕ) (k c n : ℕ) → ((v : ℕ) → v ≢ k → f v ≡ g v) → f k ≡ g k + c
    → sum_at (λ v (x : ℕ). f v) n (λ v. v) ≤ sum_at (λ v (x : ℕ). g v) n (λ v. v) + c
unfolding sum_at
bumped f g k c n others at = by_place (below_or n k)
  where
    below_or : (a b : ℕ) → (a ≤ b) ⊎ (b < a)
    below_or a b = grind arith

    below : (n : ℕ) → n ≤ k → sum_at (λ v (x : ℕ). f v) n (λ v. v) ≡ sum_at (λ v (x : ℕ). g v) n (λ v. v)
    below zero le = refl
    below (suc n) le = omega (arith, below n (omega (arith, le)), others n (λ e. omega (arith, e, le)))

    above : (n : ℕ) → k < n → sum_at (λ v (x : ℕ). f v) n (λ v. v) ≡ sum_at (λ v (x : ℕ). g v) n (λ v. v) + c
    above zero lt = absurd (omega (arith, lt))
    above (suc n) lt = elim (same_or_not n k) [
      | inl e ↦ let here : f n ≡ g n + c = subst (λ v. f v ≡ g v + c) (sym e) at in omega (arith, here, below n (omega (arith, e)))
      | inr ne ↦ omega (arith, above n (omega (arith, lt, ne)), others n ne)
    ]

    by_place : (n ≤ k) ⊎ (k < n) → sum_at (λ v (x : ℕ). f v) n (λ v. v) ≤ sum_at (λ v (x : ℕ). g v) n (λ v. v) + c
    by_place (inl le) = omega (arith, below n le)
    by_place (inr lt) = omega (arith, above n lt)

-- what is told apart by numbers is no more by those below n than all of it
pub grouped : {X : Type 0} (key cost : X → ℕ) (n : ℕ) (xs : List X) → sum_at (λ v (x : ℕ). sum_by cost (filter (λ y. key y == v) xs)) n (λ v. v) ≤ sum_by cost xs
grouped key cost n [] = omega (arith, sum_at-zero (λ v (x : ℕ). sum_by cost (filter (λ y. key y == v) [])) n (λ v. v) (λ v. refl))
grouped key cost n (x ∷ xs) =
    let of : Bool → ℕ → ℕ = λ b v. sum_by cost (if b then x ∷ filter (λ y. key y == v) xs else filter (λ y. key y == v) xs) in
    let bump = bumped (λ v. sum_by cost (filter (λ y. key y == v) (x ∷ xs))) (λ v. sum_by cost (filter (λ y. key y == v) xs)) (key x) (cost x) n
    (λ v ne. ap (λ b. of b v) (ne_eqb (key x) v (λ e. ne (sym e))))
    (ap (λ b. of b (key x)) (eq-eqb (key x) (key x) refl) ∙ (sum_by-cons cost x (filter (λ y. key y == key x) xs) ∙ omega arith)) in
    omega (arith, bump, grouped key cost n xs, sum_by-cons cost x xs)

-- a sum over a range is a part of one over all numbers up to its end
pub range_part : (h : ℕ → ℕ) (a n : ℕ) → sum_at (λ v (x : ℕ). h v) a (λ v. v) + sum_by h (range_with_len a n) ≡ sum_at (λ v (x : ℕ). h v) (a + n) (λ v. v)
unfolding sum_at
range_part h a zero =
    let none : a ≡ a + 0 = omega arith in
    let same : sum_at (λ v (x : ℕ). h v) a (λ v. v) ≡ sum_at (λ v (x : ℕ). h v) (a + 0) (λ v. v) = ap (λ k. sum_at (λ v (x : ℕ). h v) k (λ v. v)) none in
    omega (arith, same)
range_part h a (suc n) =
    let on : a + 1 + n ≡ a + suc n = omega arith in
    let rest = range_part h (a + 1) n in
    let next = sum_next h a n in
    let all : sum_at (λ v (x : ℕ). h v) (a + 1 + n) (λ v. v) ≡ sum_at (λ v (x : ℕ). h v) (a + suc n) (λ v. v) = ap (λ k. sum_at (λ v (x : ℕ). h v) k (λ v. v)) on in
    let one_more : sum_at (λ v (x : ℕ). h v) (a + 1) (λ v. v) ≡ sum_at (λ v (x : ℕ). h v) a (λ v. v) + h a = ap (λ k. sum_at (λ v (x : ℕ). h v) k (λ v. v)) (add-one a) in
    omega (arith, rest, next, all, one_more)

pub zip_sum : {A B : Type 0} (h : B → ℕ) (ns : List A) (xs : List B) → sum_by (λ (x : A × B). h x.1) (zip ns xs) ≤ sum_by h xs
zip_sum h [] xs = omega arith
zip_sum h (n ∷ ns) [] = omega arith
zip_sum {A = A} {B = B} h (n ∷ ns) (x ∷ xs) = omega (arith, sum_by-cons (λ (x : A × B). h x.1) (n, x) (zip ns xs), sum_by-cons h x xs, zip_sum h ns xs)

-- the script of a pool is one of those of its number
script_part : (scripts : List (PoolId × Answers)) (number : ℕ)
    → entries_of (script_at scripts number) ≤ sum_by (λ (script : PoolId × Answers). entries_of script.1) (filter (is_numbered number) scripts)
script_part [] number = omega arith
script_part (script ∷ scripts) number = by_test (is_numbered number script) (script_part scripts number)
  where
    by_test : (v : Bool) → entries_of (script_at scripts number) ≤ sum_by (λ (script : PoolId × Answers). entries_of script.1) (filter (is_numbered number) scripts)
        → entries_of (option_map_or (λ (script : PoolId × Answers). script.1) (cond v (Some script) (find (is_numbered number) scripts)) (only_tail true))
        ≤ sum_by (λ (script : PoolId × Answers). entries_of script.1) (if v then script ∷ filter (is_numbered number) scripts else filter (is_numbered number) scripts)
    by_test true rest = omega (arith, sum_by-cons (λ (script : PoolId × Answers). entries_of script.1) script (filter (is_numbered number) scripts))
    by_test false rest = rest

module _ (s : Scenario) (good : IsScenario s) (ledger : ℕ → LedgerId) where
  module _ (price : Paid → ℕ) where
    -- what the writers have to begin
    todos_charge : sum_by (write_charge price (setup_in s)) (todos s) ≤ sum_by (write_cost price s.stack) s.writes
    todos_charge =
        let ns = range_with_len 0 (length s.writes) in
        let a = map_sum (write_charge price (setup_in s)) (λ x. record { number = x.0; round = x.1.0; write = x.1.1 }) (zip ns (zip s.rounds s.writes)) in
        let b = zip_sum (λ (x : ℕ × Write). write_cost price s.stack x.1) ns (zip s.rounds s.writes) in
        let c = zip_sum (write_cost price s.stack) s.rounds s.writes in
        omega (arith, a, b, c)

    writers_charge : sum_by (λ writer. todo_charge price (setup_in s) (todos_of s writer) NoBio) (writers s) ≤ sum_by (write_cost price s.stack) s.writes
    writers_charge =
        let of : ℕ → ℕ = λ writer. sum_by (write_charge price (setup_in s)) (todos_of s writer) in
        let a = sum_same (λ writer. todo_charge price (setup_in s) (todos_of s writer) NoBio) of (writers s) (λ writer. later_charge price (setup_in s) (todos_of s writer)) in
        let b = filter_sum of (λ writer. list_any (is_by writer) (todos s)) (range_with_len 0 8) in
        let c = range_part of 0 8 in
        let d : sum_at (λ v (x : ℕ). of v) 8 (λ v. v) ≤ sum_by (write_charge price (setup_in s)) (todos s) =
        grouped (λ (todo : Todo). todo.write.task) (write_charge price (setup_in s)) 8 (todos s) in
        omega (arith, a, b, c, d, todos_charge)

    total_charge : total_weight (scene s ledger) (charge price none_was (setup_in s)) (start s) ≤ sum_by (write_cost price s.stack) s.writes
    total_charge = omega (arith, worth_at_start s good ledger (charge price none_was (setup_in s)), writers_charge)

  -- the entries of all scripts
  entries_charge : sum_at (λ number pool. entries_left pool) 66 (start s).objects.pool ≤ sum_by (λ (script : PoolId × Answers). entries_of script.1) s.scripts
  entries_charge =
      let e : PoolId × Answers → ℕ = λ script. entries_of script.1 in
      let a = at_le (λ number pool. entries_left pool) (start s).objects.pool (λ number. sum_by e (filter (is_numbered number) s.scripts)) 66 (λ number. omega (arith, script_part s.scripts number)) in
      let b : sum_at (λ v (x : ℕ). sum_by e (filter (is_numbered v) s.scripts)) 66 (λ v. v) ≤ sum_by e s.scripts = grouped (λ (script : PoolId × Answers). pool_number script.0) e 66 s.scripts in
      omega (arith, a, b)

  -- what the keeper has to do
  changes_part : (each n : ℕ) → sum_by (λ round. sum_by (λ (change : Change). each) (filter (λ (change : Change). change.round == round) s.changes)) (range_with_len 1 n)
      ≤ sum_by (λ (change : Change). each) s.changes
  changes_part each n =
      let at : ℕ → List Change = λ round. filter (λ (change : Change). change.round == round) s.changes in
      let b = range_part (λ round. sum_by (λ (change : Change). each) (at round)) 1 n in
      let c = grouped (λ (change : Change). change.round) (λ (change : Change). each) (1 + n) s.changes in
      omega (arith, b, c)

  module _ (price : Paid → ℕ) where
    abbrev rounds_cost : ℕ
    rounds_cost = sum_by (λ round. cost price LaterRound) (range_with_len 1 (round_count s - 1))

    abbrev changes_cost : ℕ
    changes_cost = sum_by (λ (change : Change). cost price ReserveChange) s.changes

    duties_cost : sum_by (duty_charge price) (duties s) ≤ rounds_cost + changes_cost
    duties_cost =
        let n = round_count s - 1 in
        let rounds = range_with_len 1 n in
        let at : ℕ → List Change = λ round. filter (λ (change : Change). change.round == round) s.changes in
        let each : ℕ → ℕ = λ round. sum_by (λ (change : Change). cost price ReserveChange) (at round) in
        let a = flat_sum (duty_charge price) (duties_of s) rounds in
        let b = sum_same (λ round. sum_by (duty_charge price) (duties_of s round)) (λ round. each round + cost price LaterRound) rounds (λ round.
        let resizes_of : Change → Duty = λ change. Resizes change.pool change.min (writes_from s round) in
        let last : Duty = Starts round (writes_from s round) in
        omega (arith, sum_by-append (duty_charge price) (map resizes_of (at round)) (last ∷ []), sum_by-cons (duty_charge price) last [], map_sum (duty_charge price) resizes_of (at round))) in
        let c = sum_of_two each (λ round. cost price LaterRound) rounds in
        omega (arith, a, b, c, changes_part (cost price ReserveChange) n)

    duties_charge : sum_at (λ place x. task_charge price x) (length (opened_tasks s)) (start s).task ≤ rounds_cost + changes_cost
    duties_charge =
        omega (arith, placed_sum s good ledger (task_charge price), opened_sum s good ledger (task_charge price) (λ dev. refl) (λ dev. refl), sum_of_zero (writers s), keeper_duties (duties s), duties_cost)
      where
        keeper_duties : (ds : List Duty) → sum_by (task_charge price) (keepers ds) ≡ sum_by (duty_charge price) ds
        keeper_duties [] = refl
        keeper_duties (duty ∷ ds) = omega (arith, sum_by-cons (task_charge price) (Keeper (Keeps (duty ∷ ds))) [])

    -- at the start no more is charged than all that pays, and nothing is spent
    pub start_charge : charged price none_was (scene s ledger) (start s) ≤ all_costs price s
    start_charge = omega (arith, total_charge price, mul-le-mul_left (cost price ScriptEntry) entries_charge, duties_charge)

    pub start_spent : spent_charges price (scene s ledger) (start s) ≡ 0
    start_spent =
        let keeper_spent : (ds : List Duty) → sum_by (task_spent price) (keepers ds) ≡ 0 = none_spent in
        omega (arith, placed_sum s good ledger (task_spent price), opened_sum s good ledger (task_spent price) (λ dev. refl) (λ dev. refl), sum_of_zero (writers s), keeper_spent (duties s))
      where
        none_spent : (ds : List Duty) → sum_by (task_spent price) (keepers ds) ≡ 0
        none_spent [] = refl
        none_spent (duty ∷ ds) = refl
