-- Opened objects are those of their text.
use Rattle.std.proofs.Common.{◌≡◌, ◌/◌, ◌%◌, ◌≤◌, ◌==◌, ◌&&◌, ◌||◌, ℕ, Bool, true, false, true≢false, cond, refl, sym, ap, ◌∙◌, subst, arith}
use Rattle.std.proofs.lemmas.Bool.Decides.{nat_tests}
use Rattle.std.proofs.lemmas.Bool.{eqb-true}
use Rattle.fail_script.specs.Script.{Answers, only_tail}
use Rattle.stack_base.specs.declared.ids.PoolId.{PoolId}
use Rattle.stack_base.specs.declared.ids.PoolId.TheVariants.{FsBios, FsVecs, Bios, Records}
use Rattle.stack_base.specs.PoolId.{pool_number}
use Rattle.mempool_core.specs.Facts.{AddsUp}
use Rattle.mempool_core.specs.declared.Facts.{Facts}
use Rattle.mempool_core.specs.Move.{PoolState, opened}
use Rattle.decl_text.proofs.DeclarationsFit.{accepted_fit}
use Rattle.task_core.specs.declared.opening.Opened.{Opened}
use Rattle.run_machine.specs.Events.{pool_of}
use Rattle.run_machine.specs.Objects.{Objects}
use Rattle.task_core.specs.opened.OfOne.{IsOpened, scenario_in}
use Rattle.run_machine.specs.Opened.{Scenario, device_at, objects, reserve_of, script_at}
use Rattle.task_core.specs.opened.Openings.{has_pool}
use Rattle.task_core.specs.Plains.{objects_of, stage_of}
use Rattle.task_steps.specs.Routed.{Routing, routing_setup}
use Rattle.run_machine.specs.Scene.{has_set}
use Rattle.task_steps.specs.Stage.{Stage, is_pool, has_mirror_in}
use Rattle.task_core.proofs.opened.MeantAsAsked.{no_set_keeps, no_slips_keep, scripts_alone}
use Rattle.plain_core.specs.opening.Opening.{CanOpen, new_pool}
use Rattle.plain_core.proofs.opening_lemmas.Readable.{can_open}

-- the pool of a number, by three questions
abbrev pool_by : ℕ → Bool → Bool → Bool → PoolId
pool_by number a b c = cond a FsBios (cond b FsVecs (cond c (Bios (device_at (number / 2))) (Records (device_at (number / 2)))))

by_number : (number : ℕ) (a b c : Bool) → (number == 65) ≡ a → (number == 64) ≡ b → (number % 2 == 0) ≡ c → pool_number (pool_by number a b c) ≡ number
by_number number true b c ea eb ec = let e = eqb-true number 65 ea in omega (arith, e)
by_number number false true c ea eb ec = let e = eqb-true number 64 eb in omega (arith, e)
by_number number false false true ea eb ec = let e = eqb-true (number % 2) 0 ec in omega (arith, e)
by_number number false false false ea eb ec = let e = no_zero (number % 2) ec in omega (arith, e)
  where
    no_zero : (m : ℕ) → (m == 0) ≡ false → 1 ≤ m
    no_zero m e = grind (e, arith, nat_tests)

pub number_is : (number : ℕ) → pool_number (pool_of number) ≡ number
number_is number = by_number number (number == 65) (number == 64) (number % 2 == 0) refl refl refl

not_odd : (m : ℕ) → (m == 0) ≡ true → (m == 1) ≡ false
not_odd m e = grind (e, arith, nat_tests)

module _ (routing : Routing) (stage : Stage) (same : stage.routing ≡ routing) (number : ℕ) where
  abbrev has_by : Bool → Bool → Bool → Bool → Bool
  has_by a b c d = b || (a || c && has_set (routing_setup routing) (number / 2)) || d && has_mirror_in routing (number / 2)

  by_bools : (a b c d : Bool) → (c ≡ true → d ≡ false) → is_pool (record stage { routing = routing }) (pool_by number a b c) ≡ false → has_by a b c d ≡ false
  by_bools true b c d apart none = absurd (true≢false none)
  by_bools false true c d apart none = absurd (true≢false none)
  by_bools false false true true apart none = absurd (true≢false (apart refl))
  by_bools false false true false apart none = rw none refl
  by_bools false false false true apart none = none
  by_bools false false false false apart none = refl

  -- a number without a pool
  pub has_none : is_pool stage (pool_of number) ≡ false → has_pool routing number ≡ false
  has_none none =
      by_bools (number == 65) (number == 64) (number % 2 == 0) (number % 2 == 1) (not_odd (number % 2))
      (ap (λ (r : Routing). is_pool (record stage { routing = r }) (pool_of number)) (sym same) ∙ none)

full_adds_up : (facts : Facts) (reserve : ℕ) (script : Answers) → facts ≡ (opened reserve script).facts → AddsUp facts
full_adds_up facts reserve script is = subst AddsUp (sym is) (record { elements = omega arith; spares = omega arith })

module _ (o : Opened) (is : IsOpened o) where
  abbrev s : Scenario
  s = scenario_in o

  abbrev stage : Stage
  stage = stage_of o.objects

  abbrev routing : Routing
  routing = record { stack = s.stack; places = stage.routing.places }

  pub can : CanOpen s.stack s.scripts o.work.value
  can = can_open o.accepted.value o.work.value is.read

  pub same : stage.routing ≡ routing
  same = λ k. record { stack = is.stack k; places = stage.routing.places }

  pub pool_there : (number : ℕ) → (objects_of o.objects).pool number ≡ new_pool s.stack s.scripts number
  pool_there number = ap (λ (os : Objects). os.pool number) is.objects

  reserve_none : (pool : PoolId) → is_pool (record stage { routing = routing }) pool ≡ false → reserve_of s.stack pool ≡ 0
  reserve_none FsBios none = absurd (true≢false none)
  reserve_none FsVecs none = absurd (true≢false none)
  reserve_none (Bios dev) none = no_set_keeps routing can.is_stack (accepted_fit o.accepted.value) dev.0 none
  reserve_none (Records dev) none = no_slips_keep routing can.is_stack (accepted_fit o.accepted.value) dev.0 none

  -- what has no pool is empty
  pub no_pool_there : (number : ℕ) → is_pool stage (pool_of number) ≡ false → new_pool s.stack s.scripts number ≡ opened 0 (only_tail true)
  no_pool_there number none =
      let no_reserve = reserve_none (pool_of number) (ap (λ (r : Routing). is_pool (record stage { routing = r }) (pool_of number)) (sym same) ∙ none) in
      let no_script = scripts_alone routing s.scripts can.is_stack o.accepted.value.declared number (has_none routing stage same number none) in
      λ k. opened (no_reserve k) (no_script k)

  -- what has one is this
  module _ (number : ℕ) (pool : PoolId) (is_pool_of : pool ≡ pool_of number) where
    of_number : pool_number pool ≡ number
    of_number = ap pool_number is_pool_of ∙ number_is number

    pub pool_is : (script : Answers) (facts : Facts) → script ≡ ((objects_of o.objects).pool (pool_number pool)).script
        → facts ≡ ((objects_of o.objects).pool (pool_number pool)).facts
        → ◌≡◌ {A = PoolState} (record { script = script; facts = facts }) (new_pool s.stack s.scripts number)
    pool_is script facts is_script is_facts =
        (λ k. record { script = is_script k; facts = is_facts k }) ∙ ap (λ n. (objects_of o.objects).pool n) of_number ∙ pool_there number

    pub adds_up : (facts : Facts) → facts ≡ ((objects_of o.objects).pool (pool_number pool)).facts → AddsUp facts
    adds_up facts is_facts =
        full_adds_up facts (reserve_of s.stack (pool_of number)) (script_at s.scripts number)
        (is_facts ∙ ap (λ n. ((objects_of o.objects).pool n).facts) of_number ∙ ap (λ (p : PoolState). p.facts) (pool_there number))

  -- the stack
  pub stack_there : (own : Routing) → own ≡ stage.routing → own.stack ≡ s.stack
  stack_there own is_own = ap (λ (r : Routing). r.stack) is_own ∙ is.stack
