-- The pools of devices by falling number, device by device.
use Rattle.std.proofs.Common.{◌≡◌, ◌⊎◌, ◌+◌, ◌<◌, ◌≤◌, ◌++◌, ℕ, zero, suc, List, [], ◌∷◌, length, map, drop, None, Some, inl, inr, refl, sym, ap, ◌∙◌, arith, get_or}
use Rattle.std.specs.Prelude.{slice_get}
use Rattle.std.proofs.lemmas.List.{append_assoc, append-nil, drop_all, drop_more, length-append, length-map, map-append}
use Rattle.std.proofs.lemmas.Option.{slice_get_cases}
use Rattle.std.proofs.lemmas.Bool.{cases_lt}
use Rattle.stack_base.specs.declared.stack.Device.{Device}
use Rattle.stack_base.specs.declared.stack.Kind.{Kind}
use Rattle.stack_base.specs.declared.stack.Kind.TheVariants as kind
use Rattle.stack_base.specs.declared.stack.Stack.{Stack}
use Rattle.stack_base.specs.Stack.{IsStack}
use Rattle.stack_base.specs.Tree.{Tree, over, over_shape, tree}
use Rattle.stack_base.specs.declared.ids.DevId.{DevId}
use Rattle.stack_base.specs.declared.ids.PoolId.{PoolId}
use Rattle.stack_base.specs.declared.ids.PoolId.TheVariants.{FsBios, FsVecs}
use Rattle.stack_base.specs.PoolId.{pool_number}
use Rattle.mempool_core.specs.declared.Facts.{Facts}
use Rattle.stack_base.proofs.Unfolded.{tree_is}
use Rattle.stack_base.proofs.NumberLemmas.{zero_or}
use Rattle.task_core.specs.Leaving.{falling_from, falling_pools, pools_at}
use Rattle.run_machine.specs.Objects.{Objects}
use Rattle.run_machine.specs.Opened.{device_at}
use Rattle.serial_run.specs.Pools.{facts_in, pools_by, falling_pools_from}

-- the pools of a device go by its kind
by_kind : (n : ℕ) (k : Kind) (trees : List Tree) → pools_by (device_at n) (over n k trees) ≡ pools_at n k
unfolding over_shape
by_kind n (kind.Disk sectors bad) trees = refl
by_kind n kind.Linear trees = refl
by_kind n (kind.Stripe chunk) trees = refl
by_kind n (kind.Zoned chunk) trees = refl
by_kind n (kind.Limit longest chunk) trees = refl
by_kind n (kind.Mirror records) trees = refl

-- one device more
fell : (n : ℕ) (device : Device) (more : List Device) → falling_from n (device ∷ more) ≡ falling_from (n + 1) more ++ pools_at n device.kind
unfolding falling_from
fell n device more = refl

none_fell : (n : ℕ) → falling_from n [] ≡ []
unfolding falling_from
none_fell n = refl

module _ (stack : Stack) (good : IsStack stack) where
  pub falls : (n : ℕ) → n < length stack.devices.items
      → falling_pools_from n stack ≡ falling_pools_from (n + 1) stack ++ pools_by (device_at n) (tree stack n)
  falls n lt = by_cases (slice_get_cases stack.devices.items n).1
    where
      Falls : Type 0
      Falls = falling_pools_from n stack ≡ falling_pools_from (n + 1) stack ++ pools_by (device_at n) (tree stack n)

      by_cases : ((x : Device) × (n < length stack.devices.items) × (slice_get stack.devices.items n ≡ Some x) × (get_or stack.devices.items n x ≡ x))
          ⊎ ((length stack.devices.items ≤ n) × (slice_get stack.devices.items n ≡ None)) → Falls
      by_cases (inl (device, inside, found, there)) =
          ap (falling_from n) (drop_more stack.devices.items n device lt ∙ ap (λ d. d ∷ drop (n + 1) stack.devices.items) there)
          ∙ fell n device (drop (n + 1) stack.devices.items)
          ∙ ap (λ pools. falling_pools_from (n + 1) stack ++ pools)
          (sym (ap (pools_by (device_at n)) (tree_is stack good n device found) ∙ by_kind n device.kind (map (λ (m : DevId). tree stack m.0) device.members.items)))
      by_cases (inr (past, none)) = absurd (omega (arith, lt, past))

  -- behind the last there is none
  pub none_falls : falling_pools_from (length stack.devices.items) stack ≡ []
  none_falls = ap (falling_from (length stack.devices.items)) (drop_all (length stack.devices.items) stack.devices.items (omega arith)) ∙ none_fell (length stack.devices.items)

  -- there are never more than from the first on
  pub fewer : (n : ℕ) → length (falling_pools_from n stack) ≤ length (falling_pools_from 0 stack)
  fewer zero = omega arith
  fewer (suc n) = elim (cases_lt n (length stack.devices.items)) [
    | inl lt ↦
        let next : suc n ≡ n + 1 = omega arith in
        omega (
          arith,
          fewer n,
          ap length (falls n lt),
          ap (λ m. length (falling_pools_from m stack)) next,
          length-append (falling_pools_from (n + 1) stack) (pools_by (device_at n) (tree stack n)),
        )
    | inr ge ↦
        let none : falling_pools_from (suc n) stack ≡ [] = ap (falling_from (suc n)) (drop_all (suc n) stack.devices.items (omega (arith, ge))) ∙ none_fell (suc n) in
        omega (arith, ap length none)
  ]

-- the facts of these pools, behind some others
module _ (objects : Objects) (stack : Stack) (good : IsStack stack) (before : List (PoolId × Facts)) where
  abbrev Behind : ℕ → List (PoolId × Facts) → Type 0
  Behind n now = now ≡ before ++ facts_in objects (falling_pools_from n stack)

  with_facts : PoolId → PoolId × Facts
  with_facts pool = (pool, (objects.pool (pool_number pool)).facts)

  same_facts : (pools : List PoolId) → facts_in objects pools ≡ map with_facts pools
  unfolding with_facts
  same_facts pools = refl

  pub begins : (n : ℕ) → n ≡ length stack.devices.items → Behind n before
  begins n last =
      sym (
      ap (λ pools. before ++ facts_in objects pools) (ap (λ m. falling_pools_from m stack) last ∙ none_falls stack good)
      ∙ append-nil before
      )

  pub one_more : (n m : ℕ) (now next : List (PoolId × Facts)) → n < length stack.devices.items → m ≡ n + 1 → Behind m now
      → next ≡ now ++ facts_in objects (pools_by (device_at n) (tree stack n)) → Behind n next
  one_more n m now next lt next_is behind added =
      added ∙ ap (λ list. list ++ facts_in objects (pools_by (device_at n) (tree stack n))) (behind ∙ ap (λ m. before ++ facts_in objects (falling_pools_from m stack)) next_is)
      ∙ append_assoc before (facts_in objects (falling_pools_from (n + 1) stack)) (facts_in objects (pools_by (device_at n) (tree stack n)))
      ∙ ap (λ list. before ++ list)
      (
      sym (map-append (λ (pool : PoolId). (pool, (objects.pool (pool_number pool)).facts)) (falling_pools_from (n + 1) stack) (pools_by (device_at n) (tree stack n)))
      ∙ ap (facts_in objects) (sym (falls stack good n lt))
      )

  pub has_room : (n m most room : ℕ) (now : List (PoolId × Facts)) → n < length stack.devices.items → m ≡ n + 1 → Behind m now
      → length before + length (falling_pools_from 0 stack) ≤ most → most ≤ room → length now + length (pools_by (device_at n) (tree stack n)) ≤ room
  has_room n m most room now lt next_is behind fits more =
      omega (
        arith,
        fits,
        more,
        ap length (behind ∙ ap (λ m. before ++ facts_in objects (falling_pools_from m stack)) next_is),
        length-append before (facts_in objects (falling_pools_from (n + 1) stack)),
        ap length (same_facts (falling_pools_from (n + 1) stack)),
        length-map (falling_pools_from (n + 1) stack) with_facts,
        ap length (falls stack good n lt),
        length-append (falling_pools_from (n + 1) stack) (pools_by (device_at n) (tree stack n)),
        fewer stack good n,
      )

-- where there is no task, there is no device
pub no_devices : {T : Type 0} (tasks : List T) (count : ℕ) → (1 ≤ count → 1 ≤ length tasks) → None ≡ slice_get tasks 0 → 0 ≡ count
no_devices [] count some none = elim (zero_or count) [ inl nothing ↦ sym nothing | inr one ↦ absurd (let no = some one in omega (arith, no)) ]
no_devices (task ∷ more) count some none = absurd cc

-- and of all pools
pub all_pools : (objects : Objects) (stack : Stack) (room first second all : List (PoolId × Facts)) → room ≡ [] → first ≡ room ++ facts_in objects (FsBios ∷ [])
    → second ≡ first ++ facts_in objects (FsVecs ∷ []) → all ≡ second ++ facts_in objects (falling_pools_from 0 stack) → all ≡ facts_in objects (falling_pools stack)
all_pools objects stack room first second all none one two three =
    let rest : List (PoolId × Facts) = facts_in objects (falling_pools_from 0 stack) in
    three
    ∙ ap (λ list. list ++ rest) (two ∙ ap (λ list. list ++ facts_in objects (FsVecs ∷ [])) (one ∙ ap (λ list. list ++ facts_in objects (FsBios ∷ [])) none))
