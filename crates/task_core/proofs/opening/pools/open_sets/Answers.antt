use Rattle.std.proofs.Common.{◌≡◌, ◌+◌, ◌<◌, ◌++◌, inl, ℕ, suc, List, [], ◌∷◌, length, slice_set, refl, sym, ap, subst, ◌∙◌, arith, rules}
use Rattle.stack_base.specs.declared.stack.Stack.{Stack}
use Rattle.stack_base.specs.declared.ids.PoolId.TheVariants.{FsBios}
use Rattle.stack_base.specs.declared.ids.SetId.{SetId}
use Rattle.stack_base.specs.declared.ids.SetId.TheVariants.{Fs}
use Rattle.mempool_core.specs.Pool.{LedgerPool}
use Rattle.task_core.specs.opened.Openings.{set_index, has_set_at, IsNewSet, AreSets, NextSet, IsOpenPool}
use Rattle.task_core.specs.Plains.{set_number}
use Rattle.task_core.proofs.opened.OpenedInOrder.{none_made, one_more}
use Rattle.task_core.proofs.opened.NewPools.{sets_apart}
use Rattle.task_core.proofs.opening.pools.open_sets.Goals as goal

-- the writers' pool is the first
pub opening-init : goal.opening-init
opening-init c =
    let routing = c.args.routes.now in
    let scripts = c.args.scripts.now in
    let reserves = c.args.reserves.now in
    let table = c.args.table.now in
    let long : length table ≡ 66 = search (rules, c.told-table) in
    let inside : 65 < length table = omega (long, arith) in
    let reserve = ap (λ (s : Stack). s.fs_bios) (sym c.requires.same) in
    let empty = c.in_ok-bios.ensures.items in
    let next : NextSet routing scripts reserves 0 [] table c.enter.new.entries.items c.enter.new.table = inl (
      refl,
      (Fs, c.in_ok-pool.pool),
      subst (λ min. IsOpenPool scripts reserves FsBios min c.in_ok-pool.pool) reserve c.in_ok-pool.ensures,
      refl,
      c.in_ok-enter.ensures.0 ∙ ap (λ items. items ++ (Fs, c.in_ok-pool.pool) ∷ []) empty,
      c.in_ok-enter.ensures.1 ∙ ap (λ n. slice_set table n (length c.in_ok-bios.bios.items)) c.no.ensures
          ∙ ap (λ (items : List (SetId × LedgerPool)). slice_set table 65 (length items)) empty,
    ) in
    let first =
    one_more set_number set_index (has_set_at routing) (IsNewSet routing scripts reserves) 0 [] table
    (none_made set_number set_index (has_set_at routing) (IsNewSet routing scripts reserves) table) c.enter.new.entries.items c.enter.new.table
    (λ i lt. sets_apart i 0 lt) inside next in
    record { opened = first.0; long = first.1 ∙ long }

pub opening-preserved : goal.opening-preserved
opening-preserved c =
    let few = c.requires.stack.few in
    let len = c.len-number-end.ensures in
    let test = c.opening-test.true in
    let long = c.opening.invariant.long in
    let routing = c.args.routes.now in
    let n : ℕ = suc c.opening.number in
    let inside : set_index n < length c.opening.table = omega (few, len, test, long, arith) in
    let more =
    one_more set_number set_index (has_set_at routing) (IsNewSet routing c.args.scripts.now c.args.reserves.now) n c.opening.bios.items
    c.opening.table c.opening.invariant.opened c.open_set.new.bios.items c.open_set.new.table (λ i lt. sets_apart i n lt) inside
    c.in_ok-open_set.ensures in
    let same : n + 1 ≡ suc (c.opening.number + 1) = omega arith in
    record {
      opened = subst (λ k. AreSets routing c.args.scripts.now c.args.reserves.now k c.open_set.new.bios.items c.open_set.new.table) same more.0;
      long = more.1 ∙ long;
    }
