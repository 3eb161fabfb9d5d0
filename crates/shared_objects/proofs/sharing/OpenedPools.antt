-- Pools that were opened add up.
use Rattle.std.proofs.Common.{ℕ, suc, List, All, length, sym, subst}
use Rattle.stack_base.specs.declared.ids.DevId.{DevId}
use Rattle.stack_base.specs.declared.ids.PoolId.{PoolId}
use Rattle.stack_base.specs.declared.ids.SetId.{SetId}
use Rattle.stack_base.specs.PoolId.{pool_number}
use Rattle.fail_script.specs.Script.{Answers}
use Rattle.mempool_core.specs.Facts.{AddsUp}
use Rattle.mempool_core.specs.Move.{PoolState}
use Rattle.mempool_core.specs.Pool.{LedgerPool}
use Rattle.mempool_core.proofs.MoveLemmas.{opened_adds_up}
use Rattle.run_machine.specs.Events.{pool_of}
use Rattle.run_machine.specs.Objects.{Objects}
use Rattle.run_machine.specs.Opened.{reserve_of, script_at}
use Rattle.task_core.specs.declared.opening.Opened.{Opened}
use Rattle.task_core.specs.declared.plain.Plain.{Plain}
use Rattle.task_core.specs.opened.NewTasks.{reserves_in}
use Rattle.task_core.specs.opened.OfOne.{IsOpened, scenario_in}
use Rattle.task_core.specs.opened.Openings.{IsNewRecords, IsNewSet, IsOpenPool, has_set_at, set_index, slip_index}
use Rattle.task_core.specs.Plains.{pool_at, records_number, set_number}
use Rattle.task_core.proofs.opened.NewPools.{sets_apart, slips_apart}
use Rattle.task_steps.specs.Stage.{has_mirror_in}
use Rattle.shared_objects.proofs.sharing.OpenedRows.{each_entry}

open_adds_up : {scripts : List (PoolId × Answers)} {reserves : List (PoolId × ℕ)} {id : PoolId} {min : ℕ} {pool : LedgerPool} → IsOpenPool scripts reserves id min pool → AddsUp pool.state.facts
open_adds_up {scripts = scripts} {id = id} {min = min} is = subst (λ (s : PoolState). AddsUp s.facts) (sym is.state) (opened_adds_up min (script_at scripts (pool_number id)))

module _ (o : Opened) (opened : IsOpened o) where
  abbrev plain : Plain
  plain = o.objects

  -- the pool of each number
  pub pool_adds_up : (number : ℕ) → AddsUp (pool_at plain number).state.facts
  pool_adds_up number =
      subst (λ (objects : Objects). AddsUp (objects.pool number).facts) (sym opened.objects)
      (opened_adds_up (reserve_of (scenario_in o).stack (pool_of number)) (script_at (scenario_in o).scripts number))

  -- and those in each row
  pub bios_add_up : All (λ (entry : SetId × LedgerPool). AddsUp entry.1.state.facts) plain.bios.items
  bios_add_up = λ k d lt.
      let is = each_entry set_number set_index (has_set_at plain.stage.value) sets_apart
      (IsNewSet plain.stage.value o.accepted.value.scripts.items (reserves_in o.work.value.resizes.items)) (suc (length plain.stage.value.stack.devices.items)) plain.bios.items plain.index.bios
      opened.rows.bios k d lt in
      open_adds_up is.made

  pub records_add_up : All (λ (entry : DevId × LedgerPool). AddsUp entry.1.state.facts) plain.records.items
  records_add_up = λ k d lt.
      let is = each_entry records_number slip_index (has_mirror_in plain.stage.value) slips_apart
      (IsNewRecords plain.stage.value o.accepted.value.scripts.items (reserves_in o.work.value.resizes.items)) (length plain.stage.value.stack.devices.items) plain.records.items plain.index.records
      opened.rows.records k d lt in
      open_adds_up is.made
