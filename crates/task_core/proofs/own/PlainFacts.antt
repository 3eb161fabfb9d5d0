-- The numbers and the scripts of the pools of one thread.
use Rattle.std.proofs.Common.{◌≡◌, ℕ, get_or, ap}
use Rattle.std.specs.Prelude.{IsTrue, slice_index_or}
use Rattle.stack_base.specs.declared.ids.DevId.{DevId}
use Rattle.stack_base.specs.declared.ids.PoolId.TheVariants.{Records}
use Rattle.stack_base.specs.declared.ids.SetId.{SetId}
use Rattle.stack_base.specs.declared.ids.SetId.TheVariants.{Fs, Of}
use Rattle.stack_base.specs.PoolId.{pool_number}
use Rattle.mempool_core.specs.Pool.{LedgerPool}
use Rattle.bioset_pools.specs.Sets.{bios_of}
use Rattle.task_core.specs.declared.plain.Plain.{Plain}
use Rattle.task_core.specs.Plains.{objects_of, stage_of, Holds}
use Rattle.task_steps.specs.Stage.{Stage, is_bios, is_pool, is_set, is_slips}
use Rattle.task_core.proofs.Keeping.{set_is_bios, mirror_is_slips}
use Rattle.task_core.proofs.own.PlainLemmas.{bios_there, records_there}

pub set_is : (stage : Stage) (of : SetId) → IsTrue (is_pool stage (bios_of of)) → IsTrue (is_set stage of)
set_is stage Fs is = is
set_is stage (Of dev) is = is

module _ (plain : Plain) (holds : Holds plain) (of : SetId) (is : IsTrue (is_pool (stage_of plain) (bios_of of))) (i : ℕ)
    (place : i ≡ slice_index_or plain.index.bios (pool_number (bios_of of)) 0) where
  used : IsTrue (is_bios (stage_of plain) (pool_number (bios_of of)))
  used = set_is_bios (stage_of plain) of (set_is (stage_of plain) of is)

  pub bios_facts : (entry : SetId × LedgerPool) → entry ≡ get_or plain.bios.items i entry
      → entry.1.state.facts ≡ ((objects_of plain).pool (pool_number (bios_of of))).facts
  bios_facts entry value = ap (λ (p : LedgerPool). p.state.facts) (bios_there plain holds (pool_number (bios_of of)) i used place entry value)

  pub bios_script : (entry : SetId × LedgerPool) → entry ≡ get_or plain.bios.items i entry
      → entry.1.state.script ≡ ((objects_of plain).pool (pool_number (bios_of of))).script
  bios_script entry value = ap (λ (p : LedgerPool). p.state.script) (bios_there plain holds (pool_number (bios_of of)) i used place entry value)

module _ (plain : Plain) (holds : Holds plain) (dev : DevId) (is : IsTrue (is_pool (stage_of plain) (Records dev))) (i : ℕ)
    (place : i ≡ slice_index_or plain.index.records (pool_number (Records dev)) 0) where
  kept : IsTrue (is_slips (stage_of plain) (pool_number (Records dev)))
  kept = mirror_is_slips (stage_of plain) dev is

  pub records_facts : (entry : DevId × LedgerPool) → entry ≡ get_or plain.records.items i entry
      → entry.1.state.facts ≡ ((objects_of plain).pool (pool_number (Records dev))).facts
  records_facts entry value = ap (λ (p : LedgerPool). p.state.facts) (records_there plain holds (pool_number (Records dev)) i kept place entry value)

  pub records_script : (entry : DevId × LedgerPool) → entry ≡ get_or plain.records.items i entry
      → entry.1.state.script ≡ ((objects_of plain).pool (pool_number (Records dev))).script
  records_script entry value = ap (λ (p : LedgerPool). p.state.script) (records_there plain holds (pool_number (Records dev)) i kept place entry value)
