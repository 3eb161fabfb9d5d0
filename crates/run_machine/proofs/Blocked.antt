-- When requests are not served, or not told of: what a task that waits for an object has to wait for.
use Rattle.std.proofs.Common.{◌≡◌, ℕ, zero, suc, true, false, List, [], Some, sym, subst, ◌∙◌, arith, true≢false, slice_get}
use Rattle.elem_ledger.specs.Ledger.{LedgerId}
use Rattle.stack_base.specs.declared.ids.DevId.{DevId}
use Rattle.stack_base.specs.declared.ids.SetId.{SetId}
use Rattle.stack_base.specs.PoolId.{pool_number}
use Rattle.fail_script.specs.Script.{allows_at}
use Rattle.mempool_core.specs.Move.{PoolState}
use Rattle.mempool_core.specs.Position.{uses_entry}
use Rattle.bioset_pools.specs.Sets.{bios_of}
use Rattle.bio_records.specs.declared.bio.Pad.{Pad}
use Rattle.bio_records.specs.Items.{Item}
use Rattle.run_machine.specs.declared.event.Got.TheVariants.{Ordinary, Spare}
use Rattle.run_machine.specs.declared.event.Got.TheVariants as got
use Rattle.run_machine.specs.declared.event.What.{What}
use Rattle.run_machine.specs.Requests.{Reply, TakeBio, Pop, Complete, HadBio, Missed, Popped, Completed, Nothing}
use Rattle.run_machine.specs.Objects.{Objects, Serves}
use Rattle.run_machine.specs.Events.{what_of}

-- a pool in which an attempt that waits finds nothing: no spare, and no ordinary memory by its script, of which all entries are used
pub record IsBare (pool : PoolState) : Type 0 where
  pub spares : pool.facts.spares ≡ 0
  pub refused : allows_at pool.script pool.facts.pos ≡ false
  pub used : uses_entry pool.script pool.facts.pos ≡ false

-- a waiting attempt there is no event at all
pub bare_waits : (ledger : ℕ → LedgerId) (old : Objects) (set : SetId) → IsBare (old.pool (pool_number (bios_of set)))
    → (reply : Reply) (new : Objects) (what : What) → Serves ledger old (TakeBio set true) reply new → what_of (TakeBio set true) reply ≡ Some what → ⊥
bare_waits ledger old set bare (HadBio Ordinary bio) new what serves told = true≢false (sym serves.0.0.0 ∙ bare.refused)
bare_waits ledger old set bare (HadBio Spare bio) new what serves told = absurd (omega (arith, serves.0.0.0, bare.spares))
bare_waits ledger old set bare (HadBio got.Missed bio) new what serves told = serves.0
bare_waits ledger old set bare (Missed true) new what serves told = true≢false (serves.0.1 ∙ bare.used)
bare_waits ledger old set bare (Missed false) new what serves told = cc
bare_waits ledger old set bare reply new what serves told = absurd serves

-- a rescuer with an empty list, and a completer of a disk in which nothing waits, have no event
pub empty_waits : (ledger : ℕ → LedgerId) (old : Objects) (dev : DevId) → old.rescue dev.0 ≡ []
    → (reply : Reply) (new : Objects) (what : What) → Serves ledger old (Pop dev) reply new → what_of (Pop dev) reply ≡ Some what → ⊥
empty_waits ledger old dev empty (Popped bio) new what serves told = cc
empty_waits ledger old dev empty Nothing new what serves told = cc
empty_waits ledger old dev empty reply new what serves told = absurd serves

abbrev none : List (Item Pad)
none = []

none_there : (index : ℕ) (bio : Item Pad) → slice_get none index ≡ Some bio → ⊥
none_there zero bio is = cc
none_there (suc index) bio is = cc

pub idle_waits : (ledger : ℕ → LedgerId) (old : Objects) (disk : DevId) → (old.disk disk.0).pending ≡ []
    → (reply : Reply) (new : Objects) (what : What) → Serves ledger old (Complete disk) reply new → what_of (Complete disk) reply ≡ Some what → ⊥
idle_waits ledger old disk empty (Completed index bio status) new what serves told =
    none_there index bio (subst (λ pending. slice_get pending index ≡ Some bio) empty serves.0.taken)
idle_waits ledger old disk empty Nothing new what serves told = cc
idle_waits ledger old disk empty reply new what serves told = absurd serves
