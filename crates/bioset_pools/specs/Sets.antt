-- What a set is made of, and when an attempt at one of its bios does not wait.
use Rattle.std.specs.Prelude.{◌≡◌, ◌≤◌, ◌&&◌, ◌||◌, not, Bool, true, false, IsTrue, List, [], ◌∷◌, Option, None, Some, MatchOption, IsSomeAnd, ℕ}
use Rattle.stack_base.specs.declared.ids.SetId.{SetId}
use Rattle.stack_base.specs.declared.ids.SetId.TheVariants.{Fs, Of}
use Rattle.stack_base.specs.declared.ids.PoolId.{PoolId}
use Rattle.stack_base.specs.declared.ids.PoolId.TheVariants.{FsBios, FsVecs, Bios}
use Rattle.stack_base.specs.PoolId.{pool_number}
use Rattle.fail_script.specs.Script.{Answers}
use Rattle.mempool_core.specs.Pool.{LedgerPool}
use Rattle.mempool_core.specs.Move.{opened}
use Rattle.bio_records.specs.declared.bio.Pad.{Pad}
use Rattle.bio_records.specs.Items.{Item}
use Rattle.bio_records.specs.Rescue.{Rescue}
use Rattle.bio_records.specs.declared.tasks.TaskLists.{TaskLists}
use Rattle.bioset_pools.specs.declared.SetPlan.{SetPlan}
use Rattle.bioset_pools.specs.declared.SetParts.{SetParts}

abbrev pub IsFs : SetId → Type 0
IsFs Fs = Unit {0}
IsFs (Of dev) = ⊥

-- reserves of at least one element; vectors in the writers' set alone, and a rescuer in every other set at most
pub record IsPlan (plan : SetPlan) : Type 0 where
  pub bios : 1 ≤ plan.bios
  pub vecs : (min : ℕ) → plan.vecs ≡ Some min → (1 ≤ min) × IsFs plan.set
  pub rescuer : IsTrue plan.rescuer → IsFs plan.set → ⊥

abbrev pub bios_of : SetId → PoolId
bios_of Fs = FsBios
bios_of (Of dev) = Bios dev

-- a full pool of this number, with this reserve and script, and with nothing laid aside
pub record IsFull (pool : PoolId) (min : ℕ) (script : Answers) (made : LedgerPool) : Type 0 where
  pub number : made.ledger.no ≡ pool_number pool
  pub state : made.state ≡ opened min script
  pub most : made.most ≡ min

-- an empty list for the rescuer of a device's set
abbrev pub rescue_at : Bool → SetId → Option Rescue
rescue_at true (Of dev) = Some (record { dev = dev; bios = [] })
rescue_at _ _ = None

abbrev pub rescue_of : SetPlan → Option Rescue
rescue_of plan = rescue_at plan.rescuer plan.set

-- the pools are full and have the plan's reserves; the pool of vectors and the list are there exactly where the plan has them
pub record IsPlanned (plan : SetPlan) (bios vecs : Answers) (parts : SetParts) : Type 0 where
  pub bios_pool : IsFull (bios_of plan.set) plan.bios bios parts.bios
  pub vecs_pool : MatchOption plan.vecs (parts.vecs ≡ None) (λ min. IsSomeAnd parts.vecs (IsFull FsVecs min vecs))
  pub rescue_list : parts.list ≡ rescue_of plan

abbrev pub is_empty : List (Item Pad) → Bool
is_empty [] = true
is_empty (bio ∷ bios) = false

-- Whether the first attempt at a bio of a set waits, by whether the set has a rescuer. It does, unless there is one and one of the two lists
-- has a bio: such a bio may be of this very set, and nobody else would serve it while the task waits for its like. Then the task tries without
-- waiting, and if that misses it hands the bios of the set to the rescuer and waits (`bio_alloc_bioset`, block/bio.c, which takes
-- __GFP_DIRECT_RECLAIM away where `current->bio_list` has a bio and the set has a `rescue_workqueue`).
abbrev pub waits_first : Bool → TaskLists → Bool
waits_first rescuer lists = not rescuer || (is_empty lists.list0 && is_empty lists.list1)

-- the first attempt at a bio of the set of this plan is one that does not wait
abbrev pub IsFirstTry : SetPlan → TaskLists → Type 0
IsFirstTry plan lists = IsTrue (not (waits_first plan.rescuer lists))
