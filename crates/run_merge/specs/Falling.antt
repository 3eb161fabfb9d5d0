-- The pools of devices: in rows by rising number, and their facts by falling number.
use Rattle.std.specs.Prelude.{◌≡◌, ◌≢◌, ◌⊎◌, ◌++◌, if◌then◌else◌, ℕ, zero, suc, Bool, List, [], ◌∷◌, map}
use Rattle.stack_base.specs.declared.ids.DevId.{DevId}
use Rattle.stack_base.specs.declared.ids.PoolId.{PoolId}
use Rattle.stack_base.specs.declared.ids.PoolId.TheVariants.{Bios, Records, FsBios, FsVecs}
use Rattle.stack_base.specs.declared.ids.SetId.{SetId}
use Rattle.stack_base.specs.declared.ids.SetId.TheVariants.{Fs, Of}
use Rattle.mempool_core.specs.declared.Facts.{Facts}
use Rattle.mempool_core.specs.Pool.{LedgerPool}
use Rattle.seat_lock.specs.declared.lock.Shut.{Shut}
use Rattle.object_things.specs.Stamps.{Stamped}
use Rattle.run_machine.specs.Opened.{device_at}

-- which devices have a set of bios, which are mirrors, and the facts of each pool
pub record DevicePools : Type 0 where
  pub has_set : ℕ → Bool
  pub is_mirror : ℕ → Bool
  pub facts : PoolId → Facts

-- the facts of a pool that was closed
abbrev pub facts_left : {Q P D A R M : Type 0} → Shut (Stamped LedgerPool) Q P D A R M → Facts
facts_left shut = shut.thing.object.state.facts

-- the facts of each pool of a row, with its key
abbrev pub row_of : {K X : Type 0} → (X → Facts) → List (K × X) → List (K × Facts)
row_of facts row = map (λ entry. (entry.0, facts entry.1)) row

-- what there is of a number, and of the numbers below one, in their order
abbrev pub at_number : {A : Type 0} → (ℕ → Bool) → (ℕ → A) → ℕ → List A
at_number has entry number = if has number then entry number ∷ [] else []

unfoldable pub below : {A : Type 0} → (ℕ → Bool) → (ℕ → A) → ℕ → List A
below has entry zero = []
below has entry (suc number) = below has entry number ++ at_number has entry number

-- the pools of the devices below a number, in rows
abbrev pub sets_below : DevicePools → ℕ → List (SetId × Facts)
sets_below pools = below pools.has_set (λ number. (Of (device_at number), pools.facts (Bios (device_at number))))

abbrev pub records_below : DevicePools → ℕ → List (DevId × Facts)
records_below pools = below pools.is_mirror (λ number. (device_at number, pools.facts (Records (device_at number))))

-- a pool with its facts
abbrev pub with_facts : DevicePools → PoolId → PoolId × Facts
with_facts pools pool = (pool, pools.facts pool)

-- all pools of the devices below a number, by falling number: of each device its records before its bios
unfoldable pub falling_below : DevicePools → ℕ → List (PoolId × Facts)
falling_below pools zero = []
falling_below pools (suc number) =
    at_number pools.is_mirror (λ n. with_facts pools (Records (device_at n))) number
    ++ (at_number pools.has_set (λ n. with_facts pools (Bios (device_at n))) number ++ falling_below pools number)

module _ {K X : Type 0} (facts : X → Facts) where
  -- the last of a row left it, and its facts stand behind others, by the name of its pool
  pub record MovesLast (pool : PoolId) (old : List (K × X)) (before : List (PoolId × Facts)) (new : List (K × X)) (after : List (PoolId × Facts)) : Type 0 where
    pub last : K × X
    pub was : old ≡ new ++ last ∷ []
    pub added : after ≡ before ++ (pool, facts last.1) ∷ []

  -- so it was where the last has this key, and else nothing was changed
  abbrev pub MovesIf : K → PoolId → List (K × X) → List (PoolId × Facts) → List (K × X) → List (PoolId × Facts) → Type 0
  MovesIf key pool old before new after =
      ((move : MovesLast pool old before new after) × (move.last.0 ≡ key))
      ⊎ (((rest : List (K × X)) (last : K × X) → old ≡ rest ++ last ∷ [] → last.0 ≢ key) × (new ≡ old) × (after ≡ before))

module _ {X Y : Type 0} (of_bios : X → Facts) (of_records : Y → Facts) where
  -- whichever pools of devices these rows have, their facts stand behind others by falling number
  abbrev pub AddsFalling : List (SetId × X) → List (DevId × Y) → List (PoolId × Facts) → List (PoolId × Facts) → Type 0
  AddsFalling bios records before after =
      (all : DevicePools) → row_of of_bios bios ≡ sets_below all 32 → row_of of_records records ≡ records_below all 32 → after ≡ before ++ falling_below all 32

  -- and behind those of the writers, whose bios are the first of their row, they are all
  abbrev pub AreAllFalling : List (SetId × X) → Facts → List (DevId × Y) → List (PoolId × Facts) → Type 0
  AreAllFalling bios vecs records result =
      (all : DevicePools) → row_of of_bios bios ≡ (Fs, all.facts FsBios) ∷ sets_below all 32 → row_of of_records records ≡ records_below all 32
      → vecs ≡ all.facts FsVecs → result ≡ with_facts all FsBios ∷ with_facts all FsVecs ∷ falling_below all 32
