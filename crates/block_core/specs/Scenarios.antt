-- What laws ask of a scenario, and of ledgers.
use Rattle.std.specs.Prelude.{◌≡◌, ◌<◌, ◌≤◌, ℕ, List, [], ◌∷◌, length, slice_get, All, Some}
use Rattle.elem_ledger.specs.Ledger.{LedgerId}
use Rattle.stack_base.specs.declared.stack.Device.{Device}
use Rattle.stack_base.specs.declared.stack.Kind.{Kind}
use Rattle.stack_base.specs.declared.stack.Kind.TheVariants.{Disk, Linear, Stripe, Zoned, Limit, Mirror}
use Rattle.stack_base.specs.Stack.{IsStack}
use Rattle.layout_model.specs.declared.write.Write.{Write}
use Rattle.layout_model.specs.Writes.{IsWrite}
use Rattle.run_machine.specs.declared.event.Event.{Event}
use Rattle.run_machine.specs.Opened.{Change, Scenario, scene, start}
use Rattle.run_machine.specs.Runs.{State, IsRun}

-- what an accepted text means: its stack is one, and serves its writes, whose writers have numbers below 8, and each write has a round
pub record IsScenario (s : Scenario) : Type 0 where
  pub stack : IsStack s.stack
  pub writes : All (IsWrite s.stack) s.writes
  pub writers : All (λ (write : Write). write.task < 8) s.writes
  pub rounds : length s.rounds ≡ length s.writes

-- the ledger of each pool has the pool's number
abbrev pub IsNaming : (ℕ → LedgerId) → Type 0
IsNaming ledger = (number : ℕ) → (ledger number).no ≡ number

-- so it is after every event of every run of every scenario
abbrev pub InEveryRun : (Scenario → (ℕ → LedgerId) → List Event → State → Type 0) → Type 0
InEveryRun Holds = (s : Scenario) (ledger : ℕ → LedgerId) (events : List Event) (state : State) → IsScenario s → IsNaming ledger
    → IsRun (scene s ledger) (start s) events state → Holds s ledger events state

-- the rounds of writes do not fall: each is at most any later one
abbrev pub AreSorted : List ℕ → Type 0
AreSorted [] = Unit {0}
AreSorted (round ∷ rounds) = All (λ later. round ≤ later) rounds × AreSorted rounds

-- no pool of a device is without an element
abbrev pub KeepsSome : Kind → ℕ → Type 0
KeepsSome (Disk sectors bad) reserve = Unit {0}
KeepsSome Linear reserve = 1 ≤ reserve
KeepsSome (Stripe chunk) reserve = 1 ≤ reserve
KeepsSome (Zoned chunk) reserve = 1 ≤ reserve
KeepsSome (Limit longest chunk) reserve = 1 ≤ reserve
KeepsSome (Mirror records) reserve = (1 ≤ reserve) × (1 ≤ records)

-- nor any other, at the start and behind each change
pub record EveryPoolKeepsSome (s : Scenario) : Type 0 where
  pub bios : 1 ≤ s.stack.fs_bios
  pub vecs : 1 ≤ s.stack.fs_vecs
  pub devices : (number : ℕ) (device : Device) → slice_get s.stack.devices.items number ≡ Some device → KeepsSome device.kind device.reserve
  pub changes : All (λ (change : Change). 1 ≤ change.min) s.changes
