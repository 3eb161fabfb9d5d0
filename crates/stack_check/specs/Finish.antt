-- What is looked up of a draft when it is made a stack.
use Rattle.std.specs.Prelude.{◌≡◌, ◌≢◌, ◌==◌, Bool, ℕ, List, filter, find, map, slice_get, unwrap_or, Some}
use Rattle.std.specs.Option.{option_map}
use Rattle.fail_script.specs.Script.{Answers, only_tail}
use Rattle.stack_base.specs.declared.ids.Bad.{Bad}
use Rattle.stack_base.specs.PoolId.{pool_number}
use Rattle.stack_base.specs.declared.ids.PoolId.{PoolId}
use Rattle.stack_base.specs.declared.stack.Device.{Device}
use Rattle.stack_base.specs.Fault.{bads_of_kind}
use Rattle.decl_text.specs.Known.{BadOf, Declared, Scripted}
use Rattle.decl_text.specs.Accepting.{pools, declared_form}
use Rattle.decl_text.specs.Checks.{is_of_pool}

-- the script of a pool: the one given to it, or one of this tail alone
abbrev pub script_among : List Scripted → Bool → PoolId → Answers
script_among given tail pool = unwrap_or (option_map (λ s. s.script) (find (is_of_pool pool) given)) (only_tail tail)

-- each pool of these devices and of the writers with its script
abbrev pub shared_scripts : List Declared → List Scripted → Bool → List (PoolId × Answers)
shared_scripts devices given tail = map (λ pool. (pool, script_among given tail pool)) (pools devices)

-- the scripts that are left give each pool but this one the script that it had
abbrev pub OthersKeepTheirs : PoolId → List Scripted → List Scripted → Type 0
OthersKeepTheirs pool given left = (other : PoolId) → pool_number other ≢ pool_number pool → find (is_of_pool other) left ≡ find (is_of_pool other) given

-- the bad ranges of a disk among all
abbrev pub ranges_of : List BadOf → ℕ → List Bad
ranges_of bad number = map (λ b. b.bad) (filter (λ b. b.disk == number) bad)

-- the device is the one declared, with these bad ranges
abbrev pub IsBuilt : Declared → List Bad → Device → Type 0
IsBuilt device bad built = (declared_form built ≡ device) × (bads_of_kind built.kind ≡ bad)

-- these devices are those declared, with the bad ranges of their numbers
pub record AreBuilt (devices : List Declared) (bad : List BadOf) (built : List Device) : Type 0 where
  pub shown : map declared_form built ≡ devices
  pub ranges : (number : ℕ) (device : Device) → slice_get built number ≡ Some device → bads_of_kind device.kind ≡ ranges_of bad number
