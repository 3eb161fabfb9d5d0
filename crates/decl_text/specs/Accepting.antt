-- What an accepted declaration means: its stack and the scripts of its pools.
use Rattle.std.specs.Prelude.{◌≡◌, ◌==◌, not, Bool, true, false, List, [], ◌∷◌, ℕ, length, map, filter, flat_map, reverse, zip, find, slice_get, unwrap_or, Option, None, Some}
use Rattle.std.specs.List.{range_with_len}
use Rattle.std.specs.Option.{option_map}
use native.Mathlib.Nat.{ℕ_set}
use native.Mathlib.Bridge.{le_prop}
use Rattle.std.proofs.Props.{props}
use Rattle.fail_script.specs.Script.{Answers, only_tail}
use Rattle.stack_base.specs.declared.ids.Bad.{Bad}
use Rattle.stack_base.specs.declared.ids.PoolId.{PoolId}
use Rattle.stack_base.specs.declared.ids.PoolId.TheVariants.{FsBios, FsVecs, Bios, Records}
use Rattle.stack_base.specs.declared.stack.Kind.{Kind}
use Rattle.stack_base.specs.declared.stack.Kind.TheVariants as kind
use Rattle.stack_base.specs.declared.stack.Device.{Device}
use Rattle.stack_base.specs.declared.stack.Stack.{Stack}
use Rattle.decl_text.specs.Known.{Declarations, Declared, Reserves, nothing_declared}
use Rattle.stack_base.specs.Stack.{HasShape, IsStack}
use Rattle.stack_base.specs.Fault.{bads_of_kind}
use Rattle.decl_text.specs.Reasons.{number_of_reason}
use Rattle.decl_text.specs.Checks.{is_of_pool}
use Rattle.decl_text.specs.Refusals.{Check, item_checks, refusal, known_after}
use Rattle.decl_text.specs.Reading.{NonePass, is_work_line}
use Rattle.decl_text.specs.declared.item.What.{What}
use Rattle.decl_text.specs.declared.item.Item.{Item}
use Rattle.decl_text.specs.declared.item.What.TheVariants as what

abbrev pub what_of_kind : Kind → What
what_of_kind (kind.Disk sectors bad) = what.Disk sectors
what_of_kind kind.Linear = what.Linear
what_of_kind (kind.Stripe chunk) = what.Stripe chunk
what_of_kind (kind.Zoned chunk) = what.Zoned chunk
what_of_kind (kind.Limit longest chunk) = what.Limit longest chunk
what_of_kind (kind.Mirror records) = what.Mirror records

-- a device of a stack as it was declared
abbrev pub declared_form : Device → Declared
declared_form device = record {
  name = device.name.bytes;
  what = what_of_kind device.kind;
  members = map (λ m. m.0) device.members.items;
  reserve = device.reserve;
  rescuer = device.rescuer;
}

abbrev pub shown_devices : Stack → List Declared
shown_devices stack = map declared_form stack.devices.items

-- the bad ranges of a disk, in the order of their lines
abbrev pub bad_ranges : Declarations → ℕ → List Bad
bad_ranges known number = map (λ b. b.bad) (filter (λ b. b.disk == number) known.bad)

-- the reserves of the writers' set, which are 2 where no line says otherwise
abbrev pub reserves_or_two : Option Reserves → Reserves
reserves_or_two None = record { bios = 2; vecs = 2 }
reserves_or_two (Some reserves) = reserves

-- the pools of a device, by falling number
abbrev pub device_pools : ℕ → What → List PoolId
device_pools number (what.Disk sectors) = []
device_pools number (what.Mirror records) = Records (record { 0 = number }) ∷ Bios (record { 0 = number }) ∷ []
device_pools number what.Linear = Bios (record { 0 = number }) ∷ []
device_pools number (what.Stripe chunk) = Bios (record { 0 = number }) ∷ []
device_pools number (what.Zoned chunk) = Bios (record { 0 = number }) ∷ []
device_pools number (what.Limit longest chunk) = Bios (record { 0 = number }) ∷ []

-- all pools, by falling number
abbrev pub pools : List Declared → List PoolId
pools devices = FsBios ∷ FsVecs ∷ flat_map (λ at. device_pools at.0 at.1.what) (reverse (zip (range_with_len 0 (length devices)) devices))

-- the script of a pool: its line's, or none of entries, with memory for all takes unless a line says otherwise
abbrev pub script_of : Declarations → PoolId → Answers
script_of known pool = unwrap_or (option_map (λ s. s.script) (find (is_of_pool pool) known.scripts)) (only_tail (not known.no_memory))

abbrev pub scripts_of : Declarations → List (PoolId × Answers)
scripts_of known = map (λ pool. (pool, script_of known pool)) (pools known.devices)

-- the stack and the scripts that these declarations mean
pub record MeansStack (known : Declarations) (stack : Stack) (pool_scripts : List (PoolId × Answers)) : Type 0 where
  pub devices : shown_devices stack ≡ known.devices
  pub bad : (number : ℕ) (device : Device) → slice_get stack.devices.items number ≡ Some device
      → bads_of_kind device.kind ≡ bad_ranges known number
  pub fs_bios : stack.fs_bios ≡ (reserves_or_two known.fs).bios
  pub fs_vecs : stack.fs_vecs ≡ (reserves_or_two known.fs).vecs
  pub scripts : pool_scripts ≡ scripts_of known

-- the checks but for the one of rescuers, without which a stack can be shared out and run, but may hang
abbrev pub loose_checks : List (Check Item)
loose_checks = filter (λ check. not (number_of_reason check.reason == 10)) item_checks

-- the checks of declarations: all of them, or the loose ones
abbrev pub checks_for : Bool → List (Check Item)
checks_for true = loose_checks
checks_for false = item_checks

-- some lines before all writes and `sync` lines, which have no refusal but perhaps that of rescuers, mean this stack and these scripts
abbrev pub IsDeclaredSo : Stack → List (PoolId × Answers) → Type 0
IsDeclaredSo stack pool_scripts =
    (all : List (List ℕ)) × NonePass is_work_line all × (refusal loose_checks nothing_declared 1 all ≡ None) × MeansStack (known_after nothing_declared all) stack pool_scripts

pub HasShape-prop : (kind : Kind) (members : ℕ) → IsProp (HasShape kind members)
HasShape-prop (kind.Disk sectors bad) members = hlevel (ℕ_set, le_prop)
HasShape-prop kind.Linear members = hlevel (ℕ_set, le_prop)
HasShape-prop (kind.Stripe chunk) members = hlevel (ℕ_set, le_prop)
HasShape-prop (kind.Zoned chunk) members = hlevel (ℕ_set, le_prop)
HasShape-prop (kind.Limit longest chunk) members = hlevel (ℕ_set, le_prop)
HasShape-prop (kind.Mirror records) members = hlevel (ℕ_set, le_prop)

pub IsStack-prop : (stack : Stack) → IsProp (IsStack stack)
IsStack-prop stack = hlevel (HasShape-prop, ℕ_set, le_prop, props)
