-- What an accepted stack is like, beyond its shape: names, reserves and bad ranges.
use Rattle.std.specs.Prelude.{◌≡◌, ◌≢◌, ◌+◌, ◌≤◌, ℕ, Bool, false, IsTrue, slice_get, Contains, Some}
use Rattle.stack_base.specs.declared.ids.Bad.{Bad}
use Rattle.stack_base.specs.declared.ids.Status.TheVariants as status
use Rattle.stack_base.specs.declared.stack.Device.{Device}
use Rattle.stack_base.specs.declared.stack.Stack.{Stack}
use Rattle.stack_base.specs.Fault.{bads_of_kind}
use Rattle.decl_text.specs.Text.{is_name}
use Rattle.decl_text.specs.Known.{Declared, sectors_of}
use Rattle.decl_text.specs.Accepting.{declared_form, what_of_kind}
use Rattle.decl_text.specs.declared.item.What.{What}
use Rattle.decl_text.specs.declared.item.What.TheVariants as what

-- how many elements a pool may keep
abbrev pub IsReserve : ℕ → Type 0
IsReserve count = (1 ≤ count) × (count ≤ 1024)

-- what the pools of a device keep; a disk has no pool and no rescuer
abbrev pub HasReserves : What → ℕ → Bool → Type 0
HasReserves (what.Disk sectors) reserve rescuer = (reserve ≡ 0) × (rescuer ≡ false)
HasReserves what.Linear reserve rescuer = IsReserve reserve
HasReserves (what.Stripe chunk) reserve rescuer = IsReserve reserve
HasReserves (what.Zoned chunk) reserve rescuer = IsReserve reserve
HasReserves (what.Limit longest chunk) reserve rescuer = IsReserve reserve
HasReserves (what.Mirror records) reserve rescuer = IsReserve records × IsReserve reserve

-- a device of a stack with its name and its reserves as they may be
pub record IsFitDevice (device : Declared) : Type 0 where
  pub named : IsTrue (is_name device.name)
  pub reserves : HasReserves device.what device.reserve device.rescuer

-- a range of a disk of so many sectors, at which writes fail
pub record IsFitBad (sectors : ℕ) (bad : Bad) : Type 0 where
  pub some : 1 ≤ bad.range.len
  pub within : bad.range.start + bad.range.len ≤ sectors
  pub kind : bad.kind ≢ status.Ok

pub record IsFitStack (stack : Stack) : Type 0 where
  pub fs_bios : IsReserve stack.fs_bios
  pub fs_vecs : IsReserve stack.fs_vecs
  pub devices : (number : ℕ) (device : Device) → slice_get stack.devices.items number ≡ Some device → IsFitDevice (declared_form device)
  -- no two devices have one name
  pub names : (i j : ℕ) (one other : Device) → slice_get stack.devices.items i ≡ Some one → slice_get stack.devices.items j ≡ Some other
      → one.name.bytes ≡ other.name.bytes → i ≡ j
  pub bad : (number : ℕ) (device : Device) (bad : Bad) → slice_get stack.devices.items number ≡ Some device → Contains (bads_of_kind device.kind) bad
      → IsFitBad (sectors_of (what_of_kind device.kind)) bad
