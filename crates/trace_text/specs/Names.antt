-- What a stack has, and how its names tell it.
use Rattle.std.specs.Prelude.{◌≡◌, ◌≤◌, ℕ, IsTrue, length, slice_get, Some}
use Rattle.stack_base.specs.declared.stack.Device.{Device}
use Rattle.stack_base.specs.declared.stack.Stack.{Stack}
use Rattle.decl_text.specs.Text.{is_name}
use Rattle.decl_text.specs.declared.accepted.Accepted.{Accepted}
pub use Rattle.run_machine.specs.Named.{is_disk_kind, is_mirror_kind, is_stacked_kind, is_any, has_device, HasDevice, HasPool}

-- each device has a name, and no two have the same
pub record DevicesAreNamed (stack : Stack) : Type 0 where
  pub few : length stack.devices.items ≤ 32
  pub named : (number : ℕ) (device : Device) → slice_get stack.devices.items number ≡ Some device → IsTrue (is_name device.name.bytes)
  pub apart : (i j : ℕ) (one other : Device) → slice_get stack.devices.items i ≡ Some one → slice_get stack.devices.items j ≡ Some other
      → one.name.bytes ≡ other.name.bytes → i ≡ j

-- a stack that the declarations of a text mean is named so
abbrev pub AcceptedStacksAreNamed : Type 0
AcceptedStacksAreNamed = (accepted : Accepted) → DevicesAreNamed accepted.stack
