-- What stays as it is in a run.
use Rattle.std.specs.Prelude.{◌&&◌, ℕ, Bool, true, false, not, nat_lt, length, slice_get, Option, None, Some}
use Rattle.elem_ledger.specs.Ledger.{LedgerId}
use Rattle.stack_base.specs.declared.ids.DevId.{DevId}
use Rattle.stack_base.specs.declared.stack.Device.{Device}
use Rattle.stack_base.specs.declared.stack.Stack.{Stack}
use Rattle.stack_base.specs.Tree.{Tree, Leaf, Split, Mirrored, tree}
pub use Rattle.layout_model.specs.Shown.{keeps_data}

-- what tasks know: how many devices there are, each of them with all that is below it, whether its set has a rescuer, and how many places
-- the book of each writer has, since a task that finds no room has to tell it
pub record Setup : Type 0 where
  pub count : ℕ
  pub tree : ℕ → Tree
  pub rescuer : ℕ → Bool
  pub places : ℕ → ℕ

-- all that stays: what tasks know, how many tasks there are, a number that is above each writer's, how many writes there are, and the
-- ledger of each pool, by the pool's number
pub record Scene : Type 0 where
  pub setup : Setup
  pub tasks : ℕ
  pub books : ℕ
  pub writes : ℕ
  pub ledger : ℕ → LedgerId

abbrev pub tree_at : Setup → DevId → Tree
tree_at setup dev = setup.tree dev.0

-- the number of a device, by its tree
abbrev pub tree_number : Tree → ℕ
tree_number (Leaf number sectors) = number
tree_number (Split number kind sizes members) = number
tree_number (Mirrored number sizes members) = number

abbrev pub is_mirror : Tree → Bool
is_mirror (Leaf number sectors) = false
is_mirror (Split number kind sizes members) = false
is_mirror (Mirrored number sizes members) = true

abbrev pub is_device : Setup → ℕ → Bool
is_device setup dev = nat_lt dev setup.count

-- a disk is a device that keeps data itself
abbrev pub is_disk : Setup → ℕ → Bool
is_disk setup dev = is_device setup dev && keeps_data (setup.tree dev)

-- each device but a disk has a set of bios
abbrev pub has_set : Setup → ℕ → Bool
has_set setup dev = is_device setup dev && not (keeps_data (setup.tree dev))

abbrev pub rescuer_at : Option Device → Bool
rescuer_at None = false
rescuer_at (Some device) = device.rescuer

-- what tasks know of a stack, where the books have so many places
abbrev pub setup_of : Stack → (ℕ → ℕ) → Setup
setup_of stack places = record {
  count = length stack.devices.items;
  tree = tree stack;
  rescuer = λ dev. rescuer_at (slice_get stack.devices.items dev);
  places = places;
}
