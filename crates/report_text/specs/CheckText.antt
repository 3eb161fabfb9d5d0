-- What `check` writes: the devices of a stack, and what its writes need together.
use Rattle.std.specs.Prelude.{◌+◌, ◌*◌, List, [], ◌∷◌, ◌++◌, ℕ, codes, decimal}
use Rattle.stack_base.specs.declared.stack.Kind.{Kind}
use Rattle.stack_base.specs.declared.stack.Kind.TheVariants.{Disk, Linear, Stripe, Zoned, Limit, Mirror}
use Rattle.stack_base.specs.declared.stack.Device.{Device}
use Rattle.stack_base.specs.declared.stack.Stack.{Stack}
use Rattle.stack_base.specs.Tree.{tree, size}
use Rattle.layout_model.specs.declared.totals.Bounds.{Bounds}
use Rattle.outside_io.specs.Saying.{joined_text}

abbrev pub kind_name : Kind → List ℕ
kind_name (Disk sectors bad) = codes "disk"
kind_name Linear = codes "linear"
kind_name (Stripe chunk) = codes "stripe"
kind_name (Zoned chunk) = codes "zoned"
kind_name (Limit longest chunk) = codes "limit"
kind_name (Mirror records) = codes "mirror"

-- `device NAME KIND SIZE`, the size in sectors
abbrev pub device_line : Device → ℕ → List ℕ
device_line device sectors =
    joined_text (codes "device " ∷ device.name.bytes ∷ codes " " ∷ kind_name device.kind ∷ codes " " ∷ decimal sectors ∷ codes "\n" ∷ [])

-- a line for each device, the first of which has this number
abbrev pub device_lines : Stack → ℕ → List Device → List ℕ
device_lines stack number [] = []
device_lines stack number (device ∷ more) = device_line device (size (tree stack number)) ++ device_lines stack (number + 1) more

-- no run has more steps: 8 for each element, 2 for each fragment and 1 for each entry of a script
abbrev pub steps_bound : Bounds → ℕ
steps_bound bound = 8 * bound.e + 2 * bound.g + bound.z

-- `need e E g G z Z bound B`
abbrev pub need_line : Bounds → List ℕ
need_line bound =
    joined_text (codes "need e " ∷ decimal bound.e ∷ codes " g " ∷ decimal bound.g ∷ codes " z " ∷ decimal bound.z ∷ codes " bound " ∷ decimal (steps_bound bound) ∷ codes "\n" ∷ [])

-- all of it
abbrev pub check_text : Stack → Bounds → List ℕ
check_text stack bound = device_lines stack 0 stack.devices.items ++ need_line bound
