-- Looking pools up among the devices that a stack shows.
use Rattle.std.proofs.Common.{◌≡◌, ℕ, ◌++◌, List, sym}
use Rattle.std.specs.List.{position}
use Rattle.std.specs.Str.{bytes_eq}
use Rattle.stack_base.specs.declared.stack.Device.{Device}
use Rattle.stack_base.specs.declared.stack.Stack.{Stack}
use Rattle.decl_text.specs.Accepting.{declared_form, shown_devices}
use Rattle.decl_text.specs.Known.{Declared, device_before}
use Rattle.work_text.proofs.NameLemmas.{position-map}

pub shown_before : (stack : Stack) (suffix word : List ℕ)
    → position (λ (device : Device). bytes_eq (device.name.bytes ++ suffix) word) stack.devices.items ≡ device_before suffix (shown_devices stack) word
shown_before stack suffix word = sym (position-map (λ (device : Declared). bytes_eq (device.name ++ suffix) word) declared_form stack.devices.items)
