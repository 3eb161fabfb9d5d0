-- What `layout` writes: where fragments go.
use Rattle.std.specs.Prelude.{◌<◌, List, [], ◌∷◌, ℕ, length, Contains, codes, decimal}
use Rattle.std.specs.List.{flat_map}
use Rattle.stack_base.specs.declared.stack.Stack.{Stack}
use Rattle.stack_base.specs.Names.{name_of_device}
use Rattle.layout_model.specs.declared.fragment.Fragment.{Fragment}
use Rattle.outside_io.specs.Saying.{joined_text}

-- `fragment W OFFSET LEN DISK AT`
abbrev pub fragment_line : Stack → Fragment → List ℕ
fragment_line stack f =
    joined_text (codes "fragment " ∷ decimal f.write ∷ codes " " ∷ decimal f.offset ∷ codes " " ∷ decimal f.len ∷ codes " " ∷ name_of_device stack f.disk.0 ∷ codes " " ∷ decimal f.at ∷ codes "\n" ∷ [])

-- a line for each fragment, in their order
unfoldable pub layout_text : Stack → List Fragment → List ℕ
layout_text stack fragments = flat_map (fragment_line stack) fragments

-- each of the fragments goes to a device of the stack
abbrev pub AreOnDevices : Stack → List Fragment → Type 0
AreOnDevices stack fragments = (f : Fragment) → Contains fragments f → f.disk.0 < length stack.devices.items
