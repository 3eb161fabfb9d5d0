-- Each leg of a mirror in a stack goes to a device of the stack.
use Rattle.std.proofs.Common.{◌≡◌, ◌<◌, ℕ, length, Some, sym, ◌∙◌, ap, arith, get_or}
use Rattle.std.specs.Prelude.{slice_get}
use Rattle.std.proofs.lemmas.List.{length-map}
use Rattle.std.proofs.lemmas.Option.{slice_get-get_or}
use Rattle.stack_base.specs.declared.ids.DevId.{DevId}
use Rattle.stack_base.specs.declared.stack.Device.{Device}
use Rattle.stack_base.specs.declared.stack.Stack.{Stack}
use Rattle.stack_base.specs.Stack.{IsStack}
use Rattle.stack_base.specs.Tree.{Tree, Leaf, Split, Mirrored, Copies as Copying_, shape_of, size, tree, sizes_at}
use Rattle.layout_model.proofs.ByShape.{member_is}
use Rattle.run_machine.specs.Scene.{tree_number}
use Rattle.run_machine.proofs.TreeNumbers.{number_of_tree}
use Rattle.block_core.proofs.moves.Geometry.{members_at, of_each_shape}

-- where a mirror has such a leg, what is below it there is the tree of the member's number
abbrev pub GoesDown : Stack → Tree → ℕ → Type 0
GoesDown stack (Mirrored number sizes members) leg = leg < length sizes → tree stack (tree_number (members leg)) ≡ members leg
GoesDown stack (Leaf number sectors) leg = Unit {0}
GoesDown stack (Split number kind sizes members) leg = Unit {0}

pub legs_go_down : (stack : Stack) → IsStack stack → (dev leg : ℕ) → dev < length stack.devices.items → GoesDown stack (tree stack dev) leg
legs_go_down stack good dev leg known = of_each_shape stack good no_places (λ t. GoesDown stack t leg) dev known (λ sectors. tt) (λ device found e. tt) here
  where
    no_places : ℕ → ℕ
    no_places writer = 0

    here : (device : Device) → slice_get stack.devices.items dev ≡ Some device → shape_of device.kind ≡ Copying_
        → leg < length (sizes_at stack device) → tree stack (tree_number (members_at stack dev device leg)) ≡ members_at stack dev device leg
    here device found e lt =
        let items = device.members.items in
        let few : leg < length items = omega (arith, lt, length-map items (λ (m : DevId). size (tree stack m.0))) in
        let m : DevId = get_or items leg (record { 0 = 0 }) in
        let at : slice_get items leg ≡ Some m = slice_get-get_or items leg (record { 0 = 0 }) few in
        let member : members_at stack dev device leg ≡ tree stack m.0 = member_is stack good dev device found leg m at in
        ap (tree stack) (ap tree_number member ∙ number_of_tree stack m.0) ∙ sym member
