-- The tree of a device has the device's number.
use Rattle.std.proofs.Common.{◌≡◌, ℕ, List, Option, None, Some, refl, ap, ◌∙◌, add-one}
use Rattle.std.specs.Prelude.{slice_get}
use Rattle.stack_base.specs.declared.stack.Device.{Device}
use Rattle.stack_base.specs.declared.stack.Kind.{Kind}
use Rattle.stack_base.specs.declared.stack.Stack.{Stack}
use Rattle.stack_base.specs.Tree.{Tree, Shape, Keeps, Cuts, Copies, shape_of, over_shape, built, tree_below, tree}
use Rattle.run_machine.specs.Scene.{tree_number}

of_shape : (shape : Shape) (number : ℕ) (kind : Kind) (members : List Tree) → tree_number (over_shape shape number kind members) ≡ number
unfolding over_shape
of_shape (Keeps sectors) number kind members = refl
of_shape Cuts number kind members = refl
of_shape Copies number kind members = refl

of_built : (number : ℕ) (device : Option Device) (below : ℕ → Tree) → tree_number (built number device below) ≡ number
of_built number None below = refl
of_built number (Some device) below = of_shape (shape_of device.kind) number device.kind _

pub number_of_tree : (stack : Stack) (number : ℕ) → tree_number (tree stack number) ≡ number
unfolding tree_below
number_of_tree stack number =
    ap (λ bound. tree_number (tree_below bound stack number)) (add-one number)
    ∙ of_built number (slice_get stack.devices.items number) (tree_below number stack)
