-- What a linear device keeps.
use Rattle.std.specs.Prelude.{◌≡◌, ℕ, List, length}
use Rattle.stack_base.specs.declared.stack.Kind.TheVariants.{Linear}
use Rattle.stack_base.specs.Mapping.{size_of}
use Rattle.stack_base.specs.Stack.{HasShape}

-- the sizes of its members, of which there are from 1 to 8, and how many sectors these have together
pub record IsLinear (sizes : List ℕ) (sectors : ℕ) : Type 0 where
  pub shape : HasShape Linear (length sizes)
  pub whole : sectors ≡ size_of Linear sizes
