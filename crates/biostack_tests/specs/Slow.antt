-- When choices are a sector's way down to a disk, and a step of the way from a device that cuts runs.
use Rattle.std.specs.Prelude.{◌≡◌, ◌↔◌, ◌<◌, ◌≤◌, ℕ, List, ◌∷◌, length}
use Rattle.stack_base.specs.declared.stack.Stack.{Stack}
use Rattle.stack_base.specs.Tree.{tree, size}
use Rattle.layout_model.specs.Way.{FitsWay, place, heads}
use Rattle.biostack_tests.specs.declared.slow.Step.{Step}

-- the device is one of the stack and has such a sector, and the choices lead it down to a disk
pub record IsWay (stack : Stack) (dev sector : ℕ) (choices : List ℕ) : Type 0 where
  pub known : dev < length stack.devices.items
  pub within : sector < size (tree stack dev)
  pub fits : FitsWay (tree stack dev) sector choices

-- `to` is the step of sector `sector` from device `dev`, in a run from `start` on
pub record IsStep (stack : Stack) (dev start sector : ℕ) (to : Step) : Type 0 where
  -- the member is a device that was declared before, and has such a sector
  pub below : to.dev.0 < dev
  pub known : to.dev.0 < length stack.devices.items
  pub inside : to.sector < size (tree stack to.dev.0)
  -- its piece begins there, not behind it
  pub before : to.start ≤ to.sector
  -- the sector's way goes on there
  pub asks : (choices : List ℕ) → FitsWay (tree stack dev) sector choices ↔ FitsWay (tree stack to.dev.0) to.sector choices
  pub leads : (choices : List ℕ) → place (tree stack dev) sector choices ≡ place (tree stack to.dev.0) to.sector choices
  -- and after the head of the device come those from there on
  pub goes_on : (choices : List ℕ) → heads (tree stack dev) start sector choices ≡ to.head ∷ heads (tree stack to.dev.0) to.start to.sector choices
