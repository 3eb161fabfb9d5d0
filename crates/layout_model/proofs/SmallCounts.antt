-- What runs at the devices of a stack need is a number of 64 bits.
use Rattle.std.proofs.Common.{ℕ, ◌+◌, ◌*◌, ◌<◌, ◌≤◌, length, arith}
use Rattle.std.proofs.Math.Nat.{mul-le-mul}
use Rattle.stack_base.specs.declared.stack.Stack.{Stack}
use Rattle.stack_base.specs.Stack.{IsStack}
use Rattle.stack_base.specs.Tree.{size, most_begun, tree}
use Rattle.layout_model.specs.Need.{needed, fragments_in_run}
use Rattle.layout_model.proofs.AtMost.{needed_le_most, fragments_le_needed}
use Rattle.layout_model.proofs.Closed.{closed_tree}
use Rattle.layout_model.proofs.Stacks.{element, tree_sound}

module _ (stack : Stack) (good : IsStack stack) (number start len : ℕ) (known : number < length stack.devices.items)
    (within : start + len ≤ size (tree stack number)) where
  -- a run needs no more than 288 elements at each of its at most 262,144 sectors
  pub needed_small : needed (tree stack number) start len ≤ 75497472
  needed_small =
      let there = element stack.devices.items number known in
      let is_device = good.each number there.0 there.1 in
      let most : needed (tree stack number) start len ≤ most_begun (tree stack number) * len =
      needed_le_most (tree stack number) start len (closed_tree stack number) in
      let both : most_begun (tree stack number) * len ≤ 288 * 262144 = mul-le-mul {n₂ = 288} {m₂ = 262144} is_device.narrow (omega (arith, is_device.small)) in
      omega arith

  -- and has no more fragments than it needs elements, but for one
  pub fragments_small : 1 ≤ len → fragments_in_run (tree stack number) start len ≤ 75497473
  fragments_small some =
      omega (arith, needed_small, fragments_le_needed (tree stack number) start len (tree_sound stack good number known) some)
