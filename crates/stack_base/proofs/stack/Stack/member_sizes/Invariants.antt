use Rattle.std.proofs.Common.{◌≡◌, map, take}
use Rattle.stack_base.specs.declared.ids.DevId.{DevId}
use Rattle.stack_base.specs.Tree.{tree, size}
use Rattle.stack_base.proofs.stack.Stack.member_sizes.Given as goal

abbrev pub invariant-loop-member : goal.invariant-loop-member
invariant-loop-member l = l.sizes.items ≡ map (λ (m : DevId). size (tree l.self m.0)) (take l.member-index l.member-items)
