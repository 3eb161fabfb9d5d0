use Rattle.std.proofs.Common.{◌≡◌, map, take}
use Rattle.stack_base.specs.declared.ids.DevId.{DevId}
use Rattle.stack_base.specs.Tree.{size}
use Rattle.decl_text.specs.Known.{tree_of}
use Rattle.stack_check.proofs.devices.Devices.sizes_of.Given as goal

abbrev pub invariant-loop-member : goal.invariant-loop-member
invariant-loop-member l = l.sizes.items ≡ map (λ m. size (tree_of l.self m)) (map (λ (m : DevId). m.0) (take l.member-index l.members))
