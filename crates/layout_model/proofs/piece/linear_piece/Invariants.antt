use Rattle.std.proofs.Common.{◌≡◌, ◌+◌, map, sum, take}
use Rattle.stack_base.specs.declared.ids.DevId.{DevId}
use Rattle.stack_base.specs.Tree.{size, tree}
use Rattle.layout_model.proofs.piece.linear_piece.Given as goal

abbrev pub invariant-loop-place : goal.invariant-loop-place
invariant-loop-place l = l.fn.start ≡ sum (map (λ (m : DevId). size (tree l.stack m.0)) (take l.place l.members)) + l.at
