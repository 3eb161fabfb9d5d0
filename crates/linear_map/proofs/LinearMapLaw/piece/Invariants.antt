use Rattle.std.proofs.Common.{◌≡◌, ◌+◌, sum, take}
use Rattle.linear_map.proofs.LinearMapLaw.piece.Given as goal

abbrev pub invariant-loop-member : goal.invariant-loop-member
invariant-loop-member l = l.fn.start ≡ sum (take l.member l.self) + l.at
