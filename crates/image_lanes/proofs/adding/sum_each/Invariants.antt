use Rattle.std.proofs.Common.{◌≡◌, take}
use Rattle.image_lanes.specs.Lanes.{sum_mod}
use Rattle.image_lanes.proofs.adding.sum_each.Given as goal

abbrev pub invariant-adding : goal.invariant-adding
invariant-adding l = l.all ≡ sum_mod (take l.word-index l.words)
