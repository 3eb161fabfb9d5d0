use Rattle.std.proofs.Common.{◌≡◌, take}
use Rattle.biostack_top.specs.Running.{sectors_of_writes}
use Rattle.biostack_top.proofs.run.sectors.Given as goal

abbrev pub invariant-adding : goal.invariant-adding
invariant-adding l = l.sectors ≡ sectors_of_writes (take l.write-index l.writes)
