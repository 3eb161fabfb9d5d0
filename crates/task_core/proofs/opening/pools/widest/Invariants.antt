use Rattle.std.proofs.Common.{◌≡◌, drop}
use Rattle.task_core.specs.opened.Openings.{widest}
use Rattle.task_core.proofs.opening.pools.widest.Given as goal

abbrev pub invariant-widening : goal.invariant-widening
invariant-widening l = widest (drop l.i l.reserves) l.number l.most ≡ widest l.reserves l.number l.min
