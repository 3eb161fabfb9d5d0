use Rattle.std.proofs.Common.{◌≡◌}
use Rattle.bio_workers.proofs.visit.step_on.Given as goal

-- it is the same task
abbrev pub invariant-loop : goal.invariant-loop
invariant-loop g l = g.W.Work.key l.task ≡ g.W.Work.key l.fn.task
