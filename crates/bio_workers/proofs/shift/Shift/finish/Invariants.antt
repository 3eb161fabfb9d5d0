use Rattle.std.proofs.Common.{◌≡◌, map}
use Rattle.bio_workers.proofs.shift.Shift.finish.Given as goal

abbrev pub invariant-loop : goal.invariant-loop
invariant-loop g l = map g.W.Work.key l.tasks ≡ map g.W.Work.key l.fn.tasks
