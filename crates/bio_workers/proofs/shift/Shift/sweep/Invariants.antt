use Rattle.std.proofs.Common.{◌≡◌, All, map, take}
use Rattle.bio_workers.specs.declared.work.WorkOutcome.TheVariants.{Over}
use Rattle.bio_workers.proofs.Sweeps.{IsSwept}
use Rattle.bio_workers.proofs.shift.Shift.sweep.Given as goal

-- The tasks are the same, and those so far are over if nothing else came of them. Those so far were visited, and the others wait.
abbrev pub invariant-loop-at : goal.invariant-loop-at
invariant-loop-at g l =
    (map g.W.Work.key l.tasks ≡ map g.W.Work.key l.fn.tasks)
    × (l.came ≡ Over → All g.W.Work.is_over (take l.at l.tasks))
    × IsSwept g.W.Work.goes l.at l.came l.fn.tasks l.tasks
