use Rattle.std.proofs.Common.{◌≡◌, ◌+◌, ◌%◌, ◌≤◌, length}
use Rattle.bio_workers.specs.Parting.{IsParting}
use Rattle.bio_workers.specs.declared.few.TheConstants.{MOST_TASKS}
use Rattle.bio_workers.proofs.hand.part.Given as goal

abbrev pub invariant-parting : goal.invariant-parting
invariant-parting g l =
    IsParting (λ t. g.W.Work.number (g.W.Work.key t) % l.workers ≡ l.worker) l.fn.tasks l.own l.others l.tasks
    × (length l.tasks + l.done ≡ length l.fn.tasks)
    × (length l.own + length l.others + length l.tasks ≤ MOST_TASKS)
