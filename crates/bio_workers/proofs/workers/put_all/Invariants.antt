use Rattle.std.proofs.Common.{◌≡◌, All, true, length, map}
use Rattle.bio_workers.specs.Hands.{AreOut}
use Rattle.shared_objects.specs.Rans.{RanState, ran_key}
use Rattle.shared_objects.specs.Shared.{SameShared, SharedHolds}
use Rattle.bio_workers.proofs.workers.put_all.Given as goal

-- those in hand are out, and each of them has stopped
abbrev pub invariant-loop-task : goal.invariant-loop-task
invariant-loop-task l =
    SharedHolds l.shared
    × AreOut l.shared (map ran_key l.tasks)
    × All (λ (ran : RanState). ran.stopped ≡ true) l.tasks
    × SameShared l.fn.shared l.shared
    × (l.shared.next ≡ length l.shared.tasks.items)

abbrev pub decreases-loop-task : goal.decreases-loop-task
decreases-loop-task l = length l.tasks
