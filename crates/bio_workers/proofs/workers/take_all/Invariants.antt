use Rattle.std.proofs.Common.{◌≡◌, ◌-◌, length, map}
use Rattle.bio_workers.specs.Hands.{AreOut}
use Rattle.shared_objects.specs.Rans.{ran_key}
use Rattle.shared_objects.specs.Shared.{SameShared, SharedHolds}
use Rattle.bio_workers.proofs.workers.take_all.Given as goal

-- those so far are out
abbrev pub invariant-loop-task : goal.invariant-loop-task
invariant-loop-task l = SharedHolds l.shared × AreOut l.shared (map ran_key l.tasks) × SameShared l.fn.shared l.shared × (length l.tasks ≡ l.shared.next)

abbrev pub decreases-loop-task : goal.decreases-loop-task
decreases-loop-task l = length l.shared.tasks.items - l.shared.next
