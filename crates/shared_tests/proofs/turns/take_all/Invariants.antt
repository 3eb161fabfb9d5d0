use Rattle.std.proofs.Common.{◌≡◌, ◌-◌, length, map}
use Rattle.bio_workers.specs.Hands.{AreOut}
use Rattle.shared_objects.specs.Rans.{ran_key}
use Rattle.shared_objects.specs.Shared.{SharedHolds}
use Rattle.shared_tests.proofs.turns.take_all.Given as goal

-- those so far are out
abbrev pub invariant-loop-ran : goal.invariant-loop-ran
invariant-loop-ran l = SharedHolds l.shared × AreOut l.shared (map ran_key l.out.items) × (l.shared.told.value ≡ l.fn.shared.told.value)

abbrev pub decreases-loop-ran : goal.decreases-loop-ran
decreases-loop-ran l = length l.shared.tasks.items - l.shared.next
