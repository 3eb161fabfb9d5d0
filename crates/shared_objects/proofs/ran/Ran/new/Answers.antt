use Rattle.shared_objects.proofs.logs.RanHolds.{new_holds}
use Rattle.shared_objects.proofs.ran.Ran.new.Goals as goal

-- src/ran.rt
pub invariant_of-result : goal.invariant_of-result
invariant_of-result c =
    new_holds c.args.task c.args.seats c.args.locks.now c.of-first.result.value c.of.result.value c.noted_for-noted.result c.of-first.ensures c.of.ensures
    c.requires.desk c.requires.routing c.requires.task c.requires.pass c.requires.unused c.noted_for-noted.ensures.blank c.noted_for-noted.ensures.listed
