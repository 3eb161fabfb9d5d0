-- The flag that was looked at is the one that is looked for.
use Rattle.std.proofs.Common.{arith}
use Rattle.model_disks.proofs.WrittenLemmas.{agrees}
use Rattle.model_disks.proofs.flags.first_place.Goals as goal

pub returns-then-flags-place : goal.returns-then-flags-place
returns-then-flags-place c =
    record { behind = omega arith; within = omega arith; others = c.looking.invariant; here = λ lt. agrees _ _ c.if-flags-place.true }
