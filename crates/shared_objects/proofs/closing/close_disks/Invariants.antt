use Rattle.std.proofs.Common.{◌≤◌, vec_capacity}
use Rattle.shared_objects.specs.Shutting.{IsShutDisk}
use Rattle.shared_objects.proofs.row_lemmas.PairedRows.{PairsAreAdded}
use Rattle.shared_objects.proofs.closing.close_disks.Given as goal

abbrev pub invariant-closing : goal.invariant-closing
invariant-closing l =
    (vec_capacity l.fn.shut ≤ vec_capacity l.shut)
    × PairsAreAdded IsShutDisk l.fn.locks.items l.fn.firsts.items l.fn.shut.items l.lock-iterator.rest.items l.rest.rest.items l.shut.items
